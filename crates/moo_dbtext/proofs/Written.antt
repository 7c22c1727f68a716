-- The text of a world may be written as a database text.
use Rattle.std.proofs.Common.{◌≡◌, ℕ, ℤ, ◌+◌, ◌<◌, ◌≤◌, ◌^◌, List, [], ◌∷◌, ◌++◌, length, map, Option, Some, None, FitsSigned, w32, refl, sym, ap, subst, ◌∙◌, arith}
use Rattle.std.specs.List.{All, AllByRecursion, range_with_len}
use Rattle.std.specs.Option.{unwrap_or, option_map}
use Rattle.std.proofs.lemmas.List.{length-map, get_or_default}
use Rattle.std.proofs.lemmas.List.Elements.{recursion_from_All}
use Rattle.std.proofs.lemmas.List.FromFn.{length-map-range_with_len}
use Rattle.moo_value.specs.Size.{IsString}
use Rattle.moo_syntax_ast.specs.Tree.{Block}
use Rattle.moo_syntax_ast.specs.Listing.{listing}
use Rattle.moo_world_object.specs.Objects.{Object}
use Rattle.moo_world_object.specs.declared.verb.Verb.{Verb}
use Rattle.moo_world_table.specs.World.{World, nothing, object_of, most, IsWellFormed}
use Rattle.moo_dbtext_object.specs.Lines.{Line, Sizes, IsCountOf}
use Rattle.moo_dbtext_record.specs.Programs.{Row, Table, Program, no_program, blank_entry, blank_table, Fills, IsSourceLine, IsProgramText}
use Rattle.moo_dbtext_record.specs.Texts.{IsLink}
use Rattle.moo_dbtext_record.specs.Writing.{verb_programs, row_programs, table_programs, IsWritable}
use Rattle.moo_dbtext_record.specs.declared.dump.Form.TheVariants.{WithListeners}
use Rattle.moo_dbtext_record.proofs.Canonical.{emptied_row, emptied, canonical_fills}
use Rattle.moo_dbtext_restore.specs.Says.{recorded_verb, program_of}
use Rattle.moo_dbtext_restore.specs.Recorded.{recorded_object, recorded_at, programs_at, records_of}
use Rattle.moo_dbtext.specs.Held.{IsHeldProgram, HoldsProgram, IsHeld}
use Rattle.moo_dbtext.specs.Texts.{source_of, row_of, row_at, table_of, link_to, text_of_world}
use Rattle.moo_dbtext.proofs.Values.{string_written, count_written}
use Rattle.moo_dbtext.proofs.Dots.{IsMore, listing_more}
use Rattle.moo_dbtext.proofs.Objects.{all_mapped, objects_written}
use Rattle.moo_dbtext.proofs.Rows.{table_is}
use Rattle.moo_dbtext.proofs.Counts.{programs_counted}

-- ---- programs

-- the programs of the object with a number, and not too many verbs
abbrev HasRow : Option Object → Type 0
HasRow o = All HoldsProgram (unwrap_or o nothing).verbs × (length (unwrap_or o nothing).verbs ≤ most)

module _ (s : Sizes) where
  lines_written : (lines : List Line) → AllByRecursion IsString lines → AllByRecursion IsMore lines → AllByRecursion (IsSourceLine s) lines
  lines_written [] h k = tt
  lines_written (line ∷ lines) h k = (record { text = string_written s line h.0; more = k.0 }, lines_written lines h.1 k.1)

  abbrev AreLines : Option (List Line) → Type 0
  AreLines None = Unit {0}
  AreLines (Some lines) = AllByRecursion (IsSourceLine s) lines

  source_written : (b : Option Block) → IsHeldProgram b → AreLines (source_of b)
  source_written None h = tt
  source_written (Some b) h = lines_written (listing b) (recursion_from_All IsString (listing b) h.strings) (listing_more b)

  parts : (ps qs : List Program) → AllByRecursion (IsProgramText s) ps → AllByRecursion (IsProgramText s) qs → AllByRecursion (IsProgramText s) (ps ++ qs)
  parts [] qs h k = k
  parts (p ∷ ps) qs h k = (h.0, parts ps qs h.1 k)

  one_written : (o v : ℕ) (p : Option (List Line)) → o < 2 ^ 31 → v < 2 ^ 31 → AreLines p → AllByRecursion (IsProgramText s) (verb_programs o v p)
  one_written o v None low few h = tt
  one_written o v (Some lines) low few h = (record { object = low; verb = few; source = h }, tt)

  row_written : (o v : ℕ) (verbs : List Verb) → o < 2 ^ 31 → v + length verbs ≤ 2 ^ 31 → AllByRecursion HoldsProgram verbs
      → AllByRecursion (IsProgramText s) (row_programs o v (row_of (map program_of verbs)))
  row_written o v [] low few h = tt
  row_written o v (x ∷ verbs) low few h =
      parts (verb_programs o v (source_of x.program)) (row_programs o (v + 1) (row_of (map program_of verbs)))
      (one_written o v (source_of x.program) low (omega (arith, few)) (source_written x.program h.0))
      (row_written o (v + 1) verbs low (omega (arith, few)) h.1)

  table_written : (o : ℕ) (objects : List (Option Object)) → o + length objects ≤ 2 ^ 31 → AllByRecursion HasRow objects
      → AllByRecursion (IsProgramText s) (table_programs o (map row_at objects))
  table_written o [] low h = tt
  table_written o (x ∷ objects) low h =
      parts (row_programs o 0 (row_at x)) (table_programs (o + 1) (map row_at objects))
      (row_written o 0 (unwrap_or x nothing).verbs (omega (arith, low)) (let few = h.0.1 in omega (arith, few)) (recursion_from_All HoldsProgram (unwrap_or x nothing).verbs h.0.0))
      (table_written (o + 1) objects (omega (arith, low)) h.1)

-- ---- the verbs of the objects have these programs

blanks : (verbs : List Verb) → map no_program (map recorded_verb verbs) ≡ emptied_row (row_of (map program_of verbs))
blanks [] = refl
blanks (v ∷ verbs) = ap (λ (row : Row). None ∷ row) (blanks verbs)

blank_at : (w : World) (x : ℕ) (o : Option Object) → blank_entry (option_map (recorded_object w x) o) ≡ emptied_row (row_of (map program_of (unwrap_or o nothing).verbs))
blank_at w x None = refl
blank_at w x (Some o) = blanks o.verbs

blanks_at : (w : World) (xs : List ℕ) → blank_table (map (recorded_at w) xs) ≡ emptied (table_of (map (programs_at w) xs))
blanks_at w [] = refl
blanks_at w (x ∷ xs) =
    ap (λ (row : Row). row ∷ blank_table (map (recorded_at w) xs)) (blank_at w x (object_of w.objects x))
    ∙ ap (λ (table : Table). emptied_row (row_of (programs_at w x)) ∷ table) (blanks_at w xs)

filled : (w : World) → Fills (blank_table (records_of w).objects) (table_programs 0 (table_of (records_of w).programs)) (table_of (records_of w).programs)
filled w = subst (λ (table : Table). Fills table (table_programs 0 (table_of (records_of w).programs)) (table_of (records_of w).programs))
    (sym (blanks_at w (range_with_len 0 (length w.objects)))) (canonical_fills (table_of (records_of w).programs))

-- ---- the whole

links_written : (whos : List ℤ) → AllByRecursion (FitsSigned w32) whos → AllByRecursion (IsLink WithListeners) (map link_to whos)
links_written whos h = all_mapped (FitsSigned w32) (IsLink WithListeners) link_to (λ who fits. (fits, record { sfits = omega arith })) whos h

module _ (s : Sizes) (w : World) (whos : List ℤ) (f : IsWellFormed w) (h : IsHeld w whos) (few : IsCountOf s (length whos)) where
  rows : All HasRow w.objects
  rows k d low = (h.programs k d low, subst (λ (o : Option Object). length (unwrap_or o nothing).verbs ≤ most) (get_or_default w.objects k None d low) (f.stocked.fine k).few_verbs)

  table_few : length (table_programs 0 (table_of (records_of w).programs)) ≤ most
  table_few =
      let count = programs_counted w.objects in
      let same = ap (λ (table : Table). length (table_programs 0 table)) (table_is w) in
      let bound = f.few_programs in
      omega (arith, count, same, bound)

  pub written : IsWritable s (text_of_world w whos)
  written = record {
    version = record { low = omega arith; high = omega arith };
    unused = record { sfits = omega arith };
    players = recursion_from_All (FitsSigned w32) w.players f.player_numbers;
    player_count = count_written s (length w.players) f.few_players;
    objects = objects_written s w f;
    notes = λ i. string_written s [] (record { text = λ k d low. absurd (omega (arith, low)); fits = omega arith });
    object_count = count_written s (length (records_of w).objects) (let same = length-map-range_with_len (recorded_at w) 0 (length w.objects) in let bound = f.few in omega (arith, same, bound));
    programs = subst (λ (table : Table). AllByRecursion (IsProgramText s) (table_programs 0 table)) (table_is w)
        (table_written s 0 w.objects (let bound = f.few in omega (arith, bound)) (recursion_from_All HasRow w.objects rows));
    fills = filled w;
    program_count = count_written s (length (table_programs 0 (table_of (records_of w).programs))) table_few;
    form = tt;
    links = links_written whos (recursion_from_All (FitsSigned w32) whos h.connected);
    link_count = subst (IsCountOf s) (sym (length-map whos link_to)) few;
  }
