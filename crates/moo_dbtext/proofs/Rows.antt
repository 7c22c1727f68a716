-- Objects and programs that are written one after another.
use Rattle.std.proofs.Common.{◌≡◌, ℕ, ◌+◌, ◌<◌, List, [], ◌∷◌, ◌++◌, length, take, get_or, Option, None, refl, sym, ap, ◌∙◌, arith, map}
use Rattle.std.proofs.Math.Nat.{zero-add}
use Rattle.std.specs.Option.{option_map}
use Rattle.std.specs.List.{range_with_len}
use Rattle.std.proofs.lemmas.List.{map-append, length-map, get_or_default, get_or-map}
use Rattle.std.proofs.lemmas.List.FromFn.{length-map-range_with_len, map-range_with_len_more, fill_by_all}
use Rattle.std.proofs.lemmas.List.Concat.{flat_map-append}
use Rattle.moo_world_object.specs.Objects.{Object}
use Rattle.moo_world_object.specs.declared.verb.Verb.{Verb}
use Rattle.moo_dbtext_object.specs.Lines.{unlines}
use Rattle.moo_dbtext_object.specs.Objects as recorded
use Rattle.moo_dbtext_record.specs.Programs.{Row, Table, program_lines}
use Rattle.moo_dbtext_record.specs.Texts.{objects_lines}
use Rattle.moo_dbtext_record.specs.Writing.{verb_programs, row_programs, table_programs, no_notes}
use Rattle.moo_dbtext_record.proofs.DumpLines.{objects_lines_push}
use Rattle.moo_dbtext_record.proofs.WriteLaws.{mapped_more, so_many, grown, programs_lines, row_programs_push, table_programs_push}
use Rattle.moo_dbtext_restore.specs.Says.{program_of}
use Rattle.moo_dbtext_restore.specs.Recorded.{body_with, link_in, recorded_at, programs_at, records_of}
use Rattle.moo_dbtext_restore.specs.declared.link.Link.{Link}
use Rattle.moo_world_tree.specs.Forest.{Links}
use Rattle.moo_world_table.specs.World.{World, object_of}
use Rattle.moo_dbtext.specs.Texts.{source_of, row_of, row_at, table_of}

-- one object more
pub entries_more : (at : ℕ → Option recorded.Object) (x : ℕ) (entry : Option recorded.Object) (old mid new : List ℕ) → entry ≡ at x
    → mid ≡ old ++ unlines (objects_lines 0 (map at (range_with_len 0 x)) no_notes) → new ≡ mid ++ unlines (objects_lines x (entry ∷ []) no_notes)
    → new ≡ old ++ unlines (objects_lines 0 (map at (range_with_len 0 (x + 1))) no_notes)
entries_more at x entry old mid new is so_far more =
    let before = map at (range_with_len 0 x) in
    let whole : objects_lines 0 (map at (range_with_len 0 (x + 1))) no_notes ≡ objects_lines 0 before no_notes ++ objects_lines x (entry ∷ []) no_notes =
    ap (λ (es : List (Option recorded.Object)). objects_lines 0 es no_notes) (map-range_with_len_more at 0 x x (omega arith)) ∙ objects_lines_push 0 before (at x) no_notes
    ∙ ap (λ (n : ℕ). objects_lines 0 before no_notes ++ objects_lines n (at x ∷ []) no_notes) (zero-add (length before) ∙ length-map-range_with_len at 0 x)
    ∙ ap (λ (e : Option recorded.Object). objects_lines 0 before no_notes ++ objects_lines x (e ∷ []) no_notes) (sym is) in
    grown old mid new (objects_lines 0 before no_notes) (objects_lines x (entry ∷ []) no_notes) (objects_lines 0 (map at (range_with_len 0 (x + 1))) no_notes) whole so_far more

-- one program more of an object
pub row_more : (o : ℕ) (verbs : List Verb) (i : ℕ) (v : Verb) (old mid new : List ℕ) → i < length verbs → v ≡ get_or verbs i v
    → mid ≡ old ++ unlines (programs_lines (row_programs o 0 (row_of (map program_of (take i verbs))))) → new ≡ mid ++ unlines (programs_lines (verb_programs o i (source_of v.program)))
    → new ≡ old ++ unlines (programs_lines (row_programs o 0 (row_of (map program_of (take (i + 1) verbs)))))
row_more o verbs i v old mid new lt is so_far more =
    let before = row_of (map program_of (take i verbs)) in
    let one = source_of v.program in
    let count : length before ≡ i = length-map (map program_of (take i verbs)) source_of ∙ so_many program_of verbs i lt in
    let pushed : row_of (map program_of (take (i + 1) verbs)) ≡ before ++ one ∷ [] = ap row_of (mapped_more program_of verbs i v lt is) ∙ map-append source_of (map program_of (take i verbs)) (program_of v ∷ []) in
    let whole : programs_lines (row_programs o 0 (row_of (map program_of (take (i + 1) verbs)))) ≡ programs_lines (row_programs o 0 before) ++ programs_lines (verb_programs o i one) =
    ap (λ (r : Row). programs_lines (row_programs o 0 r)) pushed
    ∙ ap programs_lines (row_programs_push o 0 before one ∙ ap (λ (n : ℕ). row_programs o 0 before ++ verb_programs o n one) (zero-add (length before) ∙ count))
    ∙ flat_map-append program_lines (row_programs o 0 before) (verb_programs o i one) in
    grown old mid new (programs_lines (row_programs o 0 before)) (programs_lines (verb_programs o i one)) (programs_lines (row_programs o 0 (row_of (map program_of (take (i + 1) verbs))))) whole so_far more

-- the programs of one object more
pub table_more : (objects : List (Option Object)) (i : ℕ) (o : Option Object) (old mid new : List ℕ) → i < length objects → o ≡ get_or objects i o
    → mid ≡ old ++ unlines (programs_lines (table_programs 0 (map row_at (take i objects)))) → new ≡ mid ++ unlines (programs_lines (row_programs i 0 (row_at o)))
    → new ≡ old ++ unlines (programs_lines (table_programs 0 (map row_at (take (i + 1) objects))))
table_more objects i o old mid new lt is so_far more =
    let before = map row_at (take i objects) in
    let whole : programs_lines (table_programs 0 (map row_at (take (i + 1) objects))) ≡ programs_lines (table_programs 0 before) ++ programs_lines (row_programs i 0 (row_at o)) =
    ap (λ (t : Table). programs_lines (table_programs 0 t)) (mapped_more row_at objects i o lt is)
    ∙ ap programs_lines (table_programs_push 0 before (row_at o) ∙ ap (λ (n : ℕ). table_programs 0 before ++ row_programs n 0 (row_at o)) (zero-add (length before) ∙ so_many row_at objects i lt))
    ∙ flat_map-append program_lines (table_programs 0 before) (row_programs i 0 (row_at o)) in
    grown old mid new (programs_lines (table_programs 0 before)) (programs_lines (row_programs i 0 (row_at o))) (programs_lines (table_programs 0 (map row_at (take (i + 1) objects)))) whole so_far more

-- the record of the object with a number, with these links
abbrev pub entry_with : Link → Link → Option Object → Option recorded.Object
entry_with parent place o = option_map (λ (p : Object). record { name = p.name; body = body_with p parent place }) o

pub entry_is : (w : World) (x : ℕ) (o : Option Object) (objects : List (Option Object)) (parents places : List Links) (parent place : Link)
    → objects ≡ w.objects → parents ≡ w.inheritance → places ≡ w.containment → x < length objects
    → o ≡ get_or objects x o → parent ≡ link_in parents x → place ≡ link_in places x → entry_with parent place o ≡ recorded_at w x
entry_is w x o objects parents places parent place all tree rooms low is up around =
    let here : o ≡ object_of w.objects x = is ∙ get_or_default objects x o None low ∙ ap (λ (os : List (Option Object)). object_of os x) all in
    ap (λ (l : Link). entry_with l place o) (up ∙ ap (λ (t : List Links). link_in t x) tree)
    ∙ ap (λ (l : Link). entry_with (link_in w.inheritance x) l o) (around ∙ ap (λ (t : List Links). link_in t x) rooms)
    ∙ ap (entry_with (link_in w.inheritance x) (link_in w.containment x)) here

mapped_twice : {X Y Z : Type 0} (g : Y → Z) (f : X → Y) (xs : List X) → map (λ x. g (f x)) xs ≡ map g (map f xs)
mapped_twice g f [] = refl
mapped_twice g f (x ∷ xs) = ap (λ zs. g (f x) ∷ zs) (mapped_twice g f xs)

-- the tables of a world's programs
pub table_is : (w : World) → map row_at w.objects ≡ table_of (records_of w).programs
table_is w =
    fill_by_all (λ x. row_of (programs_at w x)) (map row_at w.objects) (length w.objects) [] (length-map w.objects row_at)
    (λ x low. get_or-map row_at w.objects x None [] low)
    ∙ mapped_twice row_of (programs_at w) (range_with_len 0 (length w.objects))
