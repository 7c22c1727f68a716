-- An object that was read is spelled by its lines.
use Rattle.std.proofs.Common.{◌≡◌, ℕ, suc, ◌+◌, ◌≤◌, leb, List, [], ◌∷◌, ◌++◌, length, Option, Some, None, Ok, refl, sym, ap, subst, ◌∙◌, append_assoc, arith, inl, inr}
use Rattle.std.specs.Prelude.{codes}
use Rattle.std.specs.Fmt.{signed_decimal}
use Rattle.std.specs.List.{flat_map}
use Rattle.std.specs.Str.{bytes_eq}
use Rattle.std.proofs.lemmas.List.{append-nil, length-append}
use Rattle.std.proofs.lemmas.Bool.{leb-true}
use Rattle.std.proofs.lemmas.Slice.Eq.{bytes_eq-Decides}
use Rattle.moo_value.specs.Tree.{IsText}
use Rattle.moo_dbtext_object.specs.Lines.{Line, ◌>>=◌, Sizes, unlimited, number_of, bounded_count_of, small_of, text_of, count_line}
use Rattle.moo_dbtext_object.specs.Reading.{Partial}
use Rattle.moo_dbtext_object.proofs.Steps.{branch}
use Rattle.moo_dbtext_object.proofs.LineLaws.{number_found, both_true}
use Rattle.moo_dbtext_object.proofs.TextLaws.{text_found, small_found, bounded_count_found}
use Rattle.moo_dbtext_object.proofs.ValueFound.{value_read, AreOpened, All-push, flat_map_push}
use Rattle.moo_dbtext_object.specs.Objects.{Verb, Cell, Object, verb_lines, cell_value_lines, cell_lines, IsVerb, IsCell}
use Rattle.moo_dbtext_object.specs.ObjectReading.{Draft, verb_bits_of, preposition_of, after_verb, after_name, after_cell, verb_made, verbs_made, value_line_step, is_clear, object_step}
use Rattle.moo_dbtext_object.specs.declared.object_reader.Awaited.{Awaited}
use Rattle.moo_dbtext_object.specs.declared.object_reader.Awaited.TheVariants as awaited
use Rattle.moo_dbtext_object.proofs.NumberLaws.{bits_found, preposition_found}
use Rattle.moo_dbtext_object.proofs.ObjectDraft.{name_of, headed, verbed, named, celled, verb_names, draft_read, note_after, Keeps, field, OwnHaveValues-none, OwnHaveValues-push, numbers_flags, numbers_owner, numbers_location, numbers_contents, numbers_next, numbers_parent, numbers_child, numbers_sibling, renumber, renumbered, after_verb_adds, after_name_adds, after_cell_adds, verbed_more, named_more, celled_more, bare, unfinished, value_line_adds, made, HasParts, Adds}

pub object_found : (s : Sizes) (aw : Awaited) (d : Draft) (note line : Line) (r : Draft × Option Object) → HasParts d → Keeps aw d → object_step s aw d line ≡ Ok r → Adds (draft_read aw d note) line (note_after aw note line) r
unfolding object_step
object_found s awaited.Name d note line r parts k e =
    field (draft_read awaited.Name d note) line note (text_of s line) (λ x. (record d { awaited = awaited.Note; name = Some x }, None)) r
    (λ x is. let f = text_found s line x is in let next = record d { awaited = awaited.Note; name = Some x } in record {
      read = ap (λ (l : Line). l ∷ []) (sym f.1);
      is = record {
        parts = record { name = f.0; numbers = parts.numbers; verbs = parts.verbs; names = parts.names; cells = parts.cells; own = parts.own };
        keeps = (bare d next k refl refl refl refl, refl);
      };
    }) e
object_found s awaited.Note d note line r parts k e =
    field (draft_read awaited.Note d note) line line (text_of s line) (λ x. (record d { awaited = awaited.Flags }, None)) r
    (λ x is. let next = record d { awaited = awaited.Flags } in record {
      read = refl;
      is = record { parts = renumbered d next parts refl refl refl refl parts.numbers; keeps = (bare d next k.0 refl refl refl refl, k.1) };
    }) e
object_found s awaited.Flags d note line r parts k e =
    field (draft_read awaited.Flags d note) line note (small_of 255 line) (λ x. (record d { awaited = awaited.Owner; body = record d.body { flags = x } }, None)) r
    (λ x is. let f = small_found 255 line x is in let next = record d { awaited = awaited.Owner; body = record d.body { flags = x } } in record {
      read = ap (λ (l : Line). name_of d ∷ note ∷ l ∷ []) (sym f.1);
      is = record { parts = renumbered d next parts refl refl refl refl (numbers_flags d.body x parts.numbers f.0); keeps = (bare d next k.0 refl refl refl refl, k.1) };
    }) e
object_found s awaited.Owner d note line r parts k e =
    field (draft_read awaited.Owner d note) line note (number_of line) (λ x. (record d { awaited = awaited.Location; body = record d.body { owner = x } }, None)) r
    (λ x is. let f = number_found line x is in let next = record d { awaited = awaited.Location; body = record d.body { owner = x } } in record {
      read = ap (λ (l : Line). name_of d ∷ note ∷ count_line d.body.flags ∷ l ∷ []) (sym f.1);
      is = record { parts = renumbered d next parts refl refl refl refl (numbers_owner d.body x parts.numbers f.0); keeps = (bare d next k.0 refl refl refl refl, k.1) };
    }) e
object_found s awaited.Location d note line r parts k e =
    field (draft_read awaited.Location d note) line note (number_of line) (λ x. (record d { awaited = awaited.Contents; body = record d.body { location = x } }, None)) r
    (λ x is. let f = number_found line x is in let next = record d { awaited = awaited.Contents; body = record d.body { location = x } } in record {
      read = ap (λ (l : Line). name_of d ∷ note ∷ count_line d.body.flags ∷ signed_decimal d.body.owner ∷ l ∷ []) (sym f.1);
      is = record { parts = renumbered d next parts refl refl refl refl (numbers_location d.body x parts.numbers f.0); keeps = (bare d next k.0 refl refl refl refl, k.1) };
    }) e
object_found s awaited.Contents d note line r parts k e =
    field (draft_read awaited.Contents d note) line note (number_of line) (λ x. (record d { awaited = awaited.Next; body = record d.body { contents = x } }, None)) r
    (λ x is. let f = number_found line x is in let next = record d { awaited = awaited.Next; body = record d.body { contents = x } } in record {
      read = ap (λ (l : Line). name_of d ∷ note ∷ count_line d.body.flags ∷ signed_decimal d.body.owner ∷ signed_decimal d.body.location ∷ l ∷ []) (sym f.1);
      is = record { parts = renumbered d next parts refl refl refl refl (numbers_contents d.body x parts.numbers f.0); keeps = (bare d next k.0 refl refl refl refl, k.1) };
    }) e
object_found s awaited.Next d note line r parts k e =
    field (draft_read awaited.Next d note) line note (number_of line) (λ x. (record d { awaited = awaited.Parent; body = record d.body { next = x } }, None)) r
    (λ x is. let f = number_found line x is in let next = record d { awaited = awaited.Parent; body = record d.body { next = x } } in record {
      read = ap (λ (l : Line). name_of d ∷ note ∷ count_line d.body.flags ∷ signed_decimal d.body.owner ∷ signed_decimal d.body.location ∷ signed_decimal d.body.contents ∷ l ∷ []) (sym f.1);
      is = record { parts = renumbered d next parts refl refl refl refl (numbers_next d.body x parts.numbers f.0); keeps = (bare d next k.0 refl refl refl refl, k.1) };
    }) e
object_found s awaited.Parent d note line r parts k e =
    field (draft_read awaited.Parent d note) line note (number_of line) (λ x. (record d { awaited = awaited.Child; body = record d.body { parent = x } }, None)) r
    (λ x is. let f = number_found line x is in let next = record d { awaited = awaited.Child; body = record d.body { parent = x } } in record {
      read = ap (λ (l : Line). name_of d ∷ note ∷ count_line d.body.flags ∷ signed_decimal d.body.owner ∷ signed_decimal d.body.location ∷ signed_decimal d.body.contents ∷ signed_decimal d.body.next ∷ l ∷ []) (sym f.1);
      is = record { parts = renumbered d next parts refl refl refl refl (numbers_parent d.body x parts.numbers f.0); keeps = (bare d next k.0 refl refl refl refl, k.1) };
    }) e
object_found s awaited.Child d note line r parts k e =
    field (draft_read awaited.Child d note) line note (number_of line) (λ x. (record d { awaited = awaited.Sibling; body = record d.body { child = x } }, None)) r
    (λ x is. let f = number_found line x is in let next = record d { awaited = awaited.Sibling; body = record d.body { child = x } } in record {
      read = ap (λ (l : Line). name_of d ∷ note ∷ count_line d.body.flags ∷ signed_decimal d.body.owner ∷ signed_decimal d.body.location ∷ signed_decimal d.body.contents ∷ signed_decimal d.body.next ∷ signed_decimal d.body.parent ∷ l ∷ []) (sym f.1);
      is = record { parts = renumbered d next parts refl refl refl refl (numbers_child d.body x parts.numbers f.0); keeps = (bare d next k.0 refl refl refl refl, k.1) };
    }) e
object_found s awaited.Sibling d note line r parts k e =
    field (draft_read awaited.Sibling d note) line note (number_of line) (λ x. (record d { awaited = awaited.VerbCount; body = record d.body { sibling = x } }, None)) r
    (λ x is. let f = number_found line x is in let next = record d { awaited = awaited.VerbCount; body = record d.body { sibling = x } } in record {
      read = ap (λ (l : Line). name_of d ∷ note ∷ count_line d.body.flags ∷ signed_decimal d.body.owner ∷ signed_decimal d.body.location ∷ signed_decimal d.body.contents ∷ signed_decimal d.body.next ∷ signed_decimal d.body.parent ∷ signed_decimal d.body.child ∷ l ∷ []) (sym f.1);
      is = record { parts = renumbered d next parts refl refl refl refl (numbers_sibling d.body x parts.numbers f.0); keeps = (bare d next k.0 refl refl refl refl, k.1) };
    }) e
object_found s awaited.VerbCount d note line r parts k e =
    field (draft_read awaited.VerbCount d note) line note (bounded_count_of s line) (λ n. (after_verb d d.body n, None)) r
    (λ n is. let f = bounded_count_found s line n is in let none : length d.body.verbs ≡ 0 = ap length k.0.verbs in
    after_verb_adds d d.body n (headed (name_of d) note d.body []) line note parts (omega (arith, f.0)) k.0.names k.0.cells k.0.value k.1
    (ap (λ (vs : List Verb). headed (name_of d) note d.body (count_line (length vs + n) ∷ (flat_map verb_lines vs ++ []))) k.0.verbs
    ∙ ap (λ (m : ℕ). headed (name_of d) note d.body (count_line m ∷ [])) (omega arith) ∙ ap (λ (l : Line). headed (name_of d) note d.body (l ∷ [])) (sym f.1))) e
object_found s awaited.VerbNames d note line r parts k e =
    field (draft_read awaited.VerbNames d note) line note (text_of s line) (λ x. (record d { awaited = awaited.VerbOwner; verb = record d.verb { names = Some x } }, None)) r
    (λ x is. let f = text_found s line x is in let next = record d { awaited = awaited.VerbOwner; verb = record d.verb { names = Some x } } in let n = length d.body.verbs + suc d.left in record {
      read = ap (λ (l : Line). verbed (name_of d) note d.body n (l ∷ [])) (sym f.1) ∙ verbed_more (name_of d) note d.body n [] line;
      is = record { parts = renumbered d next parts refl refl refl refl parts.numbers; keeps = (record { count = k.count; names = k.names; cells = k.cells; value = k.value; name = k.name }, record { is = refl; text = f.0 }) };
    }) e
object_found s awaited.VerbOwner d note line r parts k e =
    field (draft_read awaited.VerbOwner d note) line note (number_of line) (λ z. (record d { awaited = awaited.VerbBits; verb = record d.verb { owner = z } }, None)) r
    (λ z is. let f = number_found line z is in let next = record d { awaited = awaited.VerbBits; verb = record d.verb { owner = z } } in let n = length d.body.verbs + suc d.left in record {
      read = ap (λ (l : Line). verbed (name_of d) note d.body n (verb_names d.verb ∷ l ∷ [])) (sym f.1) ∙ verbed_more (name_of d) note d.body n (verb_names d.verb ∷ []) line;
      is = record { parts = renumbered d next parts refl refl refl refl parts.numbers; keeps = (record { count = k.0.count; names = k.0.names; cells = k.0.cells; value = k.0.value; name = k.0.name }, record { is = k.1.is; text = k.1.text }, f.0) };
    }) e
object_found s awaited.VerbBits d note line r parts k e =
    field (draft_read awaited.VerbBits d note) line note (verb_bits_of line) (λ x. (record d { awaited = awaited.VerbPreposition; verb = record d.verb { perms = x } }, None)) r
    (λ x is. let f = bits_found line x is in let next = record d { awaited = awaited.VerbPreposition; verb = record d.verb { perms = x } } in let n = length d.body.verbs + suc d.left in record {
      read = ap (λ (l : Line). verbed (name_of d) note d.body n (verb_names d.verb ∷ signed_decimal d.verb.owner ∷ l ∷ [])) (sym f.1) ∙ verbed_more (name_of d) note d.body n (verb_names d.verb ∷ signed_decimal d.verb.owner ∷ []) line;
      is = record { parts = renumbered d next parts refl refl refl refl parts.numbers; keeps = (record { count = k.0.count; names = k.0.names; cells = k.0.cells; value = k.0.value; name = k.0.name }, record { is = k.1.is; text = k.1.text }, k.2, f.0) };
    }) e
object_found s awaited.VerbPreposition d note line r parts k e =
    field (draft_read awaited.VerbPreposition d note) line note (preposition_of line)
    (λ z. (after_verb (record d { verb = record d.verb { names = None } }) (record d.body { verbs = d.body.verbs ++ verbs_made d.verb.names d.verb z }) d.left, None)) r
    (λ z is. let f = preposition_found line z is in
    let x = verb_made d.verb z (verb_names d.verb) in
    let one = made d.verb z d.verb.names (verb_names d.verb) k.1.is in
    let e0 = record d { verb = record d.verb { names = None } } in
    let b = record d.body { verbs = d.body.verbs ++ x ∷ [] } in
    let n = length d.body.verbs + suc d.left in
    let longer = length-append d.body.verbs (x ∷ []) in
    let is_verb : IsVerb unlimited x = record { names = k.1.text; owner = k.2; perms = k.3; preposition = f.0 } in
    subst (λ (vs : List Verb). Adds (draft_read awaited.VerbPreposition d note) line note (after_verb e0 (record d.body { verbs = d.body.verbs ++ vs }) d.left, None)) (sym one)
    (after_verb_adds e0 b d.left (draft_read awaited.VerbPreposition d note) line note
    (record { name = parts.name; numbers = renumber d.body parts.numbers b refl; verbs = All-push (IsVerb unlimited) d.body.verbs x parts.verbs is_verb; names = parts.names; cells = parts.cells; own = parts.own })
    (omega (arith, k.0.count)) k.0.names k.0.cells k.0.value k.0.name
    (ap (λ (m : ℕ). verbed (name_of d) note b m []) (omega arith)
    ∙ ap (λ (ls : List Line). headed (name_of d) note d.body (count_line n ∷ ls)) (append-nil (flat_map verb_lines b.verbs) ∙ flat_map_push verb_lines d.body.verbs x)
    ∙ ap (λ (l : Line). verbed (name_of d) note d.body n (verb_names d.verb ∷ signed_decimal d.verb.owner ∷ count_line d.verb.perms ∷ l ∷ [])) (sym f.1)
    ∙ verbed_more (name_of d) note d.body n (verb_names d.verb ∷ signed_decimal d.verb.owner ∷ count_line d.verb.perms ∷ []) line))) e
object_found s awaited.NameCount d note line r parts k e =
    field (draft_read awaited.NameCount d note) line note (bounded_count_of s line) (λ n. (after_name d d.body n, None)) r
    (λ n is. let f = bounded_count_found s line n is in let none : length d.body.names ≡ 0 = ap length k.names in let m = length d.body.verbs in
    after_name_adds d d.body n (verbed (name_of d) note d.body m []) line note parts (omega (arith, f.0)) k.count k.cells k.value k.name
    (ap (λ (ns : List Line). verbed (name_of d) note d.body m (count_line (length ns + n) ∷ (ns ++ []))) k.names
    ∙ ap (λ (i : ℕ). verbed (name_of d) note d.body m (count_line i ∷ [])) (omega arith) ∙ ap (λ (l : Line). verbed (name_of d) note d.body m (l ∷ [])) (sym f.1) ∙ verbed_more (name_of d) note d.body m [] line)) e
object_found s awaited.PropertyName d note line r parts k e =
    field (draft_read awaited.PropertyName d note) line note (text_of s line) (λ x. (after_name d (record d.body { names = d.body.names ++ x ∷ [] }) d.left, None)) r
    (λ x is. let f = text_found s line x is in let longer = length-append d.body.names (x ∷ []) in
    let b = record d.body { names = d.body.names ++ x ∷ [] } in
    let n = length d.body.names + suc d.left in
    after_name_adds d b d.left (draft_read awaited.PropertyName d note) line note
    (record { name = parts.name; numbers = renumber d.body parts.numbers b refl; verbs = parts.verbs; names = All-push IsText d.body.names x parts.names f.0; cells = parts.cells; own = OwnHaveValues-none (length d.body.names) (length b.names) 0 d.body.cells k.cells parts.own })
    (omega (arith, k.count)) k.verbs k.cells k.value k.name
    (ap (λ (m : ℕ). named (name_of d) note b m []) (omega arith)
    ∙ ap (λ (ls : List Line). verbed (name_of d) note d.body (length d.body.verbs) (count_line n ∷ ls)) (append-nil b.names)
    ∙ ap (λ (l : Line). verbed (name_of d) note d.body (length d.body.verbs) (count_line n ∷ (d.body.names ++ l ∷ []))) (sym f.1)
    ∙ named_more (name_of d) note d.body n [] line)) e
object_found s awaited.CellCount d note line r parts k e =
    field (draft_read awaited.CellCount d note) line note (bounded_count_of s line) (λ n. after_cell d d.body n) r
    (λ n is. let f = bounded_count_found s line n is in let none : length d.body.cells ≡ 0 = ap length k.cells in let m = length d.body.names in
    after_cell_adds d d.body n (named (name_of d) note d.body m []) line note parts (omega (arith, f.0)) k.verbs k.count k.value k.name
    (ap (λ (cs : List Cell). named (name_of d) note d.body m (count_line (length cs + n) ∷ (flat_map cell_lines cs ++ []))) k.cells
    ∙ ap (λ (i : ℕ). named (name_of d) note d.body m (count_line i ∷ [])) (omega arith) ∙ ap (λ (l : Line). named (name_of d) note d.body m (l ∷ [])) (sym f.1) ∙ named_more (name_of d) note d.body m [] line)) e
object_found s awaited.Value d note line r parts k e =
    elim (branch (is_clear d.body line) (record d { awaited = awaited.CellOwner; cell = None }, None) r (value_line_step s d line >>= unfinished) e) [
      | inl p ↦
          let q = both_true (leb (length d.body.names) (length d.body.cells)) (bytes_eq line (codes "5")) p.0 in
          let is_five : line ≡ codes "5" = (bytes_eq-Decides line (codes "5")).0 q.1 in
          let n = length d.body.cells + suc d.left in
          let next = record d { awaited = awaited.CellOwner; cell = None } in
          subst (Adds (draft_read awaited.Value d note) line note) p.1 (record {
            read = ap (λ (l : Line). celled (name_of d) note d.body n (l ∷ [])) (sym is_five) ∙ celled_more (name_of d) note d.body n [] line;
            is = record {
              parts = renumbered d next parts refl refl refl refl parts.numbers;
              keeps = (record { count = k.0.count; verbs = k.0.verbs; names = k.0.names; name = k.0.name }, record { value = k.1; cell = tt; own = λ none. leb-true _ _ q.0 });
            };
          })
      | inr more ↦
          let nothing : value_read (d.value, None) ≡ [] = ap (λ (p : Partial). value_read (p, None)) k.1 in
          let opened : AreOpened d.value.lists = subst (λ (p : Partial). AreOpened p.lists) (sym k.1) tt in
          subst (λ (ls : List Line). Adds (celled (name_of d) note d.body (length d.body.cells + suc d.left) ls) line note r) nothing (value_line_adds s d line note r parts k.0 opened more)
    ]
object_found s awaited.Inside d note line r parts k e = value_line_adds s d line note r parts k.0 k.1 e
object_found s awaited.CellOwner d note line r parts k e =
    field (draft_read awaited.CellOwner d note) line note (number_of line) (λ z. (record d { awaited = awaited.CellPerms; cell_owner = z }, None)) r
    (λ z is. let f = number_found line z is in let next = record d { awaited = awaited.CellPerms; cell_owner = z } in let n = length d.body.cells + suc d.left in record {
      read = ap (λ (l : Line). celled (name_of d) note d.body n (cell_value_lines d.cell ++ l ∷ [])) (sym f.1) ∙ celled_more (name_of d) note d.body n (cell_value_lines d.cell) line;
      is = record {
        parts = renumbered d next parts refl refl refl refl parts.numbers;
        keeps = (record { count = k.0.count; verbs = k.0.verbs; names = k.0.names; name = k.0.name }, record { value = k.1.value; cell = k.1.cell; own = k.1.own }, f.0);
      };
    }) e
object_found s awaited.CellPerms d note line r parts k e =
    field (draft_read awaited.CellPerms d note) line note (small_of 7 line) (λ m. after_cell (record d { cell = None }) (record d.body { cells = d.body.cells ++ record { value = d.cell; owner = d.cell_owner; perms = m } ∷ [] }) d.left) r
    (λ m is. let f = small_found 7 line m is in
    let c : Cell = record { value = d.cell; owner = d.cell_owner; perms = m } in
    let b = record d.body { cells = d.body.cells ++ c ∷ [] } in
    let n = length d.body.cells + suc d.left in
    let longer = length-append d.body.cells (c ∷ []) in
    let value = cell_value_lines d.cell in
    after_cell_adds (record d { cell = None }) b d.left (draft_read awaited.CellPerms d note) line note
    (record {
      name = parts.name;
      numbers = renumber d.body parts.numbers b refl;
      verbs = parts.verbs;
      names = parts.names;
      cells = All-push (IsCell unlimited) d.body.cells c parts.cells (record { value = k.1.cell; owner = k.2; perms = f.0 });
      own = OwnHaveValues-push (length d.body.names) 0 d.body.cells c parts.own (λ none. let le : length d.body.names ≤ length d.body.cells = k.1.own none in omega arith);
    })
    (omega (arith, k.0.count)) k.0.verbs k.0.names k.1.value k.0.name
    (ap (λ (i : ℕ). celled (name_of d) note b i []) (omega arith)
    ∙ ap (λ (ls : List Line). named (name_of d) note d.body (length d.body.names) (count_line n ∷ ls)) (append-nil (flat_map cell_lines b.cells) ∙ flat_map_push cell_lines d.body.cells c)
    ∙ ap (λ (l : Line). celled (name_of d) note d.body n (value ++ signed_decimal d.cell_owner ∷ l ∷ [])) (sym f.1)
    ∙ ap (celled (name_of d) note d.body n) (sym (append_assoc value (signed_decimal d.cell_owner ∷ []) (line ∷ [])))
    ∙ celled_more (name_of d) note d.body n (value ++ signed_decimal d.cell_owner ∷ []) line)) e
