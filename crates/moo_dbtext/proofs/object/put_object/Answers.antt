use Rattle.std.proofs.Common.{◌≡◌, ℕ, ℤ, FitsSigned, w32, to_z, of_z, rules, List, [], ◌∷◌, ◌++◌, map, length, ap, sym, ◌∙◌}
use Rattle.std.specs.Fmt.{signed_decimal}
use Rattle.std.specs.List.{flat_map}
use Rattle.std.proofs.lemmas.List.{length-map}
use Rattle.std.proofs.lemmas.Int.{to_z-of_z}
use Rattle.moo_world_object.specs.Cells.{Cell}
use Rattle.moo_world_object.specs.Flags.{flags_number}
use Rattle.moo_world_object.specs.declared.verb.Verb.{Verb}
use Rattle.moo_dbtext_object.specs.Lines.{Line, count_line, unlines}
use Rattle.moo_dbtext_object.proofs.WritingLaws.{Appends, appends_then}
use Rattle.moo_dbtext_object.specs.Objects.{verb_lines, cell_lines}
use Rattle.moo_dbtext_restore.specs.Says.{recorded_verb, recorded_cell}
use Rattle.moo_dbtext_restore.specs.Recorded.{body_with}
use Rattle.moo_dbtext.proofs.object.put_object.Goals as goal

counted : (old new : List ℕ) (n m : ℕ) → n ≡ m → new ≡ old ++ unlines (count_line n ∷ []) → Appends old new (count_line m ∷ [])
counted old new n m same e = record { is = e ∙ ap (λ (k : ℕ). old ++ unlines (count_line k ∷ [])) same }

pub returns : goal.returns
returns c =
    let o = c.args.object.now in
    let b = body_with o c.args.parent c.args.place in
    let o0 = c.args.out.now.items in
    let o1 = c.put_front.new.out.items in
    let o2 = c.put_links.new.out.items in
    let o3 = c.put_count.new.out.items in
    let o4 = c.put_verbs.new.out.items in
    let o5 = c.put_count-2.new.out.items in
    let o6 = c.put_names.new.out.items in
    let o7 = c.put_count-3.new.out.items in
    let o8 = c.put_cells.new.out.items in
    let verbs_count : length c.verbs.result.now ≡ length b.verbs = ap length c.verbs.ensures ∙ sym (length-map o.verbs recorded_verb) in
    let names_count : length c.defined.result.now ≡ length b.names = ap length c.defined.ensures in
    let cells_count : length c.cells.result.now ≡ length b.cells = ap length c.cells.ensures ∙ sym (length-map o.cells recorded_cell) in
    let fits : FitsSigned w32 c.owner.result = search rules in
    let owner_is : to_z w32 (of_z w32 c.owner.result) ≡ o.owner = to_z-of_z w32 c.owner.result fits ∙ c.owner.ensures in
    let e1 : Appends o0 o1 (o.name ∷ [] ∷ count_line (flags_number o.flags) ∷ []) = record { is = c.in_ok-put_front.ensures } in
    let e2 : Appends o1 o2 (signed_decimal b.owner ∷ signed_decimal b.location ∷ signed_decimal b.contents ∷ signed_decimal b.next ∷ signed_decimal b.parent ∷ signed_decimal b.child ∷ signed_decimal b.sibling ∷ []) = record { is = c.in_ok-put_links.ensures ∙ ap (λ (z : ℤ). o1 ++ unlines (signed_decimal z ∷ signed_decimal b.location ∷ signed_decimal b.contents ∷ signed_decimal b.next ∷ signed_decimal b.parent ∷ signed_decimal b.child ∷ signed_decimal b.sibling ∷ [])) owner_is } in
    let e3 = counted o2 o3 (length c.verbs.result.now) (length b.verbs) verbs_count c.in_ok-put_count.ensures in
    let e4 : Appends o3 o4 (flat_map verb_lines b.verbs) = record { is = c.in_ok-put_verbs.ensures ∙ ap (λ (vs : List Verb). o3 ++ unlines (flat_map verb_lines (map recorded_verb vs))) c.verbs-2.ensures } in
    let e5 = counted o4 o5 (length c.defined.result.now) (length b.names) names_count c.in_ok-put_count-2.ensures in
    let e6 : Appends o5 o6 b.names = record { is = c.in_ok-put_names.ensures ∙ ap (λ (ns : List Line). o5 ++ unlines ns) c.defined-2.ensures } in
    let e7 = counted o6 o7 (length c.cells.result.now) (length b.cells) cells_count c.in_ok-put_count-3.ensures in
    let e8 : Appends o7 o8 (flat_map cell_lines b.cells) = record { is = c.in_ok-put_cells.ensures ∙ ap (λ (ps : List Cell). o7 ++ unlines (flat_map cell_lines (map recorded_cell ps))) c.cells-2.ensures } in
    (appends_then o0 o1 o8 _ _ e1 (appends_then o1 o2 o8 _ _ e2 (appends_then o2 o3 o8 _ _ e3 (appends_then o3 o4 o8 _ _ e4 (appends_then o4 o5 o8 _ _ e5 (appends_then o5 o6 o8 _ _ e6 (appends_then o6 o7 o8 _ _ e7 e8))))))).is
