-- The text of a whole world, part after part.
use Rattle.std.proofs.Common.{◌≡◌, ℕ, ℤ, pos, List, [], ◌∷◌, ◌++◌, length, sym, ap, ◌∙◌, map}
use Rattle.std.specs.Fmt.{signed_decimal}
use Rattle.std.specs.List.{flat_map, range_with_len}
use Rattle.std.proofs.lemmas.List.FromFn.{length-map-range_with_len}
use Rattle.moo_world_table.specs.World.{World, programs_in}
use Rattle.moo_dbtext_object.specs.Lines.{Line, unlines, count_line}
use Rattle.moo_dbtext_record.specs.Programs.{Table, program_lines}
use Rattle.moo_dbtext_record.specs.Texts.{header_line, objects_lines, tasks_lines, connections_lines}
use Rattle.moo_dbtext_record.specs.Writing.{table_programs, no_notes, canonical_lines}
use Rattle.moo_dbtext_record.specs.declared.dump.Form.TheVariants.{WithListeners}
use Rattle.moo_dbtext_record.proofs.WriteLaws.{whole_written}
use Rattle.moo_dbtext_restore.specs.Recorded.{recorded_at}
use Rattle.moo_dbtext.specs.Texts.{row_at, link_to, text_of_world}
use Rattle.moo_dbtext.proofs.Rows.{table_is}
use Rattle.moo_dbtext.proofs.Counts.{programs_counted}

pub world_written : (w : World) (whos : List ℤ) (o0 o1 o2 o3 o4 o5 : List ℕ)
    → o1 ≡ o0 ++ unlines (header_line 4 ∷ count_line (length w.objects) ∷ count_line (programs_in w.objects) ∷ signed_decimal (pos 0) ∷ [])
    → o2 ≡ o1 ++ unlines (count_line (length w.players) ∷ map signed_decimal w.players)
    → o3 ≡ o2 ++ unlines (objects_lines 0 (map (recorded_at w) (range_with_len 0 (length w.objects))) no_notes)
    → o4 ≡ o3 ++ unlines (flat_map program_lines (table_programs 0 (map row_at w.objects)))
    → o5 ≡ o4 ++ unlines (tasks_lines (connections_lines WithListeners (map link_to whos)))
    → o5 ≡ o0 ++ unlines (canonical_lines (text_of_world w whos))
world_written w whos o0 o1 o2 o3 o4 o5 front players objects programs back =
    let t = text_of_world w whos in
    let heading : ℕ → List Line = λ n. header_line 4 ∷ count_line (length w.objects) ∷ count_line n ∷ signed_decimal (pos 0) ∷ [] in
    let counted : programs_in w.objects ≡ length (table_programs 0 t.programs) = programs_counted w.objects ∙ ap (λ (table : Table). length (table_programs 0 table)) (table_is w) in
    whole_written t (length w.objects) o0 o1 o2 o3 o4 o5
    (sym (length-map-range_with_len (recorded_at w) 0 (length w.objects)))
    (front ∙ ap (λ n. o0 ++ unlines (heading n)) counted)
    players
    objects
    (programs ∙ ap (λ (table : Table). o3 ++ unlines (flat_map program_lines (table_programs 0 table))) (table_is w))
    back
