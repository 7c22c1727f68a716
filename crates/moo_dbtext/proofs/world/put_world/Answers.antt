use Rattle.std.proofs.Common.{ℤ, List, Option, ◌∷◌, ◌++◌, map, length, ap, ◌∙◌}
use Rattle.std.specs.Fmt.{signed_decimal}
use Rattle.std.specs.List.{flat_map}
use Rattle.moo_world_object.specs.Objects.{Object}
use Rattle.moo_dbtext_object.specs.Lines.{unlines, count_line}
use Rattle.moo_dbtext_record.specs.Programs.{program_lines}
use Rattle.moo_dbtext_record.specs.Writing.{table_programs}
use Rattle.moo_dbtext.specs.Texts.{row_at}
use Rattle.moo_dbtext.proofs.Whole.{world_written}
use Rattle.moo_dbtext.proofs.world.put_world.Goals as goal

pub returns-clause-lines : goal.returns-clause-lines
returns-clause-lines c =
    let o1 = c.put_heading.new.out.items in
    let o2 = c.put_players.new.out.items in
    let o3 = c.put_entries.new.out.items in
    let o4 = c.put_programs.new.out.items in
    world_written c.args.world.now c.args.connected.now c.args.out.now.items o1 o2 o3 o4 c.put_back.new.out.items
    c.in_ok-put_heading.ensures
    (c.in_ok-put_players.ensures ∙ ap (λ (ps : List ℤ). o1 ++ unlines (count_line (length ps) ∷ map signed_decimal ps)) c.players.ensures)
    c.in_ok-put_entries.ensures
    (c.in_ok-put_programs.ensures.lines ∙ ap (λ (os : List (Option Object)). o3 ++ unlines (flat_map program_lines (table_programs 0 (map row_at os)))) c.objects.ensures)
    c.in_ok-put_back.ensures.lines
