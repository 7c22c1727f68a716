use Rattle.std.proofs.Common.{◌≡◌, [], ◌∙◌, get_or}
use Rattle.std.proofs.lemmas.List.{get_or_read}
use Rattle.moo_world_table.proofs.NamesMet.{one_more}
use Rattle.moo_world_table.proofs.clashing.ordered.Goals as goal

pub loop-name-preserved : goal.loop-name-preserved
loop-name-preserved c =
    let names = c.args.names.now in
    let i = c.loop-name.name-index in
    let is : c.as_bytes.result.now ≡ get_or names i [] = c.as_bytes.ensures.value ∙ get_or_read names i c.name-item.result c.loop-name-test.true c.name-item.is [] in
    one_more c.loop-name.known c.insert.new.self _ names i c.as_bytes.result.now [] c.loop-name.invariant c.in_ok-insert.ensures.updates c.loop-name-test.true is
