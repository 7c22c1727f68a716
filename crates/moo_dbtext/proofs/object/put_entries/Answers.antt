use Rattle.moo_dbtext_restore.specs.Recorded.{recorded_at}
use Rattle.moo_dbtext.proofs.Rows.{entries_more, entry_with, entry_is}
use Rattle.moo_dbtext.proofs.object.put_entries.Goals as goal

pub loop-x-preserved : goal.loop-x-preserved
loop-x-preserved c =
    let w = c.args.world.now in
    let x = c.loop-x.x in
    let entry = entry_with c.link_in-parent.result c.link_in-place.result c.index-objects-x.result in
    let is = entry_is w x c.index-objects-x.result c.objects-objects.result.now c.inheritance-parents.result.now c.containment-places.result.now c.link_in-parent.result c.link_in-place.result
    c.objects-objects.ensures c.inheritance-parents.ensures c.containment-places.ensures c.loop-x-test.true c.index-objects-x.is c.link_in-parent.ensures c.link_in-place.ensures in
    entries_more (recorded_at w) x entry c.args.out.now.items c.loop-x.out.items c.put_entry.new.out.items is c.loop-x.invariant c.in_ok-put_entry.ensures
