use Rattle.std.proofs.Common.{◌<◌, ◌∙◌, ap, arith, length}
use Rattle.std.proofs.lemmas.List.{length_push}
use Rattle.moo_world_table.proofs.Joining.{left_more, put_more}
use Rattle.moo_world_table.proofs.fitting.put_rows.Goals as goal

pub loop-row-preserved : goal.loop-row-preserved
loop-row-preserved c =
    let longer = ap length c.in-Some.ensures.items ∙ length_push c.pop.new.self.items c.in-Some.row in
    let inside : c.len.result < length c.args.walk.now = omega (arith, longer, c.loop-row.invariant.short, c.len.ensures, c.pop.new.self.ok.0) in
    let low = c.requires.within c.len.result inside in
    record {
      left = left_more c.args.rows.items c.loop-row.rows.items c.pop.new.self.items c.in-Some.row c.loop-row.invariant.left c.in-Some.ensures.items;
      short = omega (arith, longer, c.loop-row.invariant.short);
      same_many = c.loop-row.invariant.same_many;
      done = put_more c.args.objects.now.items c.loop-row.objects.items c.args.walk.now c.args.rows.items c.loop-row.rows.items c.pop.new.self.items c.in-Some.row c.len.result c.index_mut.result.now c.put_row.new.slot
          c.loop-row.invariant.left c.in-Some.ensures.items c.loop-row.invariant.short (omega (arith, c.len.ensures, c.pop.new.self.ok.0))
          (omega (arith, low, c.loop-row.invariant.same_many, c.loop-row.objects.ok.0)) c.loop-row.invariant.done c.index_mut.ensures.value c.put_row.ensures;
    }
