use Rattle.std.proofs.lemmas.List.Elements.{AllWithin-more, at_read}
use Rattle.moo_dbtext.specs.Held.{HoldsProgram}
use Rattle.moo_dbtext.proofs.Rows.{row_more}
use Rattle.moo_dbtext.proofs.program.put_row.Goals as goal

pub loop-number-preserved : goal.loop-number-preserved
loop-number-preserved c =
    let verbs = c.args.verbs.now in
    let i = c.loop-number.number in
    let v = c.index-verbs-number.result in
    record {
      lines = row_more c.args.object verbs i v c.args.out.now.items c.loop-number.out.items c.put_verb_program.new.out.items c.loop-number-test.true c.index-verbs-number.is c.loop-number.invariant.lines
          c.in_ok-put_verb_program.ensures.lines;
      held = AllWithin-more HoldsProgram verbs 0 i c.loop-number.invariant.held (at_read verbs HoldsProgram i v c.loop-number-test.true c.index-verbs-number.is c.in_ok-put_verb_program.ensures.held);
    }
