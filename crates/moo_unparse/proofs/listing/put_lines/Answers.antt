use Rattle.std.proofs.lemmas.List.Elements.{AllWithin-more, at_read}
use Rattle.moo_value.specs.Tree.{IsText}
use Rattle.moo_unparse.proofs.Written.{written_more}
use Rattle.moo_unparse.proofs.listing.put_lines.Goals as goal

pub loop-line-preserved : goal.loop-line-preserved
loop-line-preserved c =
    let lines = c.args.lines.now in
    let i = c.loop-line.line-index in
    let line = c.line-item.result in
    record {
      text = AllWithin-more IsText lines 0 i c.loop-line.invariant.text (at_read lines IsText i line c.loop-line-test.true c.line-item.is c.in_ok-put.ensures.text);
      lines = written_more lines i line c.args.out.now.items c.loop-line.out.items c.put.new.out.items c.loop-line-test.true c.line-item.is c.loop-line.invariant.lines c.in_ok-put.ensures.line;
    }
