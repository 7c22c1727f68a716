use Rattle.std.proofs.Common.{◌∷◌, [], ◌++◌, ap, ◌∙◌}
use Rattle.std.proofs.lemmas.List.Elements.{AllWithin-more, at_read}
use Rattle.moo_value.specs.Size.{IsString}
use Rattle.moo_dbtext_object.specs.Lines.{Line, unlines}
use Rattle.moo_dbtext_record.proofs.WriteLaws.{source_more}
use Rattle.moo_dbtext_record.proofs.writing.put_source_lines.Goals as goal

pub loop-line-preserved : goal.loop-line-preserved
loop-line-preserved c =
    let source = c.args.source.now in
    let i = c.loop-line.line-index in
    let line = c.line-item.result in
    let mid = c.loop-line.out.items in
    record {
      strings = AllWithin-more IsString source 0 i c.loop-line.invariant.strings (at_read source IsString i line c.loop-line-test.true c.line-item.is c.as_bytes.ensures.string);
      lines = source_more source i line c.args.out.now.items mid c.put_line.new.out.items c.loop-line-test.true c.line-item.is c.loop-line.invariant.lines
          (c.in_ok-put_line.ensures ∙ ap (λ (l : Line). mid ++ unlines (l ∷ [])) c.as_bytes.ensures.value);
    }
