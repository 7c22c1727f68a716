use Rattle.std.proofs.Common.{List, ◌++◌, map, ap, subst, ◌∙◌}
use Rattle.std.specs.List.{All, flat_map}
use Rattle.std.proofs.lemmas.List.Elements.{AllWithin-more, at_read}
use Rattle.moo_world_object.specs.declared.verb.Verb.{Verb}
use Rattle.moo_dbtext_object.specs.Lines.{unlines}
use Rattle.moo_dbtext_record.specs.Programs.{program_lines}
use Rattle.moo_dbtext_record.specs.Writing.{row_programs}
use Rattle.moo_dbtext_restore.specs.Says.{program_of}
use Rattle.moo_dbtext.specs.Held.{HoldsProgram, HoldsPrograms}
use Rattle.moo_dbtext.specs.Texts.{row_of}
use Rattle.moo_dbtext.proofs.Rows.{table_more}
use Rattle.moo_dbtext.proofs.program.put_programs.Goals as goal

pub loop-number-preserved : goal.loop-number-preserved
loop-number-preserved c =
    let objects = c.args.objects.now in
    let i = c.loop-number.number in
    let o = c.index-objects-number.result in
    let mid = c.loop-number.out.items in
    record {
      lines = table_more objects i o c.args.out.now.items mid c.put_row.new.out.items c.loop-number-test.true c.index-objects-number.is c.loop-number.invariant.lines
          (c.in_ok-put_row.ensures.lines ∙ ap (λ (vs : List Verb). mid ++ unlines (flat_map program_lines (row_programs i 0 (row_of (map program_of vs))))) c.verbs_of.ensures);
      held = AllWithin-more HoldsPrograms objects 0 i c.loop-number.invariant.held
          (at_read objects HoldsPrograms i o c.loop-number-test.true c.index-objects-number.is (subst (All HoldsProgram) c.verbs_of.ensures c.in_ok-put_row.ensures.held));
    }
