use Rattle.std.proofs.Common.{Option, None, arith, ap, ◌∙◌}
use Rattle.std.specs.Prelude.{slice_index_or}
use Rattle.std.specs.Global.{Vec}
use Rattle.moo_syntax_ast.specs.Tree.{Block}
use Rattle.moo_dbtext_read.proofs.Cases.{ok_then}
use Rattle.moo_dbtext_read.proofs.Rows.{set_row_there, set_row_other}
use Rattle.moo_dbtext_read.proofs.program_rows.put_program.Goals as goal

pub returns-clause-there : goal.returns-clause-there
returns-clause-there c =
    ok_then c.put_in.result _ _ c.put_in.ensures.there (set_row_there c.loop-alloc.rows.items c.put_in.new.row c.args.object c.args.verb c.args.program (omega (arith, c.loop-alloc.rows.ok.0, c.loop-alloc-test.false, c.len.ensures)))

pub returns-clause-others : goal.returns-clause-others
returns-clause-others c =
    ok_then c.put_in.result _ _ c.put_in.ensures.others (λ others o v apart.
    set_row_other c.loop-alloc.rows.items c.put_in.new.row c.index_mut.result.now c.args.object c.args.verb o v (omega (arith, c.loop-alloc.rows.ok.0, c.loop-alloc-test.false, c.len.ensures))
    (λ k other. others k other ∙ ap (λ (r : Vec (Option Block)). slice_index_or r.items k None) c.index_mut.ensures.value) apart
    ∙ c.loop-alloc.invariant o v)
