use Rattle.std.proofs.Common.{Ok, Err, ap, ◌∙◌, if◌then◌else◌}
use Rattle.moo_value.specs.declared.error_code.ErrorCode.TheVariants.{Arguments}
use Rattle.moo_syntax_node.specs.Source.{source_items}
use Rattle.moo_eval_control.specs.Scatter.{fits}
use Rattle.moo_eval_control.proofs.Scattered.{dealt_list}
use Rattle.moo_eval_control.proofs.scatter.dealt.Goals as goal

pub returns-then-fits-clause-ok : goal.returns-then-fits-clause-ok
returns-then-fits-clause-ok c = rw c.in-List.is (dealt_list (source_items c.args.counts.now.items.now) c.in-List.list c.fits.result (c.fits.ensures ∙ ap (fits (source_items c.args.counts.now.items.now)) c.len.ensures) ∙ ap (λ b. if b then Ok c.in-List.list else Err Arguments) c.if-fits.true)

pub returns-else-fits-clause-err : goal.returns-else-fits-clause-err
returns-else-fits-clause-err c = rw c.in-List.is (dealt_list (source_items c.args.counts.now.items.now) c.in-List.list c.fits.result (c.fits.ensures ∙ ap (fits (source_items c.args.counts.now.items.now)) c.len.ensures) ∙ ap (λ b. if b then Ok c.in-List.list else Err Arguments) c.if-fits.false)
