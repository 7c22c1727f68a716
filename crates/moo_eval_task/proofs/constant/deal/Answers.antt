use Rattle.std.proofs.Common.{ap, sym, ◌∙◌}
use Rattle.moo_value.specs.Tree.{elements_of}
use Rattle.moo_syntax_node.specs.Spelling.{spelled_items}
use Rattle.moo_eval_frame.specs.Outcome.{answers}
use Rattle.moo_eval_control.proofs.Named.{unlisted}
use Rattle.moo_eval_semantics.specs.Meaning.{scatter_fails}
use Rattle.moo_eval_task.proofs.DealtLiterals.{literals_dealt, literals_refused}
use Rattle.moo_eval_task.proofs.constant.deal.Goals as goal

pub returns-in_default : goal.returns-in_default
returns-in_default c = λ k s m. scatter_fails (ap answers (unlisted (spelled_items (elements_of c.args.literals.now)) c.args.value.now c.in_default.not-List))

pub returns-then-len : goal.returns-then-len
returns-then-len c =
    λ k s m. rw c.in-List.is (literals_refused c.args.literals.now c.in-List.list (λ e. c.if-len.true (c.len.ensures ∙ sym e ∙ sym c.len-2.ensures)))

pub returns : goal.returns
returns c =
    λ k s m. rw c.in-List.is (literals_dealt c.args.literals.now c.in-List.list (sym c.len-2.ensures ∙ sym c.if-len.false ∙ c.len.ensures))
