use Rattle.std.proofs.Common.{sym, ◌∙◌}
use Rattle.moo_value.specs.declared.error_code.ErrorCode.{ErrorCode}
use Rattle.moo_value.specs.Tree.{error}
use Rattle.moo_value.specs.View.{tree}
use Rattle.moo_builtin_operator.specs.Truth.{same_tree}
use Rattle.moo_eval_control.proofs.Scattered.{list_any-map}
use Rattle.moo_eval_control.proofs.catching.is_caught.Goals as goal

pub returns-in-Listed : goal.returns-in-Listed
returns-in-Listed c = rw c.in-Listed.is (c.is_among.ensures ∙ sym (list_any-map tree (same_tree (error c.args.code)) c.args.values.now))

pub returns-in-Known : goal.returns-in-Known
returns-in-Known c =
    rw (c.in-Known.is, ← c.deref.ensures.value) (c.is_named.ensures ∙ sym (list_any-map (λ (e : ErrorCode). error e) (same_tree (error c.args.code)) c.deref.result.now))
