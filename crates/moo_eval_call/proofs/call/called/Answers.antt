use Rattle.moo_value.specs.declared.error_code.ErrorCode.TheVariants.{Arguments}
use Rattle.moo_syntax_function.specs.Table.{row}
use Rattle.moo_builtin_value.specs.Calls.{plainly}
use Rattle.moo_builtin_world.specs.Objects.{is_valid}
use Rattle.moo_builtin.specs.Telling.{Faults}
use Rattle.moo_builtin.specs.Calls.{CallsPlain, refused}
use Rattle.moo_eval_access.proofs.Counted.{refused_for_number}
use Rattle.moo_eval_call.proofs.Replies.{raises_reply}
use Rattle.moo_eval_call.proofs.call.called.Goals as goal

pub returns-then-are_too_many : goal.returns-then-are_too_many
returns-then-are_too_many c =
    λ name named. raises_reply c.raised.result (plainly Arguments) c.args.world.now (CallsPlain Faults name c.args.values c.args.world.now c.args.caller) c.raised.ensures
    (refused named (refused_for_number (is_valid c.args.world.now) (row c.args.function) c.args.values (c.are_too_many.ensures c.if-are_too_many.true)))
