use Rattle.std.proofs.Common.{refl}
use Rattle.moo_syntax_function.specs.Table.{row}
use Rattle.moo_builtin_world.specs.Objects.{is_valid}
use Rattle.moo_eval_access.proofs.Counted.{refused_for_number}
use Rattle.moo_eval_call.proofs.call.unless_too_many.Goals as goal

pub returns-then-are_too_many : goal.returns-then-are_too_many
returns-then-are_too_many c =
    λ k. rw (refused_for_number (is_valid c.args.world.now) (row c.args.function) c.args.values (c.are_too_many.ensures c.if-are_too_many.true)) refl
