use Rattle.std.proofs.Common.{w32, rules}
use Rattle.std.proofs.lemmas.Int.{to_z-of_z}
use Rattle.std.proofs.lemmas.Result.{err_from_is_err_and}
use mir.Val.{SFits}
use Rattle.moo_value.specs.View.{tree}
use Rattle.moo_eval_access.proofs.Written.{unchanged_alike}
use Rattle.moo_eval_semantics.specs.Meaning.{no_store}
use Rattle.moo_eval_task.proofs.Stored.{taken_rebuilt, whole_stored}
use Rattle.moo_eval_task.proofs.task.Task.store_property.Goals as goal
use Rattle.moo_eval_task.proofs.task.Task.store_property.Goals.{then-is_taken, else-is_taken}

pub returns-in_err-whole : goal.returns-in_err-whole
returns-in_err-whole c =
    let p = err_from_is_err_and c.from_residual.result c.from_residual.ensures.1 in
    rw (p.1, p.2) (elim c.if-is_taken.branch [
      | then-is_taken w ↦ λ k m. taken_rebuilt _ (rw c.deref.ensures.value at (c.is_taken.ensures w.if-is_taken.true)) (c.in_err-whole.ensures m)
      | else-is_taken w ↦ λ k m. rw w.world-is (no_store (c.in_err-whole.ensures m))
    ])

pub returns : goal.returns
returns c =
    let f : SFits w32 c.args.active.now.programmer = search rules in
    elim c.if-is_taken.branch [
      | then-is_taken w ↦ λ k m. whole_stored (tree c.in_ok-whole.whole) c.write_property.result (rw (← w.world-is, to_z-of_z w32 c.args.active.now.programmer f) at w.drop_property.ensures) (c.in_ok-whole.ensures tt) (rw (to_z-of_z w32 c.args.active.now.programmer f) at c.write_property.ensures.world) c.write_property.ensures.kept m
      | else-is_taken w ↦ λ k m. whole_stored (tree c.in_ok-whole.whole) c.write_property.result (unchanged_alike _ _ _ _ _ w.world-is) (c.in_ok-whole.ensures tt) (rw (to_z-of_z w32 c.args.active.now.programmer f) at c.write_property.ensures.world) c.write_property.ensures.kept m
    ]
