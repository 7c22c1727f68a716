use Rattle.std.proofs.Common.{sym, codes, w32}
use Rattle.std.proofs.lemmas.Int.{to_z-of_z}
use Rattle.std.proofs.lemmas.Result.{err_from_is_err_and}
use Rattle.std.proofs.Common.{[], ◌∷◌}
use Rattle.moo_value.specs.Tree.{object}
use Rattle.moo_eval_semantics.specs.Recycling.{recycle_calls, moved_out}
use Rattle.moo_eval_hook.specs.SeenByHooks.{calling_of}
use Rattle.moo_eval_hook.proofs.Raised.{refused, changed}
use Rattle.moo_eval_hook.proofs.recycling.move_out.Goals as goal

pub returns-in_err-as_outcome : goal.returns-in_err-as_outcome
unfolding moved_out
returns-in_err-as_outcome c =
    let inside = to_z-of_z w32 c.args.inside c.ranges.inside in
    let p = err_from_is_err_and c.from_residual.result c.from_residual.ensures.1 in
    rw (p.1, p.2) (λ k. refused c.move_bare.result _ _ _ _ _ _ (simp inside at c.move_bare.ensures.world) (sym c.in_err-as_outcome.ensures) k)

pub returns : goal.returns
unfolding moved_out
returns c =
    let inside = to_z-of_z w32 c.args.inside c.ranges.inside in
    let o = to_z-of_z w32 c.args.o c.ranges.o in
    λ k. changed c.move_bare.result c.in_ok-as_outcome.field-0 _ _ _ _ (λ x. recycle_calls (calling_of c.args.stack.now c.args.active.now) x c.args.o (codes "exitfunc") (object c.args.inside ∷ [])) _ (simp inside at c.move_bare.ensures.world) (sym c.in_ok-as_outcome.ensures) (simp (o, inside) at (c.call_verb.ensures k))
