use Rattle.std.proofs.Common.{◌∙◌, sym, w32}
use Rattle.std.proofs.lemmas.Int.{to_z-of_z}
use Rattle.std.proofs.lemmas.Result.{err_from_is_err_and}
use Rattle.moo_eval_access.specs.SeenCalled.{entered_of, found_of}
use Rattle.moo_eval_hook.specs.SeenByHooks.{calling_of}
use Rattle.moo_eval_hook.proofs.Hooked.{entered_by, refused_by}
use Rattle.moo_eval_hook.proofs.hook.call_found.Goals as goal

pub returns-in_err-called : goal.returns-in_err-called
returns-in_err-called c =
    let o = to_z-of_z w32 c.args.o c.ranges.o in
    let p = err_from_is_err_and c.from_residual-in_err-called.result c.from_residual-in_err-called.ensures.1 in
    rw (p.1, p.2) (λ there k. refused_by (calling_of c.args.stack.now c.args.active.now) c.args.world.now c.args.function.now c.args.o c.args.name.now c.args.stage c.args.what (found_of c.args.found) _ there (simp (o, c.in_ok-verb.ensures, c.in_ok-args.ensures) at (c.in_err-called.ensures k)))

pub returns : goal.returns
returns c =
    let o = to_z-of_z w32 c.args.o c.ranges.o in
    λ there k. entered_by (calling_of c.args.stack.now c.args.active.now) c.args.world.now c.args.function.now c.args.o c.args.name.now c.args.stage c.args.what (found_of c.args.found) (entered_of c.in_ok-called.called) (entered_of c.through.result) there (simp (o, c.in_ok-verb.ensures, c.in_ok-args.ensures) at (c.in_ok-called.ensures tt)) c.through.ensures ∙ sym c.in_ok-verb_next.ensures
