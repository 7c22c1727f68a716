use Rattle.std.proofs.Common.{◌∙◌, sym, ap, option_map, w32}
use Rattle.std.proofs.lemmas.Int.{to_z-of_z}
use Rattle.moo_eval_access.specs.SeenCalled.{found_of}
use Rattle.moo_eval_hook.specs.SeenByHooks.{calling_of}
use Rattle.moo_eval_hook.proofs.Hooked.{passed_over, found_so}
use Rattle.moo_eval_hook.proofs.hook.hook.Goals as goal

pub returns-in-None : goal.returns-in-None
returns-in-None c =
    let o = to_z-of_z w32 c.args.o c.ranges.o in
    λ k. passed_over (calling_of c.args.stack.now c.args.active.now) c.args.world.now c.args.function.now c.args.o c.args.name.now c.args.what c.args.stage (sym (simp (o, c.as_bytes.ensures.value) at c.called_verb.ensures) ∙ ap (option_map found_of) c.in-None.is)

pub returns-in-Some : goal.returns-in-Some
returns-in-Some c =
    let o = to_z-of_z w32 c.args.o c.ranges.o in
    λ k. (simp o at c.call_found.ensures) (found_so c.args.world.now c.args.o c.args.name.now (found_of c.in-Some.found) (sym (simp (o, c.as_bytes.ensures.value) at c.called_verb.ensures) ∙ ap (option_map found_of) c.in-Some.is)) k
