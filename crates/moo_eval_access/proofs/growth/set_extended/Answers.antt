use Rattle.std.proofs.Common.{◌++◌, sym, ◌∙◌}
use Rattle.std.proofs.lemmas.Bool.{false≢true}
use Rattle.moo_value.specs.Tree.{string}
use Rattle.moo_builtin_operator.proofs.Lawful.{limited_within}
use Rattle.moo_eval_access.specs.LetGo.{let_go}
use Rattle.moo_eval_access.proofs.LettingGo.{set_after}
use Rattle.moo_eval_access.proofs.Longer.{is_string_quota}
use Rattle.moo_eval_access.proofs.growth.set_extended.Goals as goal

pub returns-clause-ok : goal.returns-clause-ok
returns-clause-ok c =
    let all = string (c.args.text ++ c.args.last.now) in
    let made = limited_within all (c.has_room_after.ensures.0 c.if-not-has_room_after.false) in
    (all, made, set_after c.args.name.now all (let_go all _ made c.in_ok-set.ensures) (rw c.in_ok-extended.ensures at c.in_ok-set-2.ensures))

pub returns-then-not-has_room_after-clause-err : goal.returns-then-not-has_room_after-clause-err
returns-then-not-has_room_after-clause-err c =
    λ k. is_string_quota c.args.text c.args.last.now (λ limits. false≢true (sym c.if-not-has_room_after.true ∙ c.has_room_after.ensures.1 limits))
