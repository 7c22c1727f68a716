use Rattle.std.proofs.Common.{◌∷◌, [], ◌++◌, sym, ◌∙◌}
use Rattle.std.proofs.lemmas.Bool.{false≢true}
use Rattle.moo_value.specs.Tree.{list_of}
use Rattle.moo_value.specs.View.{tree}
use Rattle.moo_builtin_operator.proofs.Lawful.{limited_within, limited_past}
use Rattle.moo_eval_deferred.proofs.longer_list.LongerList.appended.Goals as goal

pub returns-clause-some : goal.returns-clause-some
returns-clause-some c =
    limited_within (list_of (c.args.list ++ tree c.args.last ∷ [])) (c.has_room_for.ensures.last.0 c.if-not-has_room_for.false)

pub returns-then-not-has_room_for-clause-none : goal.returns-then-not-has_room_for-clause-none
returns-then-not-has_room_for-clause-none c =
    limited_past (list_of (c.args.list ++ tree c.args.last ∷ [])) (λ limits. false≢true (sym c.if-not-has_room_for.true ∙ c.has_room_for.ensures.last.1 limits))
