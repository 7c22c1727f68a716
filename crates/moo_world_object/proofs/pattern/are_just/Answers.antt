use Rattle.std.proofs.Common.{length, sym, ◌∙◌, arith}
use Rattle.std.proofs.lemmas.Bool.{false≢true, eq-eqb}
use Rattle.moo_world_object.proofs.Alone.{just_fits}
use Rattle.moo_world_object.proofs.pattern.are_just.Goals as goal

pub returns : goal.returns
returns c =
    λ _. just_fits c.args.names.now c.args.name.now (omega arith)
    (λ none. false≢true (sym c.if-is_empty.false ∙ c.is_empty.ensures ∙ eq-eqb (length c.args.names.now) 0 none))
    (λ k l. c.loop-i.invariant k (omega (arith, l)))
