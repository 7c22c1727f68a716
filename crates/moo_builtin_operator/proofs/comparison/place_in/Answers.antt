use Rattle.std.proofs.Common.{Ok, sym, ap, ◌∙◌, arith}
use Rattle.moo_builtin_operator.proofs.Lists.{length_limit, place_found, place_missed}
use Rattle.moo_builtin_operator.proofs.comparison.place_in.Goals as goal

pub number_of-requires : goal.number_of-requires
number_of-requires c = omega (arith, c.in-Some.ensures.bound, length_limit _ _ c.elements.ensures.value c.elements.ensures.limits)

pub returns-in-Some : goal.returns-in-Some
returns-in-Some c = rw c.in-List.is (place_found _ _ _ _ c.elements.ensures.value c.in-Some.ensures.value ∙ ap Ok (sym c.number_of.ensures))

pub returns-in-None : goal.returns-in-None
returns-in-None c = rw c.in-List.is (place_missed _ _ _ c.elements.ensures.value c.in-None.ensures.value)
