use Rattle.std.proofs.Common.{Ok, pos, sym, ap, ◌∙◌, arith}
use Rattle.moo_value.specs.Tree.{integer}
use Rattle.moo_value.specs.TreeCode.{trees_of-elements_of}
use Rattle.moo_builtin_operator.proofs.Lists.{length-trees, length_limit}
use Rattle.moo_builtin_operator.proofs.place.length_of.Goals as goal

pub number_of-requires-in-List : goal.number_of-requires-in-List
number_of-requires-in-List c = omega (arith, length_limit _ _ c.elements.ensures.value c.elements.ensures.limits)

pub returns-in-List : goal.returns-in-List
returns-in-List c =
    rw (c.in-List.is, trees_of-elements_of)
    (ap (λ n. Ok (integer (pos n))) (sym (length-trees _ _ c.elements.ensures.value)) ∙ ap Ok (sym c.number_of-in-List.ensures))
