-- Texts one after the other are no shorter than the first of them.
use Rattle.std.proofs.Common.{ℕ, zero, suc, ◌≤◌, ◌<◌, ◌+◌, ◌≡◌, List, [], ◌∷◌, ◌++◌, length, length-append, take, get_or, ap, arith}
use Rattle.std.specs.List.{flat_map}
use Rattle.moo_value.specs.declared.value.Value.{Value}
use Rattle.moo_value.specs.Text.{plain}
use Rattle.moo_value.specs.View.{tree, trees}
use Rattle.moo_builtin_operator.specs.declared.fault.OperationFault.{OperationFault}
use Rattle.moo_builtin_operator.specs.declared.fault.OperationFault.TheVariants.{Raise, Memory}
use Rattle.moo_builtin_value.specs.TextAnswers.{IsRefusedText}

first_short : (vs : List Value) (i : ℕ) (v : Value) → i < length vs → v ≡ get_or vs i v → length (flat_map plain (trees (take i vs))) + length (plain (tree v)) ≤ length (flat_map plain (trees vs))
first_short [] i v lt is = absurd (omega (arith, lt))
first_short (x ∷ vs) zero v lt is = omega (arith, ap (λ y. length (plain (tree y))) is, length-append (plain (tree x)) (flat_map plain (trees vs)))
first_short (x ∷ vs) (suc i) v lt is =
    omega (arith, first_short vs i v (omega (arith, lt)) is, length-append (plain (tree x)) (flat_map plain (trees (take i vs))), length-append (plain (tree x)) (flat_map plain (trees vs)))

-- if the first of them are refused after a text, all are
pub all_refused : (fault : OperationFault) (vs : List Value) (i : ℕ) (v : Value) (text so_far : List ℕ) → i < length vs → v ≡ get_or vs i v → so_far ≡ text ++ flat_map plain (trees (take i vs)) → IsRefusedText fault (so_far ++ plain (tree v)) → IsRefusedText fault (text ++ flat_map plain (trees vs))
all_refused (Raise e) vs i v text so_far lt is so refused = (
  refused.0,
  omega (
    arith,
    refused.1,
    first_short vs i v lt is,
    ap length so,
    length-append so_far (plain (tree v)),
    length-append text (flat_map plain (trees (take i vs))),
    length-append text (flat_map plain (trees vs)),
  ),
)
all_refused Memory vs i v text so_far lt is so refused = tt
