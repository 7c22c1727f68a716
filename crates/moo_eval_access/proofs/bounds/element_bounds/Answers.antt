use Rattle.std.proofs.Common.{◌≡◌, Some, w32, rules, set}
use Rattle.std.specs.Prelude.{FitsSigned}
use Rattle.std.proofs.lemmas.Int.{to_z-of_z}
use Rattle.moo_value.specs.Tree.{list_of}
use Rattle.moo_builtin_operator.specs.Assignment.{before_place}
use Rattle.moo_eval_access.proofs.Bounded.{on_some, list_takes}
use Rattle.moo_eval_access.proofs.bounds.element_bounds.Goals as goal

pub returns : goal.returns
returns c =
    let fits : FitsSigned w32 c.in-Int.place = search rules in
    let found : Some c.in_ok-index.index ≡ before_place c.in-Int.place c.len.result = simp to_z-of_z at c.in_ok-index.ensures.value in
    on_some c.list_bounds.result c.list_bounds.ensures (λ b k v bounded.
    let w = k v bounded in
    rw c.in-Int.is (list_of (set c.args.list.now c.in_ok-index.index v), list_takes c.args.list.now c.in-Int.place c.in_ok-index.index c.len.result v c.len.ensures found w.1, w.0))
