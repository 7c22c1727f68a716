use Rattle.std.proofs.Common.{◌≡◌, ℕ, drop}
use Rattle.moo_value.specs.Tree.{Tree}
use Rattle.moo_value.specs.View.{trees}
use Rattle.moo_syntax_function.specs.Check.{kind_at, fits, holds_from, seen}
use Rattle.moo_syntax_function.proofs.check.all_fit.Given as goal

abbrev pub invariant-loop-place : goal.invariant-loop-place
invariant-loop-place l =
    let test = λ (place : ℕ) (t : Tree). fits (kind_at (seen l.row) place) t in
    holds_from test 0 (trees l.args) ≡ holds_from test l.place (trees (drop l.place l.args))
