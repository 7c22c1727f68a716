use Rattle.std.proofs.Common.{◌≡◌, ℕ, drop}
use Rattle.moo_value.specs.Tree.{Tree}
use Rattle.moo_value.specs.View.{trees}
use Rattle.moo_syntax_function.specs.Table.{row}
use Rattle.moo_syntax_function.specs.Check.{kind_at, names_valid, holds_from}
use Rattle.moo_builtin_world.specs.Objects.{is_valid}
use Rattle.moo_builtin_world.proofs.refusing.all_valid.Given as goal

abbrev pub invariant-loop-place : goal.invariant-loop-place
invariant-loop-place l =
    let test = λ (place : ℕ) (t : Tree). names_valid (is_valid l.world) (kind_at (row l.function) place) t in
    holds_from test 0 (trees l.args) ≡ holds_from test l.place (trees (drop l.place l.args))
