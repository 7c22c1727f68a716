use Rattle.std.proofs.Common.{◌≡◌, ℕ, drop}
use Rattle.moo_value.specs.Tree.{Tree}
use Rattle.moo_value.specs.View.{trees}
use Rattle.moo_syntax_function.specs.Check.{seen, kind_at, fits, names_valid, holds_from}
use Rattle.moo_builtin_world.specs.Objects.{is_valid}
use Rattle.moo_builtin_world.proofs.refusing.are_accepted.Given as goal

abbrev pub invariant-loop-place : goal.invariant-loop-place
invariant-loop-place l =
    let fit = λ (place : ℕ) (t : Tree). fits (kind_at (seen l.row) place) t in
    let valid = λ (place : ℕ) (t : Tree). names_valid (is_valid l.world) (kind_at (seen l.row) place) t in
    record {
      fit : holds_from fit 0 (trees l.args) ≡ holds_from fit l.place (trees (drop l.place l.args));
      valid : holds_from valid 0 (trees l.args) ≡ holds_from valid l.place (trees (drop l.place l.args));
    }
