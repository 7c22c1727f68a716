-- The parser's knowledge of the height of trees.
use Rattle.std.specs.Prelude.{ℕ, ◌≤◌, ◌<◌, ◌≡◌, ◌⊎◌, Result, MatchResult}
use Rattle.moo_syntax_ast.specs.Tree.{Expr}
use Rattle.moo_syntax_ast.specs.Limits.{height}
use Rattle.moo_syntax_ast.specs.View.{root}
use Rattle.moo_syntax.specs.declared.fault.Fault.{Fault}
use Rattle.moo_syntax.specs.declared.fault.Fault.TheVariants.{Memory, TooDeep}
use Rattle.moo_syntax.specs.declared.node.Node.{Node}

-- the tree was made, or is too high, or there was no memory for it
abbrev pub IsMade : Expr → ℕ → Result Node Fault → Type 0
IsMade e room result = MatchResult result (λ n. (root n.tree ≡ e) × (n.height ≤ room) × (n.height ≡ height e)) (λ f. (f ≡ Memory) ⊎ ((f ≡ TooDeep) × (room < height e)))
