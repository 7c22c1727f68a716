-- The code is that of the bytes after those that are left.
use Rattle.std.proofs.Common.{◌≡◌, ℕ, List, ◌++◌, Some, length}
use Rattle.moo_value.specs.Compare.{folded}
use Rattle.moo_syntax_ast.specs.NameNumber.{code_of}
use Rattle.moo_syntax_ast.proofs.numbering.code_of.Given as goal

abbrev pub invariant-loop-last : goal.invariant-loop-last
invariant-loop-last l = (after : List ℕ) × (l.name ≡ l.rest ++ after) × (code_of (folded after) ≡ Some l.code)

abbrev pub decreases-loop-last : goal.decreases-loop-last
decreases-loop-last l = length l.rest
