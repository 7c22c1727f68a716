-- The hash is that of the bytes after those that are left.
use Rattle.std.proofs.Common.{◌≡◌, ℕ, List, ◌++◌, length}
use Rattle.moo_value.specs.Compare.{folded}
use Rattle.moo_syntax_ast.specs.NameNumber.{hash_of}
use Rattle.moo_syntax_ast.proofs.numbering.hash_of.Given as goal

abbrev pub invariant-loop-last : goal.invariant-loop-last
invariant-loop-last l = (after : List ℕ) × (l.name ≡ l.rest ++ after) × (hash_of (folded after) ≡ l.hash)

abbrev pub decreases-loop-last : goal.decreases-loop-last
decreases-loop-last l = length l.rest
