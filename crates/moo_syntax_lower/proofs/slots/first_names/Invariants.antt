-- The map has the names so far, and those found with the first of what is left are all the first ones.
use Rattle.std.proofs.Common.{◌≡◌, ◌++◌, drop, false, is_some}
use Rattle.std.specs.BTreeMap as tree
use Rattle.std.specs.Ordering.{nat_cmp}
use Rattle.std.specs.Cmp.Lexicographic.{slice_cmp}
use Rattle.moo_syntax_ast.specs.Slots.{firsts}
use Rattle.moo_syntax_lower.proofs.slots.first_names.Given as goal

abbrev pub invariant-loop-name : goal.invariant-loop-name
invariant-loop-name l = l.found.items ++ firsts (λ y. is_some (tree.get_by (λ k. slice_cmp nat_cmp y k.now) l.seen)) (drop l.name-index l.names) ≡ firsts (λ _. false) l.names
