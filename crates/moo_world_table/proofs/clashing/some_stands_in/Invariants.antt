-- None of the names so far is among the first ones.
use Rattle.std.proofs.Common.{◌≡◌, drop}
use Rattle.std.specs.List.{list_any}
use Rattle.moo_world_object.specs.Names.{same_name}
use Rattle.moo_world_table.proofs.clashing.some_stands_in.Given as goal

abbrev pub invariant-loop-name : goal.invariant-loop-name
invariant-loop-name l = list_any (λ n. list_any (λ m. same_name m n) l.names) l.others ≡ list_any (λ n. list_any (λ m. same_name m n) l.names) (drop l.name-index l.others)
