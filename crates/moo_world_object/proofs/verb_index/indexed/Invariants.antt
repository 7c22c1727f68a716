use Rattle.std.proofs.Common.{◌≡◌, ◌<◌, ℕ, get_or}
use Rattle.moo_world_object.specs.Index.{Covers}
use Rattle.moo_world_object.specs.declared.verb.Verb.{Verb}
use Rattle.moo_world_object.proofs.verb_index.indexed.Given as goal

abbrev pub invariant-loop-i : goal.invariant-loop-i
invariant-loop-i l = (k : ℕ) (v : Verb) → k < l.i → v ≡ get_or l.verbs k v → Covers l.index v.names k
