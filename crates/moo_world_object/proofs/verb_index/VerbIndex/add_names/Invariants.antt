use Rattle.std.proofs.Common.{◌<◌, ℕ, [], length, get_or}
use Rattle.std.specs.List.{slice_split}
use Rattle.moo_world_object.specs.Patterns.{is_blank}
use Rattle.moo_world_object.specs.Index.{Grows, CoversPattern}
use Rattle.moo_world_object.proofs.verb_index.VerbIndex.add_names.Given as goal

abbrev pub invariant-loop-pattern : goal.invariant-loop-pattern
invariant-loop-pattern l = record {
  grows : Grows l.initial.self l.self;
  covers : (k : ℕ) → k < length l.yielded → CoversPattern l.self (get_or (slice_split is_blank l.names) k []) l.place;
}
