use Rattle.moo_world_object.specs.Index.{Grows}
use Rattle.moo_world_object.proofs.Index.{HoldsPrefixes}
use Rattle.moo_world_object.proofs.verb_index.VerbIndex.add_prefixes.Given as goal

abbrev pub invariant-loop-end : goal.invariant-loop-end
invariant-loop-end l = record {
  grows : Grows l.initial.self l.self;
  holds : HoldsPrefixes l.self l.pattern l.place l.end;
}
