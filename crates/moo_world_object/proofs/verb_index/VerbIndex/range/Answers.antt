use Rattle.std.proofs.Common.{inl, inr, subst, sym, arith}
use Rattle.moo_world_object.specs.Index.{Holds}
use Rattle.moo_world_object.proofs.verb_index.VerbIndex.range.Goals as goal

pub returns : goal.returns
returns c = λ i low listed. elim listed [
  | inl holds ↦
      let r = c.range_at-own.ensures i low (subst (λ j. Holds c.args.self.now j i) (sym c.bucket_of.ensures) holds) in
      (omega (arith, r.0, c.min.ensures), omega (arith, r.1, c.max.ensures))
  | inr holds ↦
      let r = c.range_at-open.ensures i low holds in
      (omega (arith, r.0, c.min.ensures), omega (arith, r.1, c.max.ensures))
]
