use Rattle.std.proofs.Common.{◌<◌, sym, ap, arith, length, subst}
use Rattle.moo_world_object.specs.Verbs.{fits_verb}
use Rattle.moo_world_object.specs.Index.{IsInBucket, AreIndexed}
use Rattle.moo_world_object.proofs.Letters.{first_place, none_at}
use Rattle.moo_world_object.proofs.Index.{outside}
use Rattle.moo_world_object.proofs.verb_list.VerbList.position_passed.Goals as goal

pub returns-then-first-last : goal.returns-then-first-last
returns-then-first-last c =
    let indexed = subst (λ vs. AreIndexed c.self.inside.index vs) c.self.view_is c.self.invariant.2 in
    none_at (fits_verb c.args.need c.args.name.now) c.args.self.now
    (λ k d low. outside c.self.inside.index c.args.self.now c.args.need c.args.name.now k d indexed low
    (λ listed.
    let range = c.range-first.ensures k (omega (arith, low, ap length c.self.view_is, c.len.ensures, c.self.inside.verbs.ok.0)) (subst (λ h. IsInBucket c.self.inside.index h k) (sym c.hash.ensures) listed.1) in
    omega (arith, range.0, range.1, c.if-first-last.true)))

pub position_between-requires-clause-before : goal.position_between-requires-clause-before
position_between-requires-clause-before c = λ k d low below.
    let indexed = subst (λ vs. AreIndexed c.self.inside.index vs) c.self.view_is c.self.invariant.2 in
    outside c.self.inside.index c.args.self.now c.args.need c.args.name.now k d indexed low
    (λ listed.
    let range = c.range-first.ensures k (omega (arith, low, ap length c.self.view_is, c.len.ensures, c.self.inside.verbs.ok.0)) (subst (λ h. IsInBucket c.self.inside.index h k) (sym c.hash.ensures) listed.1) in
    omega (arith, range.0, below))

pub position_between-requires-clause-after : goal.position_between-requires-clause-after
position_between-requires-clause-after c = λ k d low above.
    let indexed = subst (λ vs. AreIndexed c.self.inside.index vs) c.self.view_is c.self.invariant.2 in
    outside c.self.inside.index c.args.self.now c.args.need c.args.name.now k d indexed low
    (λ listed.
    let range = c.range-first.ensures k (omega (arith, low, ap length c.self.view_is, c.len.ensures, c.self.inside.verbs.ok.0)) (subst (λ h. IsInBucket c.self.inside.index h k) (sym c.hash.ensures) listed.1) in
    omega (arith, range.1, above))

pub returns-then-is_known_at : goal.returns-then-is_known_at
returns-then-is_known_at c =
    let indexed = subst (λ vs. AreIndexed c.self.inside.index vs) c.self.view_is c.self.invariant.2 in
    let known = c.is_known_at.ensures c.if-is_known_at.true in
    first_place (fits_verb c.args.need c.args.name.now) c.args.self.now c.range-first.result.0 known.0
    (λ k d below. let low : k < length c.args.self.now = omega (arith, below, known.0) in
    outside c.self.inside.index c.args.self.now c.args.need c.args.name.now k d indexed low
    (λ listed.
    let range = c.range-first.ensures k (omega (arith, low, ap length c.self.view_is, c.len.ensures, c.self.inside.verbs.ok.0)) (subst (λ h. IsInBucket c.self.inside.index h k) (sym c.hash.ensures) listed.1) in
    omega (arith, range.0, below)))
    (λ v here. known.1 v here)
