use Rattle.std.proofs.Common.{◌≡◌, ◌<◌, ◌∙◌, sym, ap, arith, length, get_or, ltb, inl, inr}
use Rattle.std.proofs.lemmas.Bool.{cases_Bool, ltb-true, ltb-false}
use Rattle.std.proofs.lemmas.List.{get_or_default}
use Rattle.moo_world_object.specs.Verbs.{fits_verb}
use Rattle.moo_world_object.proofs.Letters.{first_place, none_at}
use Rattle.moo_world_object.proofs.verb_list.VerbList.position_between.Goals as goal

pub loop-i-init : goal.loop-i-init
loop-i-init c = λ k d below low. c.requires.before k d low below

pub loop-i-preserved : goal.loop-i-preserved
loop-i-preserved c = λ k d below low. elim (cases_Bool (ltb k c.loop-i.i)) [
  | inl less ↦ c.loop-i.invariant k d (ltb-true k c.loop-i.i less) low
  | inr more ↦
      let same : k ≡ c.loop-i.i = omega (arith, below, ltb-false k c.loop-i.i more) in
      let at : c.loop-i.i < length c.args.self.now = omega (arith, low, same) in
      let v = get_or c.args.self.now c.loop-i.i d in
      ap (λ n. fits_verb c.args.need c.args.name.now (get_or c.args.self.now n d)) same ∙ sym (c.fits.ensures v (get_or_default c.args.self.now c.loop-i.i d v at)) ∙ c.if-fits.false
]

pub returns-then-i-last : goal.returns-then-i-last
returns-then-i-last c =
    none_at (fits_verb c.args.need c.args.name.now) c.args.self.now
    (λ k d low. elim (cases_Bool (ltb k c.loop-i.i)) [
      | inl less ↦ c.loop-i.invariant k d (ltb-true k c.loop-i.i less) low
      | inr more ↦ c.requires.after k d low (omega (arith, ltb-false k c.loop-i.i more, c.if-i-last.true))
    ])

pub returns-then-fits : goal.returns-then-fits
returns-then-fits c =
    let low : c.loop-i.i < length c.args.self.now = omega (arith, ap length c.self.view_is, c.loop-i-test.true, c.len-i-end.ensures, c.self.inside.verbs.ok.0) in
    first_place (fits_verb c.args.need c.args.name.now) c.args.self.now c.loop-i.i low (λ k d l. c.loop-i.invariant k d l (omega (arith, l, low))) (λ v here. sym (c.fits.ensures v here) ∙ c.if-fits.true)

pub returns : goal.returns
returns c =
    let all : length c.args.self.now ≡ c.len-i-end.result = omega (arith, ap length c.self.view_is, c.len-i-end.ensures, c.self.inside.verbs.ok.0) in
    none_at (fits_verb c.args.need c.args.name.now) c.args.self.now (λ k d l. c.loop-i.invariant k d (omega (arith, all, l, c.loop-i-test.false)) l)
