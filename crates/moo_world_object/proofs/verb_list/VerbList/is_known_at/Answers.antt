use Rattle.std.proofs.Common.{◌≡◌, ◌<◌, ◌∙◌, ltb, length, sym, ap, get_or, true, arith, refl}
use Rattle.std.proofs.lemmas.Bool.{ltb-true, eq-eqb}
use Rattle.std.proofs.lemmas.List.{get_or_default}
use Rattle.moo_world_object.specs.Patterns.{fits_names}
use Rattle.moo_world_object.specs.Verbs.{is_needed}
use Rattle.moo_world_object.proofs.VerbNumbers.{number_there, fewer_numbers}
use Rattle.moo_world_object.proofs.Numbered.{both_numbered}
use Rattle.moo_world_object.proofs.verb_list.VerbList.is_known_at.Goals as goal

pub index-requires : goal.index-requires
index-requires c =
    let within = ltb-true c.args.index (length c.self.inside.numbers.items) (ap (λ ls. ltb c.args.index (length ls)) (sym c.deref.ensures.value) ∙ sym c.in-Some.ensures.lookup.0) in
    omega (arith, fewer_numbers c.self.inside.numbers.items c.self.inside.verbs.items c.self.invariant.1, within, c.self.inside.verbs.ok.0)

pub returns-in-Some : goal.returns-in-Some
returns-in-Some c = λ needed.
    let numbers = c.self.inside.numbers.items in
    let verbs = c.self.inside.verbs.items in
    let items = c.deref.ensures.value in
    let within : c.args.index < length numbers = ltb-true c.args.index (length numbers) (ap (λ ls. ltb c.args.index (length ls)) (sym items) ∙ sym c.in-Some.ensures.lookup.0) in
    let low : c.args.index < length c.args.self.now = omega (arith, fewer_numbers numbers verbs c.self.invariant.1, within, ap length c.self.view_is) in
    let number = c.in-Some.number.now in
    let here = c.in-Some.ensures.lookup.1 ∙ ap (λ ls. get_or ls c.args.index number) items in
    let same : number ≡ c.number.result = c.if-number.true in
    let sought = c.number.ensures (λ zero. c.if-number-ne0.true (same ∙ zero)) in (
      low,
      λ v read.
          let at = read ∙ ap (λ vs. get_or vs c.args.index v) (sym c.self.view_is) in
          let is = number_there numbers verbs c.args.index number v c.self.invariant.1 within here at in
          let fits : fits_names v.names c.args.name.now ≡ true = sym (both_numbered number c.number.result v.names c.args.name.now c.if-number-ne0.true is sought) ∙ eq-eqb number c.number.result same in
          let verb : c.index.result.now ≡ v = c.index.ensures ∙ get_or_default verbs c.args.index c.index.result.now v (omega (arith, low, ap length c.self.view_is)) ∙ sym at in
          let counts : is_needed c.args.need v ≡ true = ap (is_needed c.args.need) (sym verb) ∙ sym c.is_needed.ensures ∙ needed in
          rw (counts, fits) refl,
    )
