use Rattle.std.proofs.Common.{◌≡◌, ◌<◌, ◌∙◌, sym, ap, subst, ℕ, List, drop, length, arith, None, Some}
use Rattle.std.specs.Option.{option_map}
use Rattle.std.proofs.lemmas.List.{length-drop}
use Rattle.moo_command.specs.FirstWord.{IsTyped, unindented}
use Rattle.moo_command.specs.Typed.{expanded}
use Rattle.moo_command.specs.Inner.{verb_leading}
use Rattle.moo_command.proofs.Splits.{rest_whole}
use Rattle.moo_command.proofs.Signs.{signed_typed, unsigned_typed, all_then}
use Rattle.moo_command.proofs.Light.{light_enough}
use Rattle.moo_command.proofs.parsing.expanded.Goals as goal

pub returns-in_default-clause-split : goal.returns-in_default-clause-split
returns-in_default-clause-split c =
    let t = c.args.typed in
    let same = c.as_bytes-bytes.ensures.value in
    let none : verb_leading (drop c.skip_blanks-at.result c.as_bytes-bytes.result.now) ≡ None =
    sym (ap verb_leading (rest_whole c.as_bytes-bytes.result.now c.skip_blanks-at.result c.skip_blanks-at.ensures.inside)) ∙ sym c.verb_leading.ensures.value ∙ ap (option_map (λ v. v.now)) c.in_default.is in
    subst (λ (ts : List ℕ). IsTyped (expanded ts) t.verb t.rest t.args.items) same (
    unsigned_typed c.as_bytes-bytes.result.now c.skip_blanks-at.result t.verb t.rest t.args.items c.skip_blanks-at.ensures.rest none
    (subst (λ (ts : List ℕ). IsTyped ts t.verb t.rest t.args.items) (sym same) c.requires)
    )

pub returns-in_default-clause-light : goal.returns-in_default-clause-light
returns-in_default-clause-light c =
    let t = c.args.typed in
    let light = c.words_are_light.ensures.typed t.line t.verb t.rest t.args.items c.requires in
    light_enough t.line t.args.items c.as_bytes-bytes.ensures.string light

pub returns-clause-split : goal.returns-clause-split
returns-clause-split c =
    let same = c.as_bytes-bytes.ensures.value in
    let bytes : List ℕ = c.as_bytes-bytes.result.now in
    let at : ℕ = c.skip_blanks-at.result in
    let whole = rest_whole bytes at c.skip_blanks-at.ensures.inside in
    let inside : at < length bytes = omega (arith, c.in-Some.ensures.following, ap length whole, length-drop at bytes) in
    let leads : verb_leading (drop at bytes) ≡ Some c.in-Some.verb.now = sym (ap verb_leading whole) ∙ sym c.in-Some.ensures.value in
    all_then c.typed_after.result _ _ _ _ (λ t verb kept others.
    subst (λ (v : List ℕ). IsTyped (expanded c.args.typed.line) v t.rest t.args.items) (sym (verb ∙ c.in_ok-verb.ensures)) (
    signed_typed c.args.typed.line at c.in-Some.verb.now t.rest t.args.items
    (subst (λ (ts : List ℕ). drop at ts ≡ unindented ts) same c.skip_blanks-at.ensures.rest)
    (subst (λ (ts : List ℕ). at < length ts) same inside)
    (subst (λ (ts : List ℕ). verb_leading (drop at ts) ≡ Some c.in-Some.verb.now) same leads)
    kept others
    )
    ) c.typed_after.ensures.verb c.typed_after.ensures.rest c.typed_after.ensures.args
