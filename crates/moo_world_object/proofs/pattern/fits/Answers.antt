use Rattle.std.proofs.Common.{◌≡◌, ◌<◌, false, length, get_or, sym, ◌∙◌, inl, inr, arith}
use Rattle.std.proofs.lemmas.Bool.{false≢true, leb-true, le-leb, eq-eqb}
use Rattle.moo_world_object.specs.Patterns.{is_star}
use Rattle.moo_world_object.proofs.Fitting.{name_ends, name_differs, base_ends}
use Rattle.moo_world_object.proofs.Patterns.{fits_value}
use Rattle.moo_world_object.proofs.pattern.fits.Goals as goal

pub returns-then-matched-name : goal.returns-then-matched-name
returns-then-matched-name c =
    let plain : is_star (get_or c.args.pattern.now c.loop-byte.byte-index 0) ≡ false = sym c.is_star.ensures ∙ c.if-is_star.false in
    let parts = name_ends c.args.pattern.now c.args.name.now c.loop-byte.byte-index c.loop-byte.matched c.loop-byte.invariant c.loop-byte-test.true plain c.if-matched-name.true in fits_value c.args.pattern.now c.args.name.now _ (
      λ enough. parts.0 (omega (arith, leb-true c.least_length.result c.loop-byte.matched enough, c.least_length.ensures)),
      λ fitting. le-leb c.least_length.result c.loop-byte.matched (omega (arith, parts.1 fitting, c.least_length.ensures)),
    )

pub returns-then-to_ascii_lowercase : goal.returns-then-to_ascii_lowercase
returns-then-to_ascii_lowercase c =
    let plain : is_star (get_or c.args.pattern.now c.loop-byte.byte-index 0) ≡ false = sym c.is_star.ensures ∙ c.if-is_star.false in
    let room : c.loop-byte.matched < length c.args.name.now = omega arith in fits_value c.args.pattern.now c.args.name.now _ (
      λ never. absurd (false≢true never),
      λ fitting. absurd (
          name_differs c.args.pattern.now c.args.name.now c.loop-byte.byte-index c.loop-byte.matched c.loop-byte.invariant c.loop-byte-test.true plain room
          (λ alike. c.if-to_ascii_lowercase.true (c.to_ascii_lowercase.ensures.value ∙ alike ∙ sym c.to_ascii_lowercase-in-loop-byte.ensures.value)) fitting
          ),
    )

pub returns-then-matched-name-2 : goal.returns-then-matched-name-2
returns-then-matched-name-2 c =
    let parts = base_ends c.args.pattern.now c.args.name.now c.loop-byte.byte-index c.loop-byte.matched c.loop-byte.invariant c.loop-byte-test.false in fits_value c.args.pattern.now c.args.name.now _ (
      λ _. parts.0 (inl c.if-matched-name-2.true),
      λ _. eq-eqb c.loop-byte.matched (length c.args.name.now) c.if-matched-name-2.true,
    )

pub returns-else-matched-name-2 : goal.returns-else-matched-name-2
returns-else-matched-name-2 c =
    let parts = base_ends c.args.pattern.now c.args.name.now c.loop-byte.byte-index c.loop-byte.matched c.loop-byte.invariant c.loop-byte-test.false in fits_value c.args.pattern.now c.args.name.now _ (
      λ star. parts.0 (inr (c.ends_in_star.ensures.0 star)),
      λ fitting. c.ends_in_star.ensures.1 (parts.1 fitting c.if-matched-name-2.false),
    )
