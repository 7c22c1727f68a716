-- The numbers of verbs on a line.
use Rattle.std.proofs.Common.{◌≡◌, ◌≢◌, ℕ, ℤ, pos, negsuc, ◌/◌, ◌%◌, true, not, eqb, leb, Ok, refl, ap, subst, ◌∙◌, arith}
use Rattle.std.specs.Prelude.{FitsSigned}
use Rattle.std.specs.Int.{w32}
use Rattle.std.specs.Fmt.{signed_decimal}
use Rattle.std.proofs.lemmas.Bool.{leb-true, le-leb, ne_eqb}
use Rattle.moo_dbtext_object.specs.declared.fault.LineFault.TheVariants.{BadNumber}
use Rattle.moo_dbtext_object.specs.Lines.{Line, number_of, small_of, count_line}
use Rattle.moo_dbtext_object.proofs.Steps.{bind_ok}
use Rattle.moo_dbtext_object.proofs.LineLaws.{number_found, chosen_ok, both_true}
use Rattle.moo_dbtext_object.proofs.TextLaws.{number_again, small_again, small_found}
use Rattle.moo_dbtext_object.specs.Objects.{IsVerbBits, IsPreposition}
use Rattle.moo_dbtext_object.specs.ObjectReading.{is_verb_bits, checked_bits, verb_bits_of, checked_preposition, preposition_of}

differs : (n k : ℕ) → n ≢ k → not (eqb n k) ≡ true
differs n k h = rw (ne_eqb n k h) refl

apart : (n k : ℕ) → not (eqb n k) ≡ true → n ≢ k
apart n k e same = let is : eqb n k ≡ true = rw same (eq_self k) in absurd cc
  where
    eq_self : (k : ℕ) → eqb k k ≡ true
    eq_self k = grind arith

pub bits_again : (n : ℕ) → IsVerbBits n → verb_bits_of (count_line n) ≡ Ok n
unfolding verb_bits_of
bits_again n h = rw (small_again 255 n h.byte (omega arith), differs (n / 16 % 4) 3 h.direct, differs (n / 64) 3 h.indirect) refl

pub bits_found : (line : Line) (n : ℕ) → verb_bits_of line ≡ Ok n → IsVerbBits n × (line ≡ count_line n)
unfolding verb_bits_of
bits_found line n e =
    let b = bind_ok (small_of 255 line) checked_bits n e in
    let f = small_found 255 line b.0 b.1 in
    let p = chosen_ok (is_verb_bits b.0) b.0 n BadNumber b.2 in
    let q = both_true (not (eqb (b.0 / 16 % 4) 3)) (not (eqb (b.0 / 64) 3)) p.0 in
    (subst IsVerbBits p.1 (record { byte = f.0; direct = apart (b.0 / 16 % 4) 3 q.0; indirect = apart (b.0 / 64) 3 q.1 }), f.1 ∙ ap count_line p.1)

pub preposition_fits : (z : ℤ) → IsPreposition z → FitsSigned w32 z
preposition_fits (pos n) h = record { sfits = omega (arith, h) }
preposition_fits (negsuc n) h = record { sfits = omega (arith, h) }

checked_again : (z : ℤ) → IsPreposition z → checked_preposition z ≡ Ok z
checked_again (pos n) h = rw (le-leb n 14 h) refl
checked_again (negsuc n) h = rw (le-leb n 1 h) refl

pub preposition_again : (z : ℤ) → IsPreposition z → preposition_of (signed_decimal z) ≡ Ok z
unfolding preposition_of
preposition_again z h = rw (number_again z (preposition_fits z h)) (checked_again z h)

checked_found : (y z : ℤ) → checked_preposition y ≡ Ok z → IsPreposition z × (y ≡ z)
checked_found (pos n) z e = let p = chosen_ok (leb n 14) (pos n) z BadNumber e in (subst IsPreposition p.1 (leb-true _ _ p.0), p.1)
checked_found (negsuc n) z e = let p = chosen_ok (leb n 1) (negsuc n) z BadNumber e in (subst IsPreposition p.1 (leb-true _ _ p.0), p.1)

pub preposition_found : (line : Line) (z : ℤ) → preposition_of line ≡ Ok z → IsPreposition z × (line ≡ signed_decimal z)
unfolding preposition_of
preposition_found line z e =
    let b = bind_ok (number_of line) checked_preposition z e in
    let c = checked_found b.0 z b.2 in
    (c.0, (number_found line b.0 b.1).1 ∙ ap signed_decimal c.1)
