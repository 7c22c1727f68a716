use Rattle.std.proofs.Common.{ℕ, ◌+◌, ◌<◌, List, length, get_or, take, Bool, true, false, ◌&&◌, IsTrue, ◌↔◌, refl, subst, arith}
use Rattle.std.proofs.lemmas.Bool.{false≢true}
use Rattle.std.proofs.lemmas.List.{take_all, take-take, get_or-take, length-take}
use Rattle.std.proofs.lemmas.List.Elements.{All-more, All-take}
use Rattle.moo_value.specs.Tree.{IsTextByte, IsText}
use Rattle.moo_value.proofs.string.is_text.Goals as goal

before : (xs : List ℕ) (i : ℕ) → IsText (take (i + 1) xs) → IsText (take i xs)
before xs i h = subst IsText (take-take i (i + 1) xs (omega arith)) (All-take IsTextByte i (take (i + 1) xs) h)

last : (xs : List ℕ) (i : ℕ) → i < length xs → IsText (take (i + 1) xs) → IsTextByte (get_or xs i 0)
last xs i small h = subst IsTextByte (get_or-take (i + 1) xs i 0 (omega arith)) (h i 0 (omega (arith, length-take (i + 1) xs)))

text_more : (xs : List ℕ) (i : ℕ) (a b : Bool) → i < length xs → (IsTrue a ↔ IsText (take i xs)) → (IsTrue b ↔ IsTextByte (get_or xs i 0))
    → IsTrue (a && b) ↔ IsText (take (i + 1) xs)
text_more xs i true true small texts byte = (λ _. All-more IsTextByte xs i 0 small (texts.0 refl) (byte.0 refl), λ _. refl)
text_more xs i true false small texts byte = (λ never. absurd (false≢true never), λ h. byte.1 (last xs i small h))
text_more xs i false b small texts byte = (λ never. absurd (false≢true never), λ h. texts.1 (before xs i h))

pub loop-byte-preserved : goal.loop-byte-preserved
loop-byte-preserved c = text_more _ _ _ _ c.loop-byte-test.true c.loop-byte.invariant c.is_text_byte-all.ensures

pub returns : goal.returns
returns c =
    subst (λ xs. IsTrue c.loop-byte.all ↔ IsText xs) (take_all c.loop-byte.byte-index c.args.bytes.now c.loop-byte-test.false) c.loop-byte.invariant
