-- A filter lets pass what was added to it.
use Rattle.std.proofs.Common.{◌≡◌, inl, inr, ℕ, ◌*◌, ◌/◌, ◌%◌, ◌^◌, ◌<◌, true, List, [], ◌∷◌, length, get_or, refl, sym, ap, ◌∙◌, arith, eqb, bit_or, slice_set, max}
use Rattle.std.proofs.lemmas.Bool.{cases_Bool, eqb-true, eqb-false}
use Rattle.std.proofs.lemmas.List.{get_or-replicate, get_or-set_other}
use Rattle.std.proofs.lemmas.Grind.{get_or-set_at}
use Rattle.std.proofs.lemmas.Nat.{one_shl}
use Rattle.std.proofs.lemmas.Nat.Bits.{bit_at_or, bit_at-pow_same, bit_at_ones, bit_at-lt}
use Rattle.std.specs.Int.{bit_at}
use Rattle.moo_world_object.specs.Filter.{passes, Widens}

-- the words of which each has all bits
pub all_pass : (first hash : ℕ) → passes (4294967295 ∷ 4294967295 ∷ 4294967295 ∷ 4294967295 ∷ 4294967295 ∷ 4294967295 ∷ 4294967295 ∷ 4294967295 ∷ []) first hash ≡ true
all_pass first hash =
    let word = get_or-replicate {A = ℕ} 8 (first % 8) 4294967295 0 (omega arith) in
    let bit : bit_at 4294967295 (hash / 256 % 32) ≡ 1 = bit_at_ones 32 (hash / 256 % 32) (omega arith) in
    rw (word, bit) refl

-- a word is written that has all bits of the word that was there
pub word_passes : (words : List ℕ) (first hash word : ℕ) → first % 8 < length words → bit_at word (hash / 256 % 32) ≡ 1 → passes (slice_set words (first % 8) word) first hash ≡ true
word_passes words first hash word low bit = rw (get_or-set_at words (first % 8) (first % 8) word 0 refl low, bit) refl

pub widens : (words : List ℕ) (place word : ℕ) → place < length words → ((k : ℕ) → k < 32 → bit_at (get_or words place 0) k ≡ 1 → bit_at word k ≡ 1) → Widens words (slice_set words place word)
widens words place word low keeps = λ first hash passed. elim (cases_Bool (eqb (first % 8) place)) [
  | inl is ↦
      let same = eqb-true (first % 8) place is in
      let bit = keeps (hash / 256 % 32) (omega arith) (ap (λ p. bit_at (get_or words p 0) (hash / 256 % 32)) (sym same) ∙ eqb-true (bit_at (get_or words (first % 8) 0) (hash / 256 % 32)) 1 passed) in
      rw (get_or-set_at words place (first % 8) word 0 same low, bit) refl
  | inr other ↦ rw (get_or-set_other words place (first % 8) word 0 (eqb-false (first % 8) place other)) passed
]

-- one bit more
max_right : (a : ℕ) → a < 2 → max a 1 ≡ 1
max_right a low = omega (arith, low)

pub bit_added : (word k : ℕ) → k < 32 → bit_at (bit_or word (1 * 2 ^ k % 4294967296)) k ≡ 1
bit_added word k low = ap (λ m. bit_at (bit_or word m) k) (one_shl k 32 low) ∙ bit_at_or word (2 ^ k) k ∙ ap (max (bit_at word k)) (bit_at-pow_same k) ∙ max_right (bit_at word k) (bit_at-lt word k)

max_left : (a b : ℕ) → a ≡ 1 → b < 2 → max a b ≡ 1
max_left a b is low = omega (arith, is, low)

pub bit_kept : (word more k : ℕ) → bit_at word k ≡ 1 → bit_at (bit_or word more) k ≡ 1
bit_kept word more k bit = bit_at_or word more k ∙ max_left (bit_at word k) (bit_at more k) bit (bit_at-lt more k)
