-- The consequences of the numbers of names.
use Rattle.std.proofs.Common.{◌≡◌, ◌≢◌, ℕ, zero, suc, ◌<◌, List, [], ◌∷◌, Bool, ◌||◌, true, false, eqb, length, get_or, inl, inr, refl, sym, ap, ◌∙◌, subst, arith}
use Rattle.std.proofs.lemmas.Bool.{cases_Bool, eqb-true, eqb-false, false≢true}
use Rattle.moo_value.specs.Compare.{folded}
use Rattle.moo_syntax_ast.specs.NameNumber.{name_number, IsCode}
use Rattle.moo_syntax_ast.proofs.Numbered.{same_number}
use Rattle.moo_world_object.specs.Names.{same_name}
use Rattle.moo_world_object.specs.Patterns.{is_star, is_blank, has_mark, fits_names}
use Rattle.moo_world_object.specs.Letters.{IsNumberOf}
use Rattle.moo_world_object.proofs.Names.{eq-same_name, ne-same_name}
use Rattle.moo_world_object.proofs.Alone.{fits_alone}

-- names with different numbers
pub apart : (a b : List ℕ) (m n : ℕ) → m ≡ name_number a → n ≡ name_number b → (m ≡ n → ⊥) → same_name a b ≡ false
apart a b m n p q differ = ne-same_name a b (λ same. differ (p ∙ ap name_number same ∙ sym q))

-- names with one number that is a code
pub together : (a b : List ℕ) (n : ℕ) → ((x y : List ℕ) → name_number x ≡ n → name_number y ≡ n → x ≡ y) → n ≡ name_number a → n ≡ name_number b → same_name a b ≡ true
together a b n alone p q = eq-same_name a b (alone a b (sym p) (sym q))

-- a name without a mark has neither a star nor a blank
plain_byte : (blank star rest : Bool) → (blank || star) || rest ≡ false → (star ≡ false) × (blank ≡ false) × (rest ≡ false)
plain_byte true star rest e = absurd (false≢true (sym e))
plain_byte false true rest e = absurd (false≢true (sym e))
plain_byte false false rest e = (refl, refl, e)

plain_bytes : (names : List ℕ) → has_mark names ≡ false → (k : ℕ) → k < length names → (is_star (get_or names k 0) ≡ false) × (is_blank (get_or names k 0) ≡ false)
plain_bytes [] plain k low = absurd (omega (arith, low))
plain_bytes (b ∷ bs) plain zero low = let first = plain_byte (is_blank b) (is_star b) (has_mark bs) plain in (first.0, first.1)
plain_bytes (b ∷ bs) plain (suc k) low = plain_bytes bs (plain_byte (is_blank b) (is_star b) (has_mark bs) plain).2 k (omega (arith, low))

-- the only name of a verb
pub numbered_fits : (number : ℕ) (names name : List ℕ) → number ≢ 0 → IsNumberOf number names → fits_names names name ≡ same_name (folded names) (folded name)
numbered_fits number [] name known numbered = absurd (known (numbered known).0)
numbered_fits number (b ∷ bs) name known numbered = fits_alone (b ∷ bs) name (λ none. omega (arith, none)) (plain_bytes (b ∷ bs) (numbered known).1)

pub both_numbered : (number other : ℕ) (names name : List ℕ) → number ≢ 0 → IsNumberOf number names → (other ≡ name_number (folded name)) × IsCode other → eqb number other ≡ fits_names names name
both_numbered number other names name known numbered sought =
    let is = numbered known in
    sym (numbered_fits number names name known numbered ∙ elim (cases_Bool (eqb number other)) [
      | inl same ↦
          let one : number ≡ other = eqb-true number other same in
          eq-same_name (folded names) (folded name) (same_number (folded names) (folded name) number (subst IsCode (sym one) sought.1) (sym is.0) (sym (one ∙ sought.0))) ∙ sym same
      | inr differ ↦ apart (folded names) (folded name) number other is.0 sought.0 (eqb-false number other differ) ∙ sym differ
    ])
