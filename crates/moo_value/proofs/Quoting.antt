-- A byte of strings after others.
use Rattle.std.proofs.Common.{ℕ, List, [], ◌∷◌, ◌++◌, ◌≡◌, sym, subst, inr, arith}
use Rattle.std.proofs.lemmas.List.Elements.{All-push}
use Rattle.moo_value.specs.Tree.{IsTextByte, IsText}

pub text_pushed : (s : List ℕ) (b : ℕ) → IsText s → IsTextByte b → IsText (s ++ b ∷ [])
text_pushed s b h k = All-push IsTextByte s b h k

-- a double quote after others
pub quote_pushed : (s : List ℕ) {t : List ℕ} → t ≡ s ++ 34 ∷ [] → IsText s → IsText t
quote_pushed s e h = subst IsText (sym e) (text_pushed s 34 h (inr (omega arith, omega arith)))
