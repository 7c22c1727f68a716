-- The slots of a program have their letters folded.
use Rattle.std.proofs.Common.{◌≡◌, ℕ, Bool, true, false, cond, ◌||◌, List, [], ◌∷◌, map, position, refl}
use Rattle.std.specs.List.{AllByRecursion, position_or_len}
use Rattle.std.specs.Str.{bytes_eq}
use Rattle.std.proofs.lemmas.Str.Ascii.{lowercase-lowercase}
use Rattle.moo_value.specs.Compare.{folded}
use Rattle.moo_syntax_ast.specs.Tree.{Block}
use Rattle.moo_syntax_ast.specs.Slots.{block_variables, firsts, slots}

folded_twice : (name : List ℕ) → folded (folded name) ≡ folded name
folded_twice [] = refl
folded_twice (c ∷ name) = rw (lowercase-lowercase c, folded_twice name) refl

abbrev AreFolded : List (List ℕ) → Type 0
AreFolded = AllByRecursion (λ own. folded own ≡ own)

folded_names : (names : List (List ℕ)) → AreFolded (map folded names)
folded_names [] = tt
folded_names (name ∷ names) = (folded_twice name, folded_names names)

kept : (seen : Bool) (x : List ℕ) (xs ys : List (List ℕ)) → folded x ≡ x → AreFolded xs → AreFolded ys → AreFolded (cond seen xs (x ∷ ys))
kept true x xs ys e f g = f
kept false x xs ys e f g = (e, g)

first_names : (seen : List ℕ → Bool) (names : List (List ℕ)) → AreFolded names → AreFolded (firsts seen names)
first_names seen [] f = tt
first_names seen (x ∷ xs) f = kept (seen x) x _ _ f.0 (first_names seen xs f.1) (first_names (λ y. bytes_eq x y || seen y) xs f.1)

same_place : (p q : List ℕ → Bool) (names : List (List ℕ)) → AllByRecursion (λ own. p own ≡ q own) names → position_or_len p names ≡ position_or_len q names
same_place p q [] h = refl
same_place p q (x ∷ xs) h = rw (h.0, same_place p q xs h.1) refl

folded_alike : (name : List ℕ) (names : List (List ℕ)) → AreFolded names → AllByRecursion (λ own. bytes_eq own name ≡ bytes_eq (folded own) name) names
folded_alike name [] f = tt
folded_alike name (x ∷ xs) f = (rw f.0 refl, folded_alike name xs f.1)

-- folding the letters of the slots does not change the place of a name
pub slot_folded : (b : Block) (name : List ℕ) → position (λ own. bytes_eq own name) (slots b) ≡ position (λ own. bytes_eq (folded own) name) (slots b)
slot_folded b name = rw (same_place _ _ (slots b) (folded_alike name (slots b) (first_names (λ _. false) _ (folded_names (block_variables b))))) refl
