-- The places of the names of a program.
use Rattle.std.proofs.Common.{◌≡◌, ℕ, ◌<◌, Bool, true, false, nat_lt, List, [], Some, length, get_or, position, refl, sym, ap, ◌∙◌, arith}
use Rattle.std.specs.List.{IsDistinct}
use Rattle.std.specs.Str.{bytes_eq}
use Rattle.std.proofs.lemmas.List.Quantifiers.{position-Some}
use Rattle.std.proofs.lemmas.List.Sums.{position_or_len_is}
use Rattle.std.proofs.lemmas.Map.Keys.{apart_from_distinct}
use Rattle.std.proofs.lemmas.Slice.Eq.{bytes_eq-Decides}
use Rattle.moo_value.specs.Compare.{folded}
use Rattle.moo_syntax_ast.specs.Tree.{Block}
use Rattle.moo_syntax_ast.specs.Slots.{slots}
use Rattle.moo_syntax_ast.proofs.EachOnce.{once}
use Rattle.moo_syntax_program.proofs.Folded.{slot_folded}
use Rattle.moo_eval_slot.proofs.Names.{is_own}

within : (i n : ℕ) → i < n → nat_lt i n ≡ true
within i n h = grind arith

position_at : (p : List ℕ → Bool) (xs : List (List ℕ)) (i : ℕ) → i < length xs → p (get_or xs i []) ≡ true → ((k : ℕ) → k < i → p (get_or xs k []) ≡ false) → position p xs ≡ Some i
position_at p xs i h e a = rw (position_or_len_is p xs i [] (omega arith) a (λ l. e), within i (length xs) h) refl

-- of different names each is at the place with its spelling
spelled_at : (names : List (List ℕ)) (i : ℕ) (name : List ℕ) → IsDistinct bytes_eq names → i < length names → get_or names i [] ≡ name → position (λ own. bytes_eq own name) names ≡ Some i
spelled_at names i name u h same = position_at (λ own. bytes_eq own name) names i h ((bytes_eq-Decides _ _).1 same) (λ k l. ap (bytes_eq (get_or names k [])) (sym same) ∙ apart_from_distinct bytes_eq names k i [] u l h)

-- The names of a program have their letters folded, so that one that is spelled so is a name's own, whatever the case of its letters.
pub spelled : (p : Block) (i : ℕ) (name : List ℕ) → i < length (slots p) → get_or (slots p) i [] ≡ name → position (is_own name) (slots p) ≡ Some i
spelled p i name h same =
    let at : position (λ own. bytes_eq (folded own) name) (slots p) ≡ Some i = sym (slot_folded p name) ∙ spelled_at (slots p) i name (once p) h same in
    let small : folded name ≡ name = ap folded (sym same) ∙ (bytes_eq-Decides _ _).0 (position-Some (λ own. bytes_eq (folded own) name) (slots p) i [] at).1 in
    ap (λ n. position (λ own. bytes_eq (folded own) n) (slots p)) small ∙ at
