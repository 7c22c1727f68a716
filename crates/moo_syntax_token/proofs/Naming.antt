-- A word is a keyword whose text is as long and begins alike.
use Rattle.std.proofs.Common.{arith, ◌≡◌, ℕ, Bool, true, false, cond, List, [], ◌∷◌, Option, Some, refl, ap, sym, ◌∙◌}
use Rattle.std.specs.Prelude.{find, filter, length, get_or, ◌==◌, ◌&&◌}
use Rattle.std.specs.Char.{to_ascii_lowercase}
use Rattle.std.proofs.lemmas.Bool.Decides.{nat_tests}
use Rattle.std.proofs.lemmas.List.{length-map}
use Rattle.std.proofs.lemmas.Slice.Eq.{bytes_eq-Decides}
use Rattle.moo_value.specs.Compare.{folded}
use Rattle.moo_syntax_token.specs.declared.keyword.Keyword.{Keyword}
use Rattle.moo_syntax_token.specs.declared.keyword.Keyword.TheVariants as word
use Rattle.moo_syntax_token.specs.Words.{keyword_text, all_keywords, is_spelled, keyword_of, first_letter, likely}

skipped : {A : Type 0} (x : A) (t : Bool) (found later : Option A) → (t ≡ true → false ≡ true) → found ≡ later → found ≡ cond t (Some x) later
skipped x true found later h same = let apart = h refl in cc
skipped x false found later h same = same

one_kept : {A : Type 0} (test : A → Bool) (x : A) (kept rest : List A) (b : Bool) → (test x ≡ true → b ≡ true) → find test kept ≡ find test rest → find test (cond b (x ∷ kept) kept) ≡ cond (test x) (Some x) (find test rest)
one_kept test x kept rest true h same = ap (cond (test x) (Some x)) same
one_kept test x kept rest false h same = skipped x (test x) (find test kept) (find test rest) h same

-- an element that passes a test is found among those that pass a weaker test
find-filter : {A : Type 0} (test needed : A → Bool) → ((x : A) → test x ≡ true → needed x ≡ true) → (xs : List A) → find test (filter needed xs) ≡ find test xs
find-filter test needed h [] = refl
find-filter test needed h (x ∷ xs) = one_kept test x (filter needed xs) xs (needed x) (h x) (find-filter test needed h xs)

small : (k : Keyword) → get_or (keyword_text k) 0 0 ≡ first_letter (keyword_text k)
small word.If = refl
small word.Else = refl
small word.ElseIf = refl
small word.EndIf = refl
small word.For = refl
small word.In = refl
small word.EndFor = refl
small word.While = refl
small word.EndWhile = refl
small word.Fork = refl
small word.EndFork = refl
small word.Return = refl
small word.Try = refl
small word.EndTry = refl
small word.Except = refl
small word.Finally = refl
small word.Any = refl
small word.Break = refl
small word.Continue = refl

both : (a b : Bool) → a ≡ true → b ≡ true → (a && b) ≡ true
both true b x y = y
both false b x y = absurd cc

spelled_alike : (word : List ℕ) (k : Keyword) → is_spelled word k ≡ true → folded (keyword_text k) ≡ folded word
spelled_alike word k is = (bytes_eq-Decides (folded (keyword_text k)) (folded word)).0 is

spelled_length : (word : List ℕ) (k : Keyword) → is_spelled word k ≡ true → (length (keyword_text k) == length word) ≡ true
spelled_length word k is =
    let same =
    sym (length-map (keyword_text k) to_ascii_lowercase)
    ∙ ap length (spelled_alike word k is)
    ∙ length-map word to_ascii_lowercase
    in
    grind (arith, nat_tests)

spelled_letter : (word : List ℕ) (k : Keyword) → is_spelled word k ≡ true → (get_or (keyword_text k) 0 0 == first_letter word) ≡ true
spelled_letter word k is =
    let same = small k ∙ ap (λ (w : List ℕ). get_or w 0 0) (spelled_alike word k is) in
    grind (arith, nat_tests)

is_likely : (word : List ℕ) (k : Keyword) → is_spelled word k ≡ true → ((length (keyword_text k) == length word) && (get_or (keyword_text k) 0 0 == first_letter word)) ≡ true
is_likely word k is = both _ _ (spelled_length word k is) (spelled_letter word k is)

pub found_likely : (word : List ℕ) → find (is_spelled word) (likely (length word) (first_letter word)) ≡ keyword_of word
unfolding keyword_of
found_likely word = find-filter (is_spelled word) (λ k. (length (keyword_text k) == length word) && (get_or (keyword_text k) 0 0 == first_letter word)) (is_likely word) all_keywords
