-- The tokens that bytes begin with: none is `Bad`, and a name holds a name.
use Rattle.std.proofs.Common.{ℕ, suc, List, [], ◌∷◌, ◌≡◌, refl, ap, subst, ◌+◌, Bool, true, false, cond, take, Option, Some, None, arith}
use Rattle.std.specs.Prelude.{if◌then◌else◌}
use Rattle.std.specs.Option.{option_map}
use Rattle.std.specs.List.{list_all, prefix_len}
use Rattle.moo_value.specs.declared.error_code.ErrorCode.{ErrorCode}
use Rattle.moo_value.specs.Errors.{error_named}
use Rattle.moo_syntax_token.specs.declared.keyword.Keyword.{Keyword}
use Rattle.moo_syntax_token.specs.declared.token.Token.{Token}
use Rattle.moo_syntax_token.specs.declared.token.Token.TheVariants.{Bad}
use Rattle.moo_syntax_token.specs.declared.token.Token.TheVariants as token
use Rattle.moo_syntax_token.specs.Signs.{sign_at}
use Rattle.moo_syntax_token.specs.Words.{keyword_of}
use Rattle.moo_syntax_token.specs.Tokens.{begins_name, continues_name, named, word, integer_at, object_at, unquoted, token_at}
use Rattle.moo_syntax_token.specs.Spelling.{is_word, is_name, HoldsName}
use Rattle.moo_syntax_token.proofs.SpelledWords.{begins_continues}

-- a property of each token that is read
IsRead : Token → Type 0
IsRead x = (x ≡ Bad → ⊥) × HoldsName x

record GivesRead (o : Option (Token × ℕ)) : Type 0 where
  pub read : (x : Token) (k : ℕ) → o ≡ Some (x, k) → IsRead x

nothing : GivesRead None
nothing = record { read = λ x k e. absurd (cc) }

gives : (y : Token) (m : ℕ) → IsRead y → GivesRead (Some (y, m))
gives y m r = record {
  read = λ x k e.
      let pair : ◌≡◌ {A = Token × ℕ} (y, m) (x, k) = cc in
      subst IsRead (ap (λ (t : Token × ℕ). t.0) pair) r;
}

either : (b : Bool) (x y : Option (Token × ℕ)) → (b ≡ true → GivesRead x) → GivesRead y → GivesRead (if b then x else y)
either true x y f g = f refl
either false x y f g = g

mapped : {A : Type 0} (f : A → Token) (k : A → ℕ) (o : Option A) → ((a : A) → IsRead (f a)) → GivesRead (option_map (λ a. (f a, k a)) o)
mapped f k None h = nothing
mapped f k (Some a) h = gives (f a) (k a) (h a)

passing_front : (p : ℕ → Bool) (x : ℕ) (xs : List ℕ) (n : ℕ) (q : Bool) → p x ≡ q → list_all p (take n xs) ≡ true → list_all p (take (cond q (1 + n) 0) (x ∷ xs)) ≡ true
passing_front p x xs n true e h = let s : 1 + n ≡ suc n = omega arith in rw (s, e, h) refl
passing_front p x xs n false e h = refl

front_passes : (p : ℕ → Bool) (xs : List ℕ) → list_all p (take (prefix_len p xs) xs) ≡ true
front_passes p [] = refl
front_passes p (x ∷ xs) = passing_front p x xs (prefix_len p xs) (p x) refl (front_passes p xs)

front_is_word : (b : ℕ) (bs : List ℕ) → begins_name b ≡ true → is_word (take (prefix_len continues_name (b ∷ bs)) (b ∷ bs)) ≡ true
front_is_word b bs h =
    let s : 1 + prefix_len continues_name bs ≡ suc (prefix_len continues_name bs) = omega arith in
    rw (begins_continues b h, s, h, front_passes continues_name bs) refl

name_holds : (w : List ℕ) → is_word w ≡ true → keyword_of w ≡ None → error_named w ≡ None → is_name w ≡ true
unfolding is_name
name_holds w h k e = rw (h, k, e) refl

named_read : (w : List ℕ) (k : Option Keyword) (e : Option ErrorCode) → is_word w ≡ true → keyword_of w ≡ k → error_named w ≡ e → IsRead (named w k e)
unfolding IsRead
named_read w (Some k) e h i j = (λ f. cc, tt)
named_read w None (Some e) h i j = (λ f. cc, tt)
named_read w None None h i j = (λ f. cc, name_holds w h i j)

word_read : (b : ℕ) (bs : List ℕ) (w : List ℕ) (k : ℕ) → w ≡ take (prefix_len continues_name (b ∷ bs)) (b ∷ bs) → begins_name b ≡ true → GivesRead (Some (word w, k))
word_read b bs w k e h = gives (word w) k (named_read w (keyword_of w) (error_named w) (rw e (front_is_word b bs h)) refl refl)

integer_read : (bs : List ℕ) → GivesRead (integer_at bs)
unfolding integer_at IsRead
integer_read bs = either _ _ _ (λ h. nothing) (gives _ _ (λ f. cc, tt))

at_read : (bs : List ℕ) → GivesRead (token_at bs)
unfolding token_at IsRead
at_read [] = nothing
at_read (b ∷ bs) =
    either _ _ _ (word_read b bs _ _ refl)
    (either _ _ _ (λ h. integer_read (b ∷ bs))
    (either _ _ _ (λ h. mapped (λ o. token.Object o.0) (λ o. 1 + o.1) (object_at bs) (λ a. (λ f. cc, tt)))
    (either _ _ _ (λ h. mapped (λ s. token.Str s.0) (λ s. 1 + s.1) (unquoted false bs) (λ a. (λ f. cc, tt)))
    (mapped (λ s. token.Sign s.0) (λ s. s.1) (sign_at (b ∷ bs)) (λ a. (λ f. cc, tt))))))

pub token_sound : (bs : List ℕ) (x : Token) (k : ℕ) → token_at bs ≡ Some (x, k) → x ≡ Bad → ⊥
unfolding IsRead
token_sound bs x k e = ((at_read bs).read x k e).0

pub token_holds_name : (bs : List ℕ) (x : Token) (k : ℕ) → token_at bs ≡ Some (x, k) → HoldsName x
unfolding IsRead
token_holds_name bs x k e = ((at_read bs).read x k e).1
