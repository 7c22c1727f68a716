-- A token that bytes begin with has at least one byte.
use Rattle.std.proofs.Common.{ℕ, List, [], ◌∷◌, ◌≡◌, refl, ap, subst, ◌+◌, ◌<◌, Bool, true, false, Option, Some, None, arith}
use Rattle.std.specs.Prelude.{if◌then◌else◌}
use Rattle.std.specs.Option.{option_map}
use Rattle.std.specs.List.{prefix_len}
use Rattle.moo_syntax_token.specs.declared.sign.Sign.{Sign}
use Rattle.moo_syntax_token.specs.declared.token.Token.{Token}
use Rattle.moo_syntax_token.specs.declared.token.Token.TheVariants as token
use Rattle.moo_syntax_token.specs.Signs.{sign_of_one, sign_of_two, sign_at}
use Rattle.moo_value.specs.Digits.{is_digit}
use Rattle.moo_syntax_token.specs.Tokens.{continues_name, integer_at, object_at, unquoted, token_at}
use Rattle.moo_syntax_token.proofs.SpelledWords.{begins_continues}

record GivesLength {A : Type 0} (o : Option (A × ℕ)) : Type 0 where
  pub positive : (x : A) (k : ℕ) → o ≡ Some (x, k) → 0 < k

none : {A : Type 0} → GivesLength {A = A} None
none = record { positive = λ x k e. absurd (cc) }

some : {A : Type 0} (y : A) (m : ℕ) → 0 < m → GivesLength (Some (y, m))
some {A = A} y m r = record {
  positive = λ x k e.
      let pair : ◌≡◌ {A = A × ℕ} (y, m) (x, k) = cc in
      subst (λ n. 0 < n) (ap (λ (t : A × ℕ). t.1) pair) r;
}

either : {A : Type 0} (b : Bool) (x y : Option (A × ℕ)) → (b ≡ true → GivesLength x) → GivesLength y → GivesLength (if b then x else y)
either true x y f g = f refl
either false x y f g = g

longer : {A : Type 0} (f : A × ℕ → Token) (o : Option (A × ℕ)) → GivesLength (option_map (λ a. (f a, 1 + a.1)) o)
longer f None = none
longer f (Some a) = some (f a) (1 + a.1) (omega arith)

fixed : (m : ℕ) (o : Option Sign) → 0 < m → GivesLength (option_map (λ s. (s, m)) o)
fixed m None h = none
fixed m (Some s) h = some s m h

as_sign : (o : Option (Sign × ℕ)) → GivesLength o → GivesLength (option_map (λ s. (token.Sign s.0, s.1)) o)
as_sign None g = none
as_sign (Some s) g = some (token.Sign s.0) s.1 (g.positive s.0 s.1 refl)

sign_length : (bs : List ℕ) → GivesLength (sign_at bs)
unfolding sign_at
sign_length [] = none
sign_length (a ∷ []) = fixed 1 (sign_of_one a) (omega arith)
sign_length (a ∷ b ∷ bs) = either _ _ _ (λ h. fixed 2 (sign_of_two a b) (omega arith)) (fixed 1 (sign_of_one a) (omega arith))

front_length : (p : ℕ → Bool) (b : ℕ) (bs : List ℕ) → p b ≡ true → 0 < prefix_len p (b ∷ bs)
front_length p b bs h = rw h (omega arith)

integer_length : (b : ℕ) (bs : List ℕ) → is_digit b ≡ true → GivesLength (integer_at (b ∷ bs))
unfolding integer_at
integer_length b bs h = either _ _ _ (λ i. none) (some _ _ (front_length is_digit b bs h))

at_length : (bs : List ℕ) → GivesLength (token_at bs)
unfolding token_at
at_length [] = none
at_length (b ∷ bs) =
    either _ _ _ (λ h. some _ _ (front_length continues_name b bs (begins_continues b h)))
    (either _ _ _ (λ h. integer_length b bs h)
    (either _ _ _ (λ h. longer (λ o. token.Object o.0) (object_at bs))
    (either _ _ _ (λ h. longer (λ s. token.Str s.0) (unquoted false bs))
    (as_sign (sign_at (b ∷ bs)) (sign_length (b ∷ bs))))))

pub token_length : (bs : List ℕ) (x : Token) (k : ℕ) → token_at bs ≡ Some (x, k) → 0 < k
token_length bs x k e = (at_length bs).positive x k e
