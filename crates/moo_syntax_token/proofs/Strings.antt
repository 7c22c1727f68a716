-- The part of a string that is read so far.
use Rattle.std.proofs.Common.{ℕ, List, [], ◌∷◌, ◌++◌, ◌≡◌, ◌+◌, ◌<◌, ◌≤◌, Bool, true, false, Option, Some, None, nat_eq, length, get_or, drop, refl, sym, ◌∙◌, arith, append_assoc, add-one, drop-cons}
use Rattle.std.proofs.lemmas.List.{append-nil, drop_all}
use Rattle.std.proofs.lemmas.Bool.Decides.{nat_tests}
use Rattle.std.specs.Option.{option_map}
use Rattle.moo_syntax_token.specs.Tokens.{unquoted}

-- the string and its length, where a part of it was read before
abbrev pub extended : List ℕ → ℕ → Option (List ℕ × ℕ) → Option (List ℕ × ℕ)
extended text i o = option_map (λ s. (text ++ s.0, i + s.1)) o

-- so far `text` was read, in i bytes
pub record HasRead (bytes : List ℕ) (text : List ℕ) (i : ℕ) (taken : Bool) : Type 0 where
  pub rest : extended text i (unquoted taken (drop i bytes)) ≡ unquoted false bytes
  pub within : i ≤ length bytes

nothing_read : (o : Option (List ℕ × ℕ)) → extended [] 0 o ≡ o
nothing_read None = refl
nothing_read (Some (s, n)) = let e : 0 + n ≡ n = omega arith in rw e

pub begins : (bytes text : List ℕ) → text ≡ [] → HasRead bytes text 0 false
begins bytes text e = rw e (record { rest = nothing_read (unquoted false bytes); within = omega arith })

one_byte : (text : List ℕ) (i b : ℕ) (o : Option (List ℕ × ℕ)) → extended text i (option_map (λ s. (b ∷ s.0, 1 + s.1)) o) ≡ extended (text ++ b ∷ []) (i + 1) o
one_byte text i b None = refl
one_byte text i b (Some (s, n)) =
    let e : i + (1 + n) ≡ (i + 1) + n = omega arith in
    rw (append_assoc text (b ∷ []) s, e)

no_byte : (text : List ℕ) (i : ℕ) (o : Option (List ℕ × ℕ)) → extended text i (option_map (λ s. (s.0, 1 + s.1)) o) ≡ extended text (i + 1) o
no_byte text i None = refl
no_byte text i (Some (s, n)) =
    let e : i + (1 + n) ≡ (i + 1) + n = omega arith in
    rw e

at_byte : (bytes : List ℕ) (i : ℕ) → i < length bytes → drop i bytes ≡ get_or bytes i 0 ∷ drop (i + 1) bytes
at_byte bytes i h = rw (add-one, drop-cons bytes i 0)

reads_taken : (bytes text : List ℕ) (i : ℕ) → i < length bytes → HasRead bytes text i true → HasRead bytes (text ++ get_or bytes i 0 ∷ []) (i + 1) false
unfolding unquoted
reads_taken bytes text i h r = record {
  rest = sym (one_byte text i (get_or bytes i 0) (unquoted false (drop (i + 1) bytes))) ∙ (rw (at_byte bytes i h) at r.rest);
  within = omega arith;
}

reads_byte : (bytes text : List ℕ) (i : ℕ) → i < length bytes → nat_eq (get_or bytes i 0) 34 ≡ false → nat_eq (get_or bytes i 0) 92 ≡ false → HasRead bytes text i false → HasRead bytes (text ++ get_or bytes i 0 ∷ []) (i + 1) false
unfolding unquoted
reads_byte bytes text i h q s r = record {
  rest = sym (one_byte text i (get_or bytes i 0) (unquoted false (drop (i + 1) bytes))) ∙ (rw (at_byte bytes i h, q, s) at r.rest);
  within = omega arith;
}

reads_backslash : (bytes text : List ℕ) (i : ℕ) → i < length bytes → nat_eq (get_or bytes i 0) 34 ≡ false → nat_eq (get_or bytes i 0) 92 ≡ true → HasRead bytes text i false → HasRead bytes text (i + 1) true
unfolding unquoted
reads_backslash bytes text i h q s r = record {
  rest = sym (no_byte text i (unquoted true (drop (i + 1) bytes))) ∙ (rw (at_byte bytes i h, q, s) at r.rest);
  within = omega arith;
}

ends : (bytes text : List ℕ) (i : ℕ) → i < length bytes → nat_eq (get_or bytes i 0) 34 ≡ true → HasRead bytes text i false → Some (text, i + 1) ≡ unquoted false bytes
unfolding unquoted
ends bytes text i h q r = let e = rw (at_byte bytes i h, q) at r.rest in rw append-nil at e

pub unclosed : (bytes text : List ℕ) (i : ℕ) (taken : Bool) → length bytes ≤ i → HasRead bytes text i taken → ◌≡◌ {A = Option (List ℕ × ℕ)} None (unquoted false bytes)
unfolding unquoted
unclosed bytes text i true h r = rw (drop_all i bytes h) at r.rest
unclosed bytes text i false h r = rw (drop_all i bytes h) at r.rest

differs : (a b : ℕ) → (a ≡ b → ⊥) → nat_eq a b ≡ false
differs a b h = grind (arith, nat_tests)

same : (a b : ℕ) → a ≡ b → nat_eq a b ≡ true
same a b h = grind (arith, nat_tests)

-- a byte that a backslash takes
pub takes : (bytes text more : List ℕ) (i : ℕ) (taken : Bool) → i < length bytes → taken ≡ true → more ≡ text ++ get_or bytes i 0 ∷ [] → HasRead bytes text i taken → HasRead bytes more (i + 1) false
takes bytes text more i taken h t m r = rw m (reads_taken bytes text i h (rw t at r))

-- any other byte but a quote or a backslash
pub puts : (bytes text more : List ℕ) (i : ℕ) (taken : Bool) → i < length bytes → taken ≡ false → (get_or bytes i 0 ≡ 34 → ⊥) → (get_or bytes i 0 ≡ 92 → ⊥) → more ≡ text ++ get_or bytes i 0 ∷ [] → HasRead bytes text i taken → HasRead bytes more (i + 1) taken
puts bytes text more i taken h t q s m r = rw (m, t) (reads_byte bytes text i h (differs _ _ q) (differs _ _ s) (rw t at r))

pub escapes : (bytes text : List ℕ) (i : ℕ) (taken : Bool) → i < length bytes → taken ≡ false → (get_or bytes i 0 ≡ 34 → ⊥) → get_or bytes i 0 ≡ 92 → HasRead bytes text i taken → HasRead bytes text (i + 1) true
escapes bytes text i taken h t q s r = reads_backslash bytes text i h (differs _ _ q) (same _ _ s) (rw t at r)

pub closes : (bytes text string : List ℕ) (i : ℕ) (taken : Bool) → i < length bytes → taken ≡ false → get_or bytes i 0 ≡ 34 → string ≡ text → HasRead bytes text i taken → Some (string, i + 1) ≡ unquoted false bytes
closes bytes text string i taken h t q s r = rw s (ends bytes text i h (same _ _ q) (rw t at r))
