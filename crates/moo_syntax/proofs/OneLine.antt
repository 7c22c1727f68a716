-- A text has one place at which it stops being a program.
use Rattle.std.proofs.Common.{ℕ, zero, suc, ◌<◌, ◌≤◌, List, ◌≡◌, ◌⊎◌, inl, inr, refl, sym, ◌∙◌, ap, subst, take, drop, arith}
use Rattle.std.proofs.lemmas.List.{take-take}
use Rattle.moo_syntax_token.specs.declared.token.Token.{Token}
use Rattle.moo_syntax_token.proofs.Readings.{one_reading}
use Rattle.moo_syntax_grammar.specs.Tokens.{words}
use Rattle.moo_syntax_grammar.specs.Rules.{loose}
use Rattle.moo_syntax.specs.Programs.{SameUpTo, SameBefore, NoProgram, BeginsSome, IsUnexpected, line_of}

order : (a b : ℕ) → (a < b) ⊎ (a ≡ b) ⊎ (b < a)
order zero zero = inr (inl refl)
order zero (suc b) = inl (omega arith)
order (suc a) zero = inr (inr (omega arith))
order (suc a) (suc b) =
    elim (order a b) [
      | inl h ↦ inl (omega (arith, h))
      | inr t ↦
          elim t [
            | inl e ↦ inr (inl (ap suc e))
            | inr h ↦ inr (inr (omega (arith, h)))
          ]
    ]

same_up_to : (a b : ℕ) (ts us : List Token) → a < b → SameBefore b ts us → SameUpTo a ts us
same_up_to a b ts us h same =
    let within : suc a ≤ b = omega (arith, h) in
    sym (take-take (suc a) b us within) ∙ ap (take (suc a)) same ∙ take-take (suc a) b ts within

-- If none goes on at a place, no program begins with the tokens before a later one.
none_later : (ts : List Token) (a b : ℕ) → NoProgram loose ts a → BeginsSome loose ts b → a < b → ⊥
none_later ts a b none some h = none.1 some.tokens some.tree (same_up_to a b ts some.tokens h some.same) some.program

one_place : (ts : List Token) (a b : ℕ) → NoProgram loose ts a → BeginsSome loose ts a → NoProgram loose ts b → BeginsSome loose ts b → a ≡ b
one_place ts a b none some other begins =
    elim (order a b) [
      | inl h ↦ absurd (none_later ts a b none begins h)
      | inr t ↦
          elim t [
            | inl e ↦ e
            | inr h ↦ absurd (none_later ts b a other some h)
          ]
    ]

pub one_line : (lines : List (List ℕ)) (m n : ℕ) → IsUnexpected lines m → IsUnexpected lines n → m ≡ n
one_line lines m n f g =
    let spots : g.spots ≡ f.spots = one_reading lines g.spots f.spots g.reading f.reading in
    let none : NoProgram loose (words f.spots) g.at = subst (λ v. NoProgram loose (words v) g.at) spots g.none in
    let begins : BeginsSome loose (words f.spots) g.at = subst (λ v. BeginsSome loose (words v) g.at) spots g.begins in
    let place : f.at ≡ g.at = one_place (words f.spots) f.at g.at f.none f.begins none begins in
    f.line ∙ ap (λ k. line_of lines (drop k f.spots)) place ∙ ap (λ v. line_of lines (drop g.at v)) (sym spots) ∙ sym g.line
