-- The consequences of the tokens before a place for programs, if the reading of statements stopped because it was too
-- deep.
use Rattle.std.proofs.Common.{ℕ, zero, suc, ◌+◌, ◌≤◌, List, [], ◌∷◌, ◌≡◌, refl, sym, ap, subst, true, length, take, drop, length-drop, arith}
use Rattle.moo_syntax_token.specs.declared.token.Token.{Token}
use Rattle.moo_syntax_ast.specs.Limits.{most_nodes}
use Rattle.moo_syntax_grammar.specs.Agree.{Agree, here, next}
use Rattle.moo_syntax_grammar.specs.Rules.{Rules, loose}
use Rattle.moo_syntax_grammar.specs.Grammar.{statements, block}
use Rattle.moo_syntax_grammar.specs.Predictive.{grammar}
use Rattle.moo_syntax_grammar.proofs.MachineLemmas.{IsEnd, whole, after, end_length}
use Rattle.moo_syntax_grammar.proofs.Complete.{complete}
use Rattle.moo_syntax.specs.Outgrown.{Deepens, later}
use Rattle.moo_syntax.specs.Programs.{SameBefore, EachIsTooHigh, BeginsSome}
use Rattle.moo_syntax.proofs.Outgrowing.{certain_end, each_is_higher}
use Rattle.moo_syntax.proofs.Continued.{program_continued}

pub here_at : {x y : Token} (ts us : List Token) → y ≡ x → Agree (x ∷ ts) (x ∷ ts) (y ∷ us)
here_at {x} ts us e = subst (λ v. Agree (x ∷ ts) (x ∷ ts) (v ∷ us)) (sym e) here

pub next_at : {x y : Token} {at ts us : List Token} → y ≡ x → Agree at ts us → Agree at (x ∷ ts) (y ∷ us)
next_at {x} {at} {ts} {us} e a = subst (λ v. Agree at (x ∷ ts) (v ∷ us)) (sym e) (next a)

-- lists that begin with the same n tokens agree up to the last of them
agree_before : (n : ℕ) {z : Token} {r ts : List Token} (us : List Token) → IsEnd (z ∷ r) ts → length r + n ≡ length ts → SameBefore n ts us → Agree (z ∷ r) ts us
agree_before zero us whole h e = absurd (omega (arith, h))
agree_before (suc n) [] whole h e = absurd cc
agree_before (suc n) {r = r} (y ∷ us) whole h e = here_at r us (cc)
agree_before zero us (after i) h e = absurd (omega (arith, h, end_length i))
agree_before (suc n) [] (after i) h e = absurd cc
agree_before (suc n) (y ∷ us) (after i) h e = next_at (cc) (agree_before n us i (omega (arith, h)) (cc))

same_before : (n : ℕ) {z : Token} {r ts us : List Token} → Agree (z ∷ r) ts us → length r + n ≡ length ts → SameBefore n ts us
same_before zero a h = refl
same_before (suc n) (here {x = x} {ts = ts} {us = us}) h =
    let none : zero ≡ n = omega (arith, h) in
    subst (λ k. take (suc k) (x ∷ us) ≡ take (suc k) (x ∷ ts)) none refl
same_before (suc n) (next {x = x} a) h = ap (λ v. x ∷ v) (same_before n a (omega (arith, h)))

left_after : (n : ℕ) (ts r : List Token) → n ≤ length ts → drop n ts ≡ r → length r + n ≡ length ts
left_after n ts r h e = omega (arith, h, ap length e, length-drop n ts)

-- each program that begins with the tokens before the place is too high
pub each_before : (g : Rules) (n : ℕ) {ts r : List Token} → n ≤ length ts → drop n ts ≡ r → Deepens g true block most_nodes (grammar g (statements [])) ts r → EachIsTooHigh g ts n
each_before g n {ts} {r} h e (later z c) us b same d = each_is_higher c (agree_before n us (certain_end c) (left_after n ts r h e) same) (complete d refl)

-- and some loose program begins with them
pub begins_before : (g : Rules) (n : ℕ) {ts r : List Token} → n ≤ length ts → drop n ts ≡ r → Deepens g true block most_nodes (grammar g (statements [])) ts r → BeginsSome loose ts n
begins_before g n {ts} {r} h e (later z c) =
    let t = program_continued c in
    record { tokens = t.0; tree = t.1; same = same_before n t.2 (left_after n ts r h e); program = t.3 }
