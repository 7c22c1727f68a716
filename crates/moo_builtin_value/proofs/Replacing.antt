-- A text that is made piece by piece.
use Rattle.std.proofs.Common.{◌≡◌, ℕ, ◌+◌, ◌≤◌, List, [], ◌∷◌, ◌++◌, length, length-append, drop, append_assoc, sym, ap, ◌∙◌, arith}
use Rattle.bstr.specs.Text.{replaced_at, part}

pub replaced_step : (s : List ℕ) (m : ℕ) (u : List ℕ) (last k : ℕ) (ks rest made once twice : List ℕ) → ks ≡ k ∷ rest → once ≡ made ++ part last k s → twice ≡ once ++ u
    → made ++ replaced_at s m u last ks ≡ twice ++ replaced_at s m u (k + m) rest
unfolding replaced_at
replaced_step s m u last k ks rest made once twice e a b =
    let tail = replaced_at s m u (k + m) rest in
    ap (λ l. made ++ replaced_at s m u last l) e ∙ sym (append_assoc made (part last k s) (u ++ tail)) ∙ ap (λ t. t ++ (u ++ tail)) (sym a) ∙ sym (append_assoc once u tail) ∙ ap (λ t. t ++ tail) (sym b)

pub replaced_end : (s : List ℕ) (m : ℕ) (u : List ℕ) (last : ℕ) (ks made : List ℕ) → ks ≡ [] → made ++ replaced_at s m u last ks ≡ made ++ drop last s
unfolding replaced_at
replaced_end s m u last ks made e = ap (λ l. made ++ replaced_at s m u last l) e

pub past_limit : (limit : ℕ) (made rest whole : List ℕ) → whole ≡ made ++ rest → limit ≤ length made → limit ≤ length whole
past_limit limit made rest whole e h = omega (arith, ap length e, length-append made rest, h)
