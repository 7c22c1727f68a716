-- A place that a search found.
use Rattle.std.proofs.Common.{◌≡◌, ℕ, List, Bool, length, ap, sym, ◌∙◌}
use Rattle.std.specs.Prelude.{Option, Result, Ok}
use Rattle.memchr.specs.Find.{FindsNeedle, FindsLastNeedle, first_of, matches, rmatches}
use Rattle.memchr.proofs.lemmas.ValueLemmas.{FindsNeedle-value, FindsLastNeedle-value}
use Rattle.moo_value.specs.declared.error_code.ErrorCode.{ErrorCode}
use Rattle.moo_value.specs.Tree.{Tree}
use Rattle.moo_builtin_operator.specs.Comparison.{place_value}
use Rattle.moo_builtin_value.specs.Texts.{as_searched, first_place, last_place}

abbrev Answers : Result Tree ErrorCode → Tree → Type 0
Answers r v = r ≡ Ok v

pub first_found : (exact : Bool) (s t a b : List ℕ) (found : Option ℕ) (v : Tree) → a ≡ as_searched exact s → b ≡ as_searched exact t → FindsNeedle a b 0 found → v ≡ place_value found
    → Answers (Ok (first_place exact s t)) v
first_found exact s t a b found v text wanted finds is =
    let place = FindsNeedle-value _ _ _ finds in
    ap Ok (ap (λ x. place_value (first_of (matches x (as_searched exact t) 0))) (sym text) ∙ ap (λ x. place_value (first_of (matches a x 0))) (sym wanted) ∙ ap place_value (sym place) ∙ sym is)

pub last_found : (exact : Bool) (s t a b : List ℕ) (found : Option ℕ) (v : Tree) → a ≡ as_searched exact s → b ≡ as_searched exact t → FindsLastNeedle a b found → v ≡ place_value found
    → Answers (Ok (last_place exact s t)) v
last_found exact s t a b found v text wanted finds is =
    let place = FindsLastNeedle-value _ _ _ finds in
    ap Ok (ap (λ x. place_value (first_of (rmatches x (as_searched exact t) (length x)))) (sym text) ∙ ap (λ x. place_value (first_of (rmatches a x (length a)))) (sym wanted) ∙ ap place_value (sym place) ∙ sym is)
