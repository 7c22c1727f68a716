-- Lines that are written one after another, each with its end.
use Rattle.std.proofs.Common.{◌≡◌, ℕ, zero, suc, ◌+◌, ◌<◌, List, [], ◌∷◌, ◌++◌, length, take, get_or, ap, sym, ◌∙◌, arith}
use Rattle.std.specs.List.{All, flat_map, slice_index_or}
use Rattle.std.proofs.lemmas.List.{take_more, flat_map_more}
use Rattle.moo_value.specs.Tree.{IsText}
use Rattle.moo_value.specs.Size.{IsString}
use Rattle.moo_syntax_ast.specs.Limits.{FitsLine, AllFit}

abbrev pub end : List ℕ → List ℕ
end line = line ++ 10 ∷ []

pub written_more : (lines : List (List ℕ)) (i : ℕ) (line : List ℕ) (old mid new : List ℕ) → i < length lines → line ≡ get_or lines i line → mid ≡ old ++ flat_map end (take i lines) → new ≡ mid ++ end line → new ≡ old ++ flat_map end (take (i + 1) lines)
written_more lines i line old mid new lt is so_far more =
    let whole : take (i + 1) lines ≡ take i lines ++ line ∷ [] = take_more lines i line lt ∙ ap (λ (l : List ℕ). take i lines ++ l ∷ []) (sym is) in
    more ∙ ap (λ (bs : List ℕ). bs ++ end line) so_far ∙ flat_map_more end old (take i lines) line ∙ ap (λ (ls : List (List ℕ)). old ++ flat_map end ls) (sym whole)

fits_at : (lines : List (List ℕ)) (k : ℕ) (d : List ℕ) → AllFit lines → k < length lines → FitsLine (slice_index_or lines k d)
fits_at [] k d all lt = absurd (omega arith)
fits_at (line ∷ lines) zero d all lt = all.0
fits_at (line ∷ lines) (suc k) d all lt = fits_at lines k d all.1 (omega arith)

pub are_strings : (lines : List (List ℕ)) → All IsText lines → AllFit lines → All IsString lines
are_strings lines text all = λ k d lt. record { text = text k d lt; fits = fits_at lines k d all lt }
