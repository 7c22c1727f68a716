-- A listing is refused where a line of it is.
use Rattle.std.proofs.Common.{ℕ, List, [], ◌∷◌, ◌++◌, ◌≡◌, sym, subst}
use Rattle.moo_syntax_ast.specs.Limits.{FitsLine, AllFit}
use Rattle.moo_unparse.specs.declared.fault.ListFault.{ListFault}
use Rattle.moo_unparse.specs.declared.fault.ListFault.TheVariants.{TooHeavy, Memory}
use Rattle.moo_unparse.specs.Refused.{IsRefusedLine, IsRefusedListing}

fits_among : (before : List (List ℕ)) (line : List ℕ) (after : List (List ℕ)) → AllFit (before ++ line ∷ after) → FitsLine line
fits_among [] line after h = h.0
fits_among (other ∷ before) line after h = fits_among before line after h.1

pub refused_by_line : (fault : ListFault) (before : List (List ℕ)) (line : List ℕ) (after lines : List (List ℕ)) → before ++ line ∷ after ≡ lines → IsRefusedLine fault line → IsRefusedListing fault lines
refused_by_line TooHeavy before line after lines is h = λ all. h (fits_among before line after (subst AllFit (sym is) all))
refused_by_line Memory before line after lines is h = tt

pub refused_for_memory : (fault : ListFault) (lines : List (List ℕ)) → fault ≡ Memory → IsRefusedListing fault lines
refused_for_memory TooHeavy lines is = absurd cc
refused_for_memory Memory lines is = tt

pub too_heavy : (fault : ListFault) (lines : List (List ℕ)) → fault ≡ TooHeavy → IsRefusedListing fault lines → AllFit lines → ⊥
too_heavy TooHeavy lines is h all = h all
too_heavy Memory lines is h all = absurd cc
