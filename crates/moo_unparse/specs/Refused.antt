-- When a listing is refused.
use Rattle.std.specs.Prelude.{ℕ, List}
use Rattle.moo_syntax_ast.specs.Limits.{FitsLine, AllFit}
use Rattle.moo_unparse.specs.declared.fault.ListFault.{ListFault}
use Rattle.moo_unparse.specs.declared.fault.ListFault.TheVariants.{TooHeavy, Memory}

-- as too heavy only if the line is too long for a string
abbrev pub IsRefusedLine : ListFault → List ℕ → Type 0
IsRefusedLine TooHeavy line = FitsLine line → ⊥
IsRefusedLine Memory line = Unit {0}

-- as too heavy only if one of the lines is
abbrev pub IsRefusedListing : ListFault → List (List ℕ) → Type 0
IsRefusedListing TooHeavy lines = AllFit lines → ⊥
IsRefusedListing Memory lines = Unit {0}
