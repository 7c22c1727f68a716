-- The lines of a value.
use Rattle.std.specs.Prelude.{◌<◌, ◌^◌, List, [], ◌∷◌, ◌++◌, length, codes, FitsSigned}
use Rattle.std.specs.Int.{w32}
use Rattle.std.specs.Fmt.{signed_decimal}
use Rattle.moo_value.specs.Errors.{error_number}
use Rattle.moo_value.specs.Size.{IsWithinLimits}
use Rattle.moo_value.specs.Tree.{Tree, Elements, integer, object, error, string, list, no_elements, element, trees_of, IsText}
use Rattle.moo_dbtext_object.specs.Lines.{Line, count_line, Sizes, unlimited, limited}

-- the number of the type on a line, and then the content; a list's is the number of its elements, and these
abbrev mutual
  pub value_lines : Tree → List Line
  value_lines (integer z) = codes "0" ∷ signed_decimal z ∷ []
  value_lines (object z) = codes "1" ∷ signed_decimal z ∷ []
  value_lines (string s) = codes "2" ∷ s ∷ []
  value_lines (error e) = codes "3" ∷ count_line (error_number e) ∷ []
  value_lines (list es) = codes "4" ∷ count_line (length (trees_of es)) ∷ elements_lines es

  pub elements_lines : Elements → List Line
  elements_lines no_elements = []
  elements_lines (element t es) = value_lines t ++ elements_lines es

-- what has lines: numbers of 32 bits, strings of the bytes of strings, and lists whose count is a number of 32 bits
abbrev mutual
  pub IsWritable : Tree → Type 0
  IsWritable (integer z) = FitsSigned w32 z
  IsWritable (object z) = FitsSigned w32 z
  IsWritable (string s) = IsText s
  IsWritable (error e) = Unit {0}
  IsWritable (list es) = (length (trees_of es) < 2 ^ 31) × AreWritable es

  pub AreWritable : Elements → Type 0
  AreWritable no_elements = Unit {0}
  AreWritable (element t es) = IsWritable t × AreWritable es

-- if sizes are limited, the value is within the limits
abbrev pub KeepsLimits : Sizes → Tree → Type 0
KeepsLimits unlimited t = Unit {0}
KeepsLimits limited t = IsWithinLimits t
