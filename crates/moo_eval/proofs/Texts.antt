-- The line within the text of its program.
use Rattle.std.proofs.Common.{ℕ, ◌+◌, ◌≤◌, List, [], ◌∷◌, ◌++◌, length, codes, arith}
use Rattle.std.proofs.lemmas.List.{length-append}
use Rattle.std.specs.List.{AllByRecursion}
use Rattle.std.proofs.lemmas.List.Elements.{All-from_recursion, recursion_from_All}
use Rattle.moo_value.specs.Tree.{IsTextByte, IsText}
use Rattle.moo_value.specs.Size.{IsString, weight_limit}
use Rattle.moo_eval_semantics.specs.Line.{program_text}

front : (s t : List ℕ) → AllByRecursion IsTextByte (s ++ t) → AllByRecursion IsTextByte s
front [] t h = tt
front (b ∷ s) t h = (h.0, front s t h.1)

pub text_inside : (line : List ℕ) → IsText (program_text line) → IsText line
text_inside line h = All-from_recursion IsTextByte line (front line (codes ";") (recursion_from_All IsTextByte (program_text line) h).1.1.1.1.1.1.1)

-- a line that is too long with the words around it
pub heavy_text : (line : List ℕ) → weight_limit ≤ length line + 8 → ¬ IsString (program_text line)
heavy_text line h s = omega (arith, h, s.fits, length-append (codes "return ") (line ++ codes ";"), length-append line (codes ";"))
