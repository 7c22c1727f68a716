-- How the beginning of a line decides its result.
use Rattle.std.proofs.Common.{ℕ, List}
use Rattle.moo_value.specs.Tree.{IsText}
use Rattle.moo_value.specs.Size.{IsString}
use Rattle.moo_eval_semantics.specs.Line.{program_text, AnswersLine, bad_byte, too_long, refused, runs}
use Rattle.moo_eval.proofs.Texts.{text_inside}

-- A line with a byte that no string holds is answered as any other such line.
pub held_bad_byte : {held line : List ℕ} {lines : List (List ℕ)} {status : ℕ} → (¬ IsText held) → (¬ IsText line) → AnswersLine held lines status → AnswersLine line lines status
held_bad_byte h n (bad_byte b ls s) = bad_byte n ls s
held_bad_byte h n (too_long t b ls s) = absurd (h t)
held_bad_byte h n (refused fits fault f ls s) = absurd (h (text_inside _ fits.text))
held_bad_byte h n (runs fits end r ls s) = absurd (h (text_inside _ fits.text))

-- A line that is too long is answered as any other such line.
pub held_too_long : {held line : List ℕ} {lines : List (List ℕ)} {status : ℕ} → IsText held → (¬ IsString (program_text held)) → IsText line → (¬ IsString (program_text line)) → AnswersLine held lines status → AnswersLine line lines status
held_too_long t h u n (bad_byte b ls s) = absurd (b t)
held_too_long t h u n (too_long t' b ls s) = too_long u n ls s
held_too_long t h u n (refused fits fault f ls s) = absurd (h fits)
held_too_long t h u n (runs fits end r ls s) = absurd (h fits)
