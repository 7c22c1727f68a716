-- If a size of an object exceeds its limit, the line is right but for that limit.
use Rattle.std.proofs.Common.{ℕ, ℤ, pos, negsuc, Bool, true, false, cond, leb, [], ◌∷◌, ◌++◌, Option, Some, None, Result, Ok, Err}
use Rattle.moo_dbtext_object.specs.declared.fault.LineFault.{LineFault}
use Rattle.moo_dbtext_object.specs.declared.fault.LineFault.TheVariants.{BadNumber}
use Rattle.moo_dbtext_object.specs.Lines.{Line, ◌>>=◌, unlimited, limited, number_of, small_of, bounded_count_of, text_of}
use Rattle.moo_dbtext_object.specs.Reading.{value_line}
use Rattle.moo_dbtext_object.proofs.Cutting.{text_cut, bounded_count_cut, value_cut, cut_then, cut_same}
use Rattle.moo_dbtext_object.proofs.Strictness.{NeverLarge, Strict, never_then, strict_then, number_never, small_never, text_strict, bounded_count_strict, value_strict}
use Rattle.moo_dbtext_object.specs.Objects.{Object}
use Rattle.moo_dbtext_object.specs.ObjectReading.{Draft, is_verb_bits, checked_bits, verb_bits_of, checked_preposition, preposition_of, after_verb, after_name, after_cell, after_value_line, value_line_step, is_clear, object_step}
use Rattle.moo_dbtext_object.specs.declared.object_reader.Awaited.{Awaited}
use Rattle.moo_dbtext_object.specs.declared.object_reader.Awaited.TheVariants as awaited

-- ---- what has no limit

bits_never : (line : Line) → NeverLarge (verb_bits_of line)
unfolding verb_bits_of
bits_never line = never_then (small_of 255 line) checked_bits (small_never 255 line) (λ n. decide n (is_verb_bits n))
  where
    decide : (n : ℕ) (b : Bool) → NeverLarge (cond b (Ok n) (Err BadNumber))
    decide n true = tt
    decide n false = λ e. cc

preposition_never : (line : Line) → NeverLarge (preposition_of line)
unfolding preposition_of
preposition_never line = never_then (number_of line) checked_preposition (number_never line) checked
  where
    decide : (z : ℤ) (b : Bool) → NeverLarge (cond b (Ok z) (Err BadNumber))
    decide z true = tt
    decide z false = λ e. cc

    checked : (z : ℤ) → NeverLarge (checked_preposition z)
    checked (pos n) = decide (pos n) (leb n 14)
    checked (negsuc n) = decide (negsuc n) (leb n 1)

-- ---- the steps

abbrev unfinished : Draft → Result (Draft × Option Object) LineFault
unfinished d = Ok (d, None)

plain : {A B : Type 0} (r : Result A LineFault) (f : A → B) → NeverLarge r → Strict (r >>= λ x. Ok (f x)) (r >>= λ x. Ok (f x))
plain (Ok x) f h = tt
plain (Err e) f h = λ large. absurd (h large)

text_then : {B : Type 0} (line : Line) (f : Line → B) → Strict (text_of limited line >>= λ x. Ok (f x)) (text_of unlimited line >>= λ x. Ok (f x))
text_then line f = strict_then (text_of limited line) (text_of unlimited line) (λ x. Ok (f x)) (λ x. Ok (f x)) (text_cut line) (text_strict line) (λ x. tt) (λ x. tt)

count_then : {B : Type 0} (line : Line) (f : ℕ → B) → Strict (bounded_count_of limited line >>= λ x. Ok (f x)) (bounded_count_of unlimited line >>= λ x. Ok (f x))
count_then line f = strict_then (bounded_count_of limited line) (bounded_count_of unlimited line) (λ x. Ok (f x)) (λ x. Ok (f x)) (bounded_count_cut line) (bounded_count_strict line) (λ x. tt) (λ x. tt)

value_line_strict : (d : Draft) (line : Line) → Strict (value_line_step limited d line >>= unfinished) (value_line_step unlimited d line >>= unfinished)
value_line_strict d line =
    strict_then (value_line_step limited d line) (value_line_step unlimited d line) unfinished unfinished
    (cut_then (value_line limited d.value line) (value_line unlimited d.value line) (λ r. Ok (after_value_line d r)) (λ r. Ok (after_value_line d r)) (value_cut d.value.expected d.value line) (λ r. cut_same (Ok (after_value_line d r))))
    (strict_then (value_line limited d.value line) (value_line unlimited d.value line) (λ r. Ok (after_value_line d r)) (λ r. Ok (after_value_line d r)) (value_cut d.value.expected d.value line) (value_strict d.value.expected d.value line) (λ r. tt) (λ r. tt))
    (λ e. tt) (λ e. tt)

pub object_strict : (aw : Awaited) (d : Draft) (line : Line) → Strict (object_step limited aw d line) (object_step unlimited aw d line)
unfolding object_step
object_strict awaited.Name d line = text_then line (λ x. (record d { awaited = awaited.Note; name = Some x }, None))
object_strict awaited.Note d line = text_then line (λ x. (record d { awaited = awaited.Flags }, None))
object_strict awaited.Flags d line = plain (small_of 255 line) _ (small_never 255 line)
object_strict awaited.Owner d line = plain (number_of line) _ (number_never line)
object_strict awaited.Location d line = plain (number_of line) _ (number_never line)
object_strict awaited.Contents d line = plain (number_of line) _ (number_never line)
object_strict awaited.Next d line = plain (number_of line) _ (number_never line)
object_strict awaited.Parent d line = plain (number_of line) _ (number_never line)
object_strict awaited.Child d line = plain (number_of line) _ (number_never line)
object_strict awaited.Sibling d line = plain (number_of line) _ (number_never line)
object_strict awaited.VerbCount d line = count_then line (λ n. (after_verb d d.body n, None))
object_strict awaited.VerbNames d line = text_then line (λ x. (record d { awaited = awaited.VerbOwner; verb = record d.verb { names = Some x } }, None))
object_strict awaited.VerbOwner d line = plain (number_of line) _ (number_never line)
object_strict awaited.VerbBits d line = plain (verb_bits_of line) _ (bits_never line)
object_strict awaited.VerbPreposition d line = plain (preposition_of line) _ (preposition_never line)
object_strict awaited.NameCount d line = count_then line (λ n. (after_name d d.body n, None))
object_strict awaited.PropertyName d line = text_then line (λ x. (after_name d (record d.body { names = d.body.names ++ x ∷ [] }) d.left, None))
object_strict awaited.CellCount d line = count_then line (λ n. after_cell d d.body n)
object_strict awaited.Value d line = decide (is_clear d.body line)
  where
    decide : (b : Bool) → Strict (cond b (unfinished (record d { awaited = awaited.CellOwner; cell = None })) (value_line_step limited d line >>= unfinished)) (cond b (unfinished (record d { awaited = awaited.CellOwner; cell = None })) (value_line_step unlimited d line >>= unfinished))
    decide true = tt
    decide false = value_line_strict d line
object_strict awaited.Inside d line = value_line_strict d line
object_strict awaited.CellOwner d line = plain (number_of line) _ (number_never line)
object_strict awaited.CellPerms d line = plain (small_of 7 line) _ (small_never 7 line)
