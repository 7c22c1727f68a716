-- Limits on sizes change nothing in reading an object but that they refuse.
use Rattle.std.proofs.Common.{ℕ, Bool, true, false, cond, [], ◌∷◌, ◌++◌, Option, Some, None, Result, Ok, refl, inl}
use Rattle.moo_dbtext_object.specs.declared.fault.LineFault.{LineFault}
use Rattle.moo_dbtext_object.specs.Lines.{Line, ◌>>=◌, unlimited, limited, bounded_count_of, text_of}
use Rattle.moo_dbtext_object.specs.Reading.{value_line}
use Rattle.moo_dbtext_object.specs.Objects.{Object}
use Rattle.moo_dbtext_object.specs.ObjectReading.{Draft, after_verb, after_name, after_cell, after_value_line, value_line_step, is_clear, object_step}
use Rattle.moo_dbtext_object.specs.declared.object_reader.Awaited.{Awaited}
use Rattle.moo_dbtext_object.specs.declared.object_reader.Awaited.TheVariants as awaited
use Rattle.moo_dbtext_object.specs.Lines.{Cut}
use Rattle.moo_dbtext_object.proofs.Cutting.{cut_same, cut_then, text_cut, bounded_count_cut, value_cut}

abbrev unfinished : Draft → Result (Draft × Option Object) LineFault
unfinished d = Ok (d, None)

value_line_cut : (d : Draft) (line : Line) → Cut (value_line_step limited d line >>= unfinished) (value_line_step unlimited d line >>= unfinished)
value_line_cut d line =
    cut_then (value_line_step limited d line) (value_line_step unlimited d line) unfinished unfinished
    (cut_then (value_line limited d.value line) (value_line unlimited d.value line) (λ r. Ok (after_value_line d r)) (λ r. Ok (after_value_line d r)) (value_cut d.value.expected d.value line) (λ r. cut_same (Ok (after_value_line d r))))
    (λ e. cut_same (unfinished e))

text_then : (line : Line) (f : Line → Result (Draft × Option Object) LineFault) → Cut (text_of limited line >>= f) (text_of unlimited line >>= f)
text_then line f = cut_then (text_of limited line) (text_of unlimited line) f f (text_cut line) (λ x. cut_same (f x))

count_then : (line : Line) (f : ℕ → Result (Draft × Option Object) LineFault) → Cut (bounded_count_of limited line >>= f) (bounded_count_of unlimited line >>= f)
count_then line f = cut_then (bounded_count_of limited line) (bounded_count_of unlimited line) f f (bounded_count_cut line) (λ x. cut_same (f x))

pub object_cut : (aw : Awaited) (d : Draft) (line : Line) → Cut (object_step limited aw d line) (object_step unlimited aw d line)
unfolding object_step
object_cut awaited.Name d line = text_then line (λ x. Ok (record d { awaited = awaited.Note; name = Some x }, None))
object_cut awaited.Note d line = text_then line (λ x. Ok (record d { awaited = awaited.Flags }, None))
object_cut awaited.Flags d line = inl refl
object_cut awaited.Owner d line = inl refl
object_cut awaited.Location d line = inl refl
object_cut awaited.Contents d line = inl refl
object_cut awaited.Next d line = inl refl
object_cut awaited.Parent d line = inl refl
object_cut awaited.Child d line = inl refl
object_cut awaited.Sibling d line = inl refl
object_cut awaited.VerbCount d line = count_then line (λ n. Ok (after_verb d d.body n, None))
object_cut awaited.VerbNames d line = text_then line (λ x. Ok (record d { awaited = awaited.VerbOwner; verb = record d.verb { names = Some x } }, None))
object_cut awaited.VerbOwner d line = inl refl
object_cut awaited.VerbBits d line = inl refl
object_cut awaited.VerbPreposition d line = inl refl
object_cut awaited.NameCount d line = count_then line (λ n. Ok (after_name d d.body n, None))
object_cut awaited.PropertyName d line = text_then line (λ x. Ok (after_name d (record d.body { names = d.body.names ++ x ∷ [] }) d.left, None))
object_cut awaited.CellCount d line = count_then line (λ n. Ok (after_cell d d.body n))
object_cut awaited.Value d line = decide (is_clear d.body line)
  where
    decide : (b : Bool) → Cut (cond b (unfinished (record d { awaited = awaited.CellOwner; cell = None })) (value_line_step limited d line >>= unfinished)) (cond b (unfinished (record d { awaited = awaited.CellOwner; cell = None })) (value_line_step unlimited d line >>= unfinished))
    decide true = inl refl
    decide false = value_line_cut d line
object_cut awaited.Inside d line = value_line_cut d line
object_cut awaited.CellOwner d line = inl refl
object_cut awaited.CellPerms d line = inl refl
