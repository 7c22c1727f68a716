-- No line that is read of an object holds the end of a line.
use Rattle.std.proofs.Common.{◌≡◌, ℕ, ℤ, leb, [], ◌∷◌, ◌++◌, length, Option, Some, None, Result, Ok, arith, inl, inr}
use Rattle.std.specs.Prelude.{codes}
use Rattle.std.specs.Str.{bytes_eq}
use Rattle.std.proofs.lemmas.Slice.Eq.{bytes_eq-Decides}
use Rattle.moo_dbtext_object.specs.declared.fault.LineFault.{LineFault}
use Rattle.moo_dbtext_object.specs.Lines.{Line, ◌>>=◌, Sizes, number_of, bounded_count_of, small_of, text_of}
use Rattle.moo_dbtext_object.specs.Reading.{value_line}
use Rattle.moo_dbtext_object.proofs.Steps.{bind_ok, branch}
use Rattle.moo_dbtext_object.proofs.LineLaws.{both_true}
use Rattle.moo_dbtext_object.specs.Objects.{Object}
use Rattle.moo_dbtext_object.specs.ObjectReading.{Draft, verb_bits_of, preposition_of, next_field, after_verb, after_name, after_cell, verbs_made, after_value_line, value_line_step, is_clear, object_step}
use Rattle.moo_dbtext_object.specs.declared.object_reader.Awaited.{Awaited}
use Rattle.moo_dbtext_object.specs.declared.object_reader.Awaited.TheVariants as awaited
use Rattle.moo_dbtext_object.proofs.Clean.{IsClean, along, first_clean, decimal_clean, signed_clean, number_clean, small_clean, bounded_count_clean, string_clean, value_clean}
use Rattle.moo_dbtext_object.proofs.NumberLaws.{bits_found, preposition_found, preposition_fits}

bits_clean : (line : Line) (n : ℕ) → verb_bits_of line ≡ Ok n → IsClean line
bits_clean line n e = let f = bits_found line n e in along line _ f.1 (decimal_clean n (omega (arith, f.0.byte)))

preposition_clean : (line : Line) (z : ℤ) → preposition_of line ≡ Ok z → IsClean line
preposition_clean line z e = let f = preposition_found line z e in along line _ f.1 (signed_clean z (preposition_fits z f.0))

abbrev unfinished : Draft → Result (Draft × Option Object) LineFault
unfinished d = Ok (d, None)

value_line_clean : (s : Sizes) (d : Draft) (line : Line) (r : Draft × Option Object) → (value_line_step s d line >>= unfinished) ≡ Ok r → IsClean line
value_line_clean s d line r e =
    let b = bind_ok (value_line_step s d line) unfinished r e in
    first_clean line (value_line s d.value line) (λ r. Ok (after_value_line d r)) b.0 b.1 (value_clean s d.value.expected d.value line)

pub object_clean : (s : Sizes) (aw : Awaited) (d : Draft) (line : Line) (r : Draft × Option Object) → object_step s aw d line ≡ Ok r → IsClean line
unfolding object_step
object_clean s awaited.Name d line r e = first_clean line (text_of s line) (λ x. Ok (record d { awaited = awaited.Note; name = Some x }, None)) r e (string_clean s line)
object_clean s awaited.Note d line r e = first_clean line (text_of s line) (λ x. Ok (record d { awaited = awaited.Flags }, None)) r e (string_clean s line)
object_clean s awaited.Flags d line r e = first_clean line (small_of 255 line) (λ n. next_field d awaited.Owner (record d.body { flags = n })) r e (λ x. small_clean 255 line x (omega arith))
object_clean s awaited.Owner d line r e = first_clean line (number_of line) (λ z. next_field d awaited.Location (record d.body { owner = z })) r e (number_clean line)
object_clean s awaited.Location d line r e = first_clean line (number_of line) (λ z. next_field d awaited.Contents (record d.body { location = z })) r e (number_clean line)
object_clean s awaited.Contents d line r e = first_clean line (number_of line) (λ z. next_field d awaited.Next (record d.body { contents = z })) r e (number_clean line)
object_clean s awaited.Next d line r e = first_clean line (number_of line) (λ z. next_field d awaited.Parent (record d.body { next = z })) r e (number_clean line)
object_clean s awaited.Parent d line r e = first_clean line (number_of line) (λ z. next_field d awaited.Child (record d.body { parent = z })) r e (number_clean line)
object_clean s awaited.Child d line r e = first_clean line (number_of line) (λ z. next_field d awaited.Sibling (record d.body { child = z })) r e (number_clean line)
object_clean s awaited.Sibling d line r e = first_clean line (number_of line) (λ z. next_field d awaited.VerbCount (record d.body { sibling = z })) r e (number_clean line)
object_clean s awaited.VerbCount d line r e = first_clean line (bounded_count_of s line) (λ n. Ok (after_verb d d.body n, None)) r e (bounded_count_clean s line)
object_clean s awaited.VerbNames d line r e = first_clean line (text_of s line) (λ x. Ok (record d { awaited = awaited.VerbOwner; verb = record d.verb { names = Some x } }, None)) r e (string_clean s line)
object_clean s awaited.VerbOwner d line r e = first_clean line (number_of line) (λ z. Ok (record d { awaited = awaited.VerbBits; verb = record d.verb { owner = z } }, None)) r e (number_clean line)
object_clean s awaited.VerbBits d line r e = first_clean line (verb_bits_of line) (λ n. Ok (record d { awaited = awaited.VerbPreposition; verb = record d.verb { perms = n } }, None)) r e (bits_clean line)
object_clean s awaited.VerbPreposition d line r e = first_clean line (preposition_of line) (λ z. Ok (after_verb (record d { verb = record d.verb { names = None } }) (record d.body { verbs = d.body.verbs ++ verbs_made d.verb.names d.verb z }) d.left, None)) r e (preposition_clean line)
object_clean s awaited.NameCount d line r e = first_clean line (bounded_count_of s line) (λ n. Ok (after_name d d.body n, None)) r e (bounded_count_clean s line)
object_clean s awaited.PropertyName d line r e = first_clean line (text_of s line) (λ x. Ok (after_name d (record d.body { names = d.body.names ++ x ∷ [] }) d.left, None)) r e (string_clean s line)
object_clean s awaited.CellCount d line r e = first_clean line (bounded_count_of s line) (λ n. Ok (after_cell d d.body n)) r e (bounded_count_clean s line)
object_clean s awaited.Value d line r e =
    elim (branch (is_clear d.body line) (record d { awaited = awaited.CellOwner; cell = None }, None) r (value_line_step s d line >>= unfinished) e) [
      | inl p ↦
          let q = both_true (leb (length d.body.names) (length d.body.cells)) (bytes_eq line (codes "5")) p.0 in
          along line _ ((bytes_eq-Decides line (codes "5")).0 q.1) (λ e. omega arith, tt)
      | inr more ↦ value_line_clean s d line r more
    ]
object_clean s awaited.Inside d line r e = value_line_clean s d line r e
object_clean s awaited.CellOwner d line r e = first_clean line (number_of line) (λ z. Ok (record d { awaited = awaited.CellPerms; cell_owner = z }, None)) r e (number_clean line)
object_clean s awaited.CellPerms d line r e = first_clean line (small_of 7 line) (λ n. Ok (after_cell (record d { cell = None }) (record d.body { cells = d.body.cells ++ record { value = d.cell; owner = d.cell_owner; perms = n } ∷ [] }) d.left)) r e (λ x. small_clean 7 line x (omega arith))
