-- A line after those that a reader of texts has taken.
use Rattle.std.proofs.Common.{◌≡◌, ℕ, suc, ◌+◌, ◌≤◌, Bool, true, false, cond, eqb, List, [], ◌∷◌, ◌++◌, length, Option, Some, None, Ok, refl, sym, ap, subst, ◌∙◌, append_assoc, arith, add-zero, eq-eqb}
use Rattle.std.specs.Prelude.{map}
use Rattle.std.specs.Fmt.{signed_decimal}
use Rattle.std.specs.List.{flat_map}
use Rattle.std.proofs.lemmas.Bool.{ne_eqb}
use Rattle.moo_dbtext_object.specs.Lines.{Line, Sizes, unlimited, limited, IsStringOf, text_of, count_line}
use Rattle.moo_dbtext_object.proofs.Steps.{bind_ok}
use Rattle.moo_dbtext_object.proofs.TextLaws.{text_found}
use Rattle.moo_dbtext_object.proofs.ValueSmall.{text_small}
use Rattle.moo_dbtext_object.specs.Objects.{Object, object_lines}
use Rattle.moo_dbtext_object.specs.ObjectReading.{Draft, object_step}
use Rattle.moo_dbtext_object.specs.declared.object_reader.Awaited.{Awaited}
use Rattle.moo_dbtext_object.specs.declared.object_reader.Awaited.TheVariants as awaited
use Rattle.moo_dbtext_object.proofs.ObjectDraft.{note_after}
use Rattle.moo_dbtext_record.specs.Programs.{Table, is_open, with_source, Program, program_lines, Fills}
use Rattle.moo_dbtext_record.specs.Texts.{Text, Slack, header_line, live_line, recycled_line, objects_lines}
use Rattle.moo_dbtext_record.proofs.DumpProgress.{counts, objected, programmed}

-- ---- a line after others

pub counts_more : (t : Text) (k : Slack) (n m i : ℕ) (more : List Line) (line : Line) → counts t k n m i (more ++ line ∷ []) ≡ counts t k n m i more ++ line ∷ []
counts_more t k n m i more line = ap (λ (ls : List Line). header_line t.version ∷ count_line n ∷ count_line m ∷ signed_decimal k.unused ∷ count_line i ∷ ls) (sym (append_assoc (map signed_decimal t.players) more (line ∷ [])))

pub objected_more : (t : Text) (k : Slack) (n m : ℕ) (more : List Line) (line : Line) → objected t k n m (more ++ line ∷ []) ≡ objected t k n m more ++ line ∷ []
objected_more t k n m more line = ap (counts t k n m (length t.players)) (sym (append_assoc (objects_lines 0 t.objects k.notes) more (line ∷ []))) ∙ counts_more t k n m (length t.players) (objects_lines 0 t.objects k.notes ++ more) line

pub programmed_more : (t : Text) (k : Slack) (m : ℕ) (more : List Line) (line : Line) → programmed t k m (more ++ line ∷ []) ≡ programmed t k m more ++ line ∷ []
programmed_more t k m more line = ap (objected t k (length t.objects) m) (sym (append_assoc (flat_map program_lines k.programs) more (line ∷ []))) ∙ objected_more t k (length t.objects) m (flat_map program_lines k.programs ++ more) line

pub objects_lines_push : (n : ℕ) (os : List (Option Object)) (o : Option Object) (notes : ℕ → Line) → objects_lines n (os ++ o ∷ []) notes ≡ objects_lines n os notes ++ objects_lines (n + length os) (o ∷ []) notes
objects_lines_push n [] o notes = ap (λ (i : ℕ). objects_lines i (o ∷ []) notes) (sym (add-zero n))
objects_lines_push n (None ∷ os) o notes = ap (λ (ls : List Line). recycled_line n ∷ ls) (objects_lines_push (n + 1) os o notes ∙ ap (λ (i : ℕ). objects_lines (n + 1) os notes ++ objects_lines i (o ∷ []) notes) (omega arith))
objects_lines_push n (Some x ∷ os) o notes =
    ap (λ (ls : List Line). live_line n ∷ (object_lines x (notes n) ++ ls)) (objects_lines_push (n + 1) os o notes ∙ ap (λ (i : ℕ). objects_lines (n + 1) os notes ++ objects_lines i (o ∷ []) notes) (omega arith))
    ∙ ap (λ (ls : List Line). live_line n ∷ ls) (sym (append_assoc (object_lines x (notes n)) (objects_lines (n + 1) os notes) (objects_lines (n + suc (length os)) (o ∷ []) notes)))

-- ---- notes

abbrev pub with_note : ℕ → Line → (ℕ → Line) → ℕ → Line
with_note n line notes i = cond (eqb i n) line (notes i)

pub note_there : (n : ℕ) (line : Line) (notes : ℕ → Line) → with_note n line notes n ≡ line
note_there n line notes = rw (eq-eqb n n refl) refl

pub notes_before : (i n : ℕ) (line : Line) (notes : ℕ → Line) (os : List (Option Object)) → i + length os ≤ n → objects_lines i os (with_note n line notes) ≡ objects_lines i os notes
notes_before i n line notes [] h = refl
notes_before i n line notes (None ∷ os) h = ap (λ (ls : List Line). recycled_line i ∷ ls) (notes_before (i + 1) n line notes os (omega arith))
notes_before i n line notes (Some x ∷ os) h =
    let other : eqb i n ≡ false = ne_eqb i n (λ e. omega arith) in
    rw other (ap (λ (ls : List Line). live_line i ∷ (object_lines x (notes i) ++ ls)) (notes_before (i + 1) n line notes os (omega arith)))

pub notes_are_strings : (s : Sizes) (n : ℕ) (line : Line) (notes : ℕ → Line) → IsStringOf s line → ((i : ℕ) → IsStringOf s (notes i)) → (i : ℕ) → IsStringOf s (with_note n line notes i)
notes_are_strings s n line notes h hs i = decide (eqb i n)
  where
    decide : (b : Bool) → IsStringOf s (cond b line (notes i))
    decide true = h
    decide false = hs i

-- ---- programs

pub fills_push : (a : Table) (ps : List Program) (b : Table) (p : Program) → Fills a ps b → is_open p.object p.verb b ≡ true → Fills a (ps ++ p ∷ []) (with_source p.object p.verb p.source b)
fills_push a [] b p h free = (subst (λ (t : Table). is_open p.object p.verb t ≡ true) (sym h) free, ap (λ (t : Table). with_source p.object p.verb p.source t) h)
fills_push a (q ∷ ps) b p h free = (h.0, fills_push (with_source q.object q.verb q.source a) ps b p h.1 free)

-- ---- the note of an object is a string

pub string_found : (s : Sizes) (line t : Line) → text_of s line ≡ Ok t → IsStringOf s t
string_found unlimited line t e = (text_found unlimited line t e).0
string_found limited line t e = text_small line t e

pub note_is_string : (s : Sizes) (aw : Awaited) (d : Draft) (note line : Line) (r : Draft × Option Object) → object_step s aw d line ≡ Ok r → IsStringOf s note → IsStringOf s (note_after aw note line)
unfolding object_step
note_is_string s awaited.Note d note line r e h =
    let b = bind_ok (text_of s line) (λ x. Ok (record d { awaited = awaited.Flags }, None)) r e in
    subst (IsStringOf s) (sym (text_found s line b.0 b.1).1) (string_found s line b.0 b.1)
note_is_string s awaited.Name d note line r e h = h
note_is_string s awaited.Flags d note line r e h = h
note_is_string s awaited.Owner d note line r e h = h
note_is_string s awaited.Location d note line r e h = h
note_is_string s awaited.Contents d note line r e h = h
note_is_string s awaited.Next d note line r e h = h
note_is_string s awaited.Parent d note line r e h = h
note_is_string s awaited.Child d note line r e h = h
note_is_string s awaited.Sibling d note line r e h = h
note_is_string s awaited.VerbCount d note line r e h = h
note_is_string s awaited.VerbNames d note line r e h = h
note_is_string s awaited.VerbOwner d note line r e h = h
note_is_string s awaited.VerbBits d note line r e h = h
note_is_string s awaited.VerbPreposition d note line r e h = h
note_is_string s awaited.NameCount d note line r e h = h
note_is_string s awaited.PropertyName d note line r e h = h
note_is_string s awaited.CellCount d note line r e h = h
note_is_string s awaited.Value d note line r e h = h
note_is_string s awaited.Inside d note line r e h = h
note_is_string s awaited.CellOwner d note line r e h = h
note_is_string s awaited.CellPerms d note line r e h = h
