-- From the first line of an object to its last.
use Rattle.std.proofs.Common.{◌≡◌, List, [], ◌∷◌, ◌++◌, Option, Some, None, Result, Ok, sym, ap, subst, ◌∙◌, append_assoc}
use Rattle.moo_dbtext_object.specs.declared.fault.LineFault.{LineFault}
use Rattle.moo_dbtext_object.specs.Lines.{Line, Sizes, unlimited}
use Rattle.moo_dbtext_object.specs.Until.{Place, until}
use Rattle.moo_dbtext_object.proofs.Steps.{bind_ok, ok_is}
use Rattle.moo_dbtext_object.specs.Objects.{Object, object_lines, IsObject}
use Rattle.moo_dbtext_object.specs.ObjectReading.{Draft, fresh_draft, object_line}
use Rattle.moo_dbtext_object.proofs.ObjectDraft.{IsDraft, Adds, draft_read, note_after, fresh_is}
use Rattle.moo_dbtext_object.proofs.ObjectFound.{object_found}

-- the lines after those that were taken
pub record Ends (taken ls : List Line) (note : Line) (o : Object) (rest : List Line) : Type 0 where
  pub lines : taken ++ ls ≡ object_lines o note ++ rest
  pub is : IsObject unlimited o

some_is : (x y : Object) → Some x ≡ Some y → x ≡ y
some_is x y e = cc

none_is : {A : Type 0} (x : Object) → None ≡ Some x → A
none_is x e = absurd cc

abbrev nowhere : Draft → Place Draft Object
nowhere d = (d, None, [])

abbrev whole : Draft → Object → List Line → Place Draft Object
whole d o ls = (d, Some o, ls)

abbrev went_on : Sizes → List Line → Draft × Option Object → Result (Place Draft Object) LineFault
went_on s ls r = elim r.1 [ None ↦ until (object_line s) r.0 ls | Some x ↦ Ok (whole r.0 x ls) ]

ends : (s : Sizes) (ls : List Line) (d e : Draft) (note : Line) (o : Object) (rest : List Line) → IsDraft d → until (object_line s) d ls ≡ Ok (whole e o rest) → (n : Line) × Ends (draft_read d.awaited d note) ls n o rest
ends s [] d e note o rest h is =
    let pair = ok_is (nowhere d) (whole e o rest) is in
    none_is o (ap (λ (x : Place Draft Object). x.1) pair)
ends s (l ∷ ls) d e note o rest h is =
    let b = bind_ok (object_line s d l) (went_on s ls) (whole e o rest) is in
    let f = object_found s d.awaited d note l b.0 h.parts h.keeps b.1 in
    along (draft_read d.awaited d note) (note_after d.awaited note l) (λ m k g. ends s ls m e (note_after d.awaited note l) o rest k g) b.0 f b.2
  where
    along : (taken : List Line) (after : Line) → ((m : Draft) → IsDraft m → until (object_line s) m ls ≡ Ok (whole e o rest) → (n : Line) × Ends (draft_read m.awaited m after) ls n o rest)
        → (r : Draft × Option Object) → Adds taken l after r → went_on s ls r ≡ Ok (whole e o rest) → (n : Line) × Ends taken (l ∷ ls) n o rest
    along taken after on (m, None) f g =
        let more = on m f.is g in
        (more.0, record { lines = sym (append_assoc taken (l ∷ []) ls) ∙ ap (λ (ks : List Line). ks ++ ls) (sym f.read) ∙ more.1.lines; is = more.1.is })
    along taken after on (m, Some x) f g =
        let pair = ok_is (whole m x ls) (whole e o rest) g in
        let object_is : x ≡ o = some_is x o (ap (λ (y : Place Draft Object). y.1) pair) in
        let rest_is : ls ≡ rest = ap (λ (y : Place Draft Object). y.2) pair in (
          after,
          record {
            lines = sym (append_assoc taken (l ∷ []) ls) ∙ ap (λ (ks : List Line). ks ++ ls) (sym f.read) ∙ ap (λ (y : Object). object_lines y after ++ ls) object_is ∙ ap (λ (ks : List Line). object_lines o after ++ ks) rest_is;
            is = subst (IsObject unlimited) object_is f.is.0;
          },
        )

pub lines_found : (s : Sizes) (ls : List Line) (d : Draft) (o : Object) (rest : List Line) → until (object_line s) fresh_draft ls ≡ Ok (d, Some o, rest) → (note : Line) × (ls ≡ object_lines o note ++ rest) × IsObject unlimited o
lines_found s ls d o rest e = let f = ends s ls fresh_draft d [] o rest fresh_is e in (f.0, f.1.lines, f.1.is)
