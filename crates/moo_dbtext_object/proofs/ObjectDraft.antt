-- What a reader of objects keeps of the lines that it has taken.
use Rattle.std.proofs.Common.{◌≡◌, ℕ, ℤ, pos, zero, suc, ◌+◌, ◌<◌, ◌≤◌, ◌^◌, List, [], ◌∷◌, ◌++◌, length, Option, Some, None, unwrap_or, Result, Ok, Err, refl, sym, ap, subst, ◌∙◌, append_assoc, arith}
use Rattle.std.specs.Prelude.{FitsSigned, option_map}
use Rattle.std.specs.Int.{w32}
use Rattle.std.specs.Fmt.{signed_decimal}
use Rattle.std.specs.List.{flat_map, AllByRecursion}
use Rattle.std.proofs.lemmas.List.{append-nil}
use Rattle.moo_value.specs.Tree.{Tree, IsText}
use Rattle.moo_dbtext_object.specs.declared.fault.LineFault.{LineFault}
use Rattle.moo_dbtext_object.specs.Lines.{Line, ◌>>=◌, Sizes, unlimited, count_line}
use Rattle.moo_dbtext_object.specs.Reading.{Partial, begun, value_line}
use Rattle.moo_dbtext_object.proofs.Steps.{bind_ok, ok_is}
use Rattle.moo_dbtext_object.proofs.ValueFound.{value_read, IsRead, AreOpened, value_found}
use Rattle.moo_dbtext_object.specs.Objects.{Cell, Body, Object, verb_lines, cell_value_lines, cell_lines, number_lines, object_lines, IsVerbBits, IsVerb, IsCellValue, IsCell, OwnHaveValues, AreNumbers, IsObject}
use Rattle.moo_dbtext_object.specs.ObjectReading.{PartVerb, Draft, fresh_draft, after_verb, after_name, named_object, after_cell, verb_made, verbs_made, after_value_line, value_line_step}
use Rattle.moo_dbtext_object.specs.declared.object_reader.Awaited.{Awaited}
use Rattle.moo_dbtext_object.specs.declared.object_reader.Awaited.TheVariants as awaited

-- the name so far
abbrev pub name_of : Draft → Line
name_of d = unwrap_or d.name []

-- the first lines of an object, up to its verbs, its names, and its cells, if n of the kind come
abbrev pub headed : Line → Line → Body → List Line → List Line
headed name note b more = name ∷ note ∷ (number_lines b ++ more)

abbrev pub verbed : Line → Line → Body → ℕ → List Line → List Line
verbed name note b n more = headed name note b (count_line n ∷ (flat_map verb_lines b.verbs ++ more))

abbrev pub named : Line → Line → Body → ℕ → List Line → List Line
named name note b n more = verbed name note b (length b.verbs) (count_line n ∷ (b.names ++ more))

abbrev pub celled : Line → Line → Body → ℕ → List Line → List Line
celled name note b n more = named name note b (length b.names) (count_line n ∷ (flat_map cell_lines b.cells ++ more))

abbrev pub verb_names : PartVerb → Line
verb_names v = unwrap_or v.names []

-- the lines that a reader of objects has taken, with this note
abbrev pub draft_read : Awaited → Draft → Line → List Line
draft_read awaited.Name d note = []
draft_read awaited.Note d note = name_of d ∷ []
draft_read awaited.Flags d note = name_of d ∷ note ∷ []
draft_read awaited.Owner d note = name_of d ∷ note ∷ count_line d.body.flags ∷ []
draft_read awaited.Location d note = name_of d ∷ note ∷ count_line d.body.flags ∷ signed_decimal d.body.owner ∷ []
draft_read awaited.Contents d note = name_of d ∷ note ∷ count_line d.body.flags ∷ signed_decimal d.body.owner ∷ signed_decimal d.body.location ∷ []
draft_read awaited.Next d note = name_of d ∷ note ∷ count_line d.body.flags ∷ signed_decimal d.body.owner ∷ signed_decimal d.body.location ∷ signed_decimal d.body.contents ∷ []
draft_read awaited.Parent d note = name_of d ∷ note ∷ count_line d.body.flags ∷ signed_decimal d.body.owner ∷ signed_decimal d.body.location ∷ signed_decimal d.body.contents ∷ signed_decimal d.body.next ∷ []
draft_read awaited.Child d note = name_of d ∷ note ∷ count_line d.body.flags ∷ signed_decimal d.body.owner ∷ signed_decimal d.body.location ∷ signed_decimal d.body.contents ∷ signed_decimal d.body.next ∷ signed_decimal d.body.parent ∷ []
draft_read awaited.Sibling d note = name_of d ∷ note ∷ count_line d.body.flags ∷ signed_decimal d.body.owner ∷ signed_decimal d.body.location ∷ signed_decimal d.body.contents ∷ signed_decimal d.body.next ∷ signed_decimal d.body.parent ∷ signed_decimal d.body.child ∷ []
draft_read awaited.VerbCount d note = headed (name_of d) note d.body []
draft_read awaited.VerbNames d note = verbed (name_of d) note d.body (length d.body.verbs + suc d.left) []
draft_read awaited.VerbOwner d note = verbed (name_of d) note d.body (length d.body.verbs + suc d.left) (verb_names d.verb ∷ [])
draft_read awaited.VerbBits d note = verbed (name_of d) note d.body (length d.body.verbs + suc d.left) (verb_names d.verb ∷ signed_decimal d.verb.owner ∷ [])
draft_read awaited.VerbPreposition d note = verbed (name_of d) note d.body (length d.body.verbs + suc d.left) (verb_names d.verb ∷ signed_decimal d.verb.owner ∷ count_line d.verb.perms ∷ [])
draft_read awaited.NameCount d note = verbed (name_of d) note d.body (length d.body.verbs) []
draft_read awaited.PropertyName d note = named (name_of d) note d.body (length d.body.names + suc d.left) []
draft_read awaited.CellCount d note = named (name_of d) note d.body (length d.body.names) []
draft_read awaited.Value d note = celled (name_of d) note d.body (length d.body.cells + suc d.left) []
draft_read awaited.Inside d note = celled (name_of d) note d.body (length d.body.cells + suc d.left) (value_read (d.value, None))
draft_read awaited.CellOwner d note = celled (name_of d) note d.body (length d.body.cells + suc d.left) (cell_value_lines d.cell)
draft_read awaited.CellPerms d note = celled (name_of d) note d.body (length d.body.cells + suc d.left) (cell_value_lines d.cell ++ signed_decimal d.cell_owner ∷ [])

abbrev pub object_read : Draft × Option Object → Line → List Line
object_read (d, None) note = draft_read d.awaited d note
object_read (d, Some o) note = object_lines o note

-- the note, after a line
abbrev pub note_after : Awaited → Line → Line → Line
note_after awaited.Note note line = line
note_after awaited.Name note line = note
note_after awaited.Flags note line = note
note_after awaited.Owner note line = note
note_after awaited.Location note line = note
note_after awaited.Contents note line = note
note_after awaited.Next note line = note
note_after awaited.Parent note line = note
note_after awaited.Child note line = note
note_after awaited.Sibling note line = note
note_after awaited.VerbCount note line = note
note_after awaited.VerbNames note line = note
note_after awaited.VerbOwner note line = note
note_after awaited.VerbBits note line = note
note_after awaited.VerbPreposition note line = note
note_after awaited.NameCount note line = note
note_after awaited.PropertyName note line = note
note_after awaited.CellCount note line = note
note_after awaited.Value note line = note
note_after awaited.Inside note line = note
note_after awaited.CellOwner note line = note
note_after awaited.CellPerms note line = note

-- what a reader of objects keeps of the parts that it has
pub record HasParts (d : Draft) : Type 0 where
  pub name : IsText (name_of d)
  pub numbers : AreNumbers d.body
  pub verbs : AllByRecursion (IsVerb unlimited) d.body.verbs
  pub names : AllByRecursion IsText d.body.names
  pub cells : AllByRecursion (IsCell unlimited) d.body.cells
  pub own : OwnHaveValues (length d.body.names) 0 d.body.cells

pub record IsBare (d : Draft) : Type 0 where
  pub verbs : d.body.verbs ≡ []
  pub names : d.body.names ≡ []
  pub cells : d.body.cells ≡ []
  pub value : d.value ≡ begun

-- among n verbs, or after them
pub record IsAmongVerbs (n : ℕ) (d : Draft) : Type 0 where
  pub count : n < 2 ^ 31
  pub names : d.body.names ≡ []
  pub cells : d.body.cells ≡ []
  pub value : d.value ≡ begun
  pub name : d.name ≡ Some (name_of d)

-- among n names, or after them
pub record IsAmongNames (n : ℕ) (d : Draft) : Type 0 where
  pub count : n < 2 ^ 31
  pub verbs : length d.body.verbs < 2 ^ 31
  pub cells : d.body.cells ≡ []
  pub value : d.value ≡ begun
  pub name : d.name ≡ Some (name_of d)

pub record IsAmongCells (d : Draft) : Type 0 where
  pub count : length d.body.cells + suc d.left < 2 ^ 31
  pub verbs : length d.body.verbs < 2 ^ 31
  pub names : length d.body.names < 2 ^ 31
  pub name : d.name ≡ Some (name_of d)

-- a cell's value was read
pub record HasCell (d : Draft) : Type 0 where
  pub value : d.value ≡ begun
  pub cell : IsCellValue unlimited d.cell
  pub own : d.cell ≡ None → length d.body.names ≤ length d.body.cells

pub record HasVerbNames (v : PartVerb) : Type 0 where
  pub is : v.names ≡ Some (verb_names v)
  pub text : IsText (verb_names v)

abbrev HasName : Draft → Type 0
HasName d = d.name ≡ Some (name_of d)

-- what it keeps besides, by the line that comes next
abbrev pub Keeps : Awaited → Draft → Type 0
Keeps awaited.Name d = IsBare d
Keeps awaited.Note d = IsBare d × HasName d
Keeps awaited.Flags d = IsBare d × HasName d
Keeps awaited.Owner d = IsBare d × HasName d
Keeps awaited.Location d = IsBare d × HasName d
Keeps awaited.Contents d = IsBare d × HasName d
Keeps awaited.Next d = IsBare d × HasName d
Keeps awaited.Parent d = IsBare d × HasName d
Keeps awaited.Child d = IsBare d × HasName d
Keeps awaited.Sibling d = IsBare d × HasName d
Keeps awaited.VerbCount d = IsBare d × HasName d
Keeps awaited.VerbNames d = IsAmongVerbs (length d.body.verbs + suc d.left) d
Keeps awaited.VerbOwner d = IsAmongVerbs (length d.body.verbs + suc d.left) d × HasVerbNames d.verb
Keeps awaited.VerbBits d = IsAmongVerbs (length d.body.verbs + suc d.left) d × HasVerbNames d.verb × FitsSigned w32 d.verb.owner
Keeps awaited.VerbPreposition d = IsAmongVerbs (length d.body.verbs + suc d.left) d × HasVerbNames d.verb × FitsSigned w32 d.verb.owner × IsVerbBits d.verb.perms
Keeps awaited.NameCount d = IsAmongVerbs (length d.body.verbs) d
Keeps awaited.PropertyName d = IsAmongNames (length d.body.names + suc d.left) d
Keeps awaited.CellCount d = IsAmongNames (length d.body.names) d
Keeps awaited.Value d = IsAmongCells d × (d.value ≡ begun)
Keeps awaited.Inside d = IsAmongCells d × AreOpened d.value.lists
Keeps awaited.CellOwner d = IsAmongCells d × HasCell d
Keeps awaited.CellPerms d = IsAmongCells d × HasCell d × FitsSigned w32 d.cell_owner

pub record IsDraft (d : Draft) : Type 0 where
  pub parts : HasParts d
  pub keeps : Keeps d.awaited d

abbrev pub IsObjectRead : Draft × Option Object → Type 0
IsObjectRead (d, None) = IsDraft d
IsObjectRead (d, Some o) = IsObject unlimited o × (d ≡ fresh_draft)

-- the effect of a line, if the note is this one
pub record Adds (lines : List Line) (line note : Line) (r : Draft × Option Object) : Type 0 where
  pub read : object_read r note ≡ lines ++ line ∷ []
  pub is : IsObjectRead r

-- a field that was read
pub field : {A : Type 0} (lines : List Line) (line note : Line) (found : Result A LineFault) (f : A → Draft × Option Object) (r : Draft × Option Object) (good : (x : A) → found ≡ Ok x → Adds lines line note (f x)) → (found >>= λ x. Ok (f x)) ≡ Ok r → Adds lines line note r
field lines line note (Ok x) f r good e = subst (Adds lines line note) (ok_is (f x) r e) (good x refl)
field lines line note (Err d) f r good e = absurd cc

pub OwnHaveValues-none : (n m i : ℕ) (cs : List Cell) → cs ≡ [] → OwnHaveValues n i cs → OwnHaveValues m i cs
OwnHaveValues-none n m i [] e h = tt
OwnHaveValues-none n m i (c ∷ cs) e h = absurd cc

pub OwnHaveValues-push : (own i : ℕ) (cs : List Cell) (c : Cell) → OwnHaveValues own i cs → (c.value ≡ None → own ≤ i + length cs) → OwnHaveValues own i (cs ++ c ∷ [])
OwnHaveValues-push own i [] c h last = (λ e. let le : own ≤ i + 0 = last e in omega arith, tt)
OwnHaveValues-push own i (d ∷ cs) c h last = (h.0, OwnHaveValues-push own (i + 1) cs c h.1 (λ e. let le : own ≤ i + length (d ∷ cs) = last e in omega arith))

zero_fits : FitsSigned w32 (pos 0)
zero_fits = record { sfits = omega arith }

empty_text : IsText []
empty_text = λ i d lt. absurd (omega arith)

pub fresh_parts : HasParts fresh_draft
fresh_parts = record {
  name = empty_text;
  numbers = record { flags = omega arith; owner = zero_fits; location = zero_fits; contents = zero_fits; next = zero_fits; parent = zero_fits; child = zero_fits; sibling = zero_fits };
  verbs = tt;
  names = tt;
  cells = tt;
  own = tt;
}

pub fresh_is : IsDraft fresh_draft
fresh_is = record { parts = fresh_parts; keeps = record { verbs = refl; names = refl; cells = refl; value = refl } }

pub numbers_flags : (b : Body) (x : ℕ) → AreNumbers b → x ≤ 255 → AreNumbers (record b { flags = x })
numbers_flags b x p h = record { flags = h; owner = p.owner; location = p.location; contents = p.contents; next = p.next; parent = p.parent; child = p.child; sibling = p.sibling }

pub numbers_owner : (b : Body) (x : ℤ) → AreNumbers b → FitsSigned w32 x → AreNumbers (record b { owner = x })
numbers_owner b x p h = record { flags = p.flags; owner = h; location = p.location; contents = p.contents; next = p.next; parent = p.parent; child = p.child; sibling = p.sibling }

pub numbers_location : (b : Body) (x : ℤ) → AreNumbers b → FitsSigned w32 x → AreNumbers (record b { location = x })
numbers_location b x p h = record { flags = p.flags; owner = p.owner; location = h; contents = p.contents; next = p.next; parent = p.parent; child = p.child; sibling = p.sibling }

pub numbers_contents : (b : Body) (x : ℤ) → AreNumbers b → FitsSigned w32 x → AreNumbers (record b { contents = x })
numbers_contents b x p h = record { flags = p.flags; owner = p.owner; location = p.location; contents = h; next = p.next; parent = p.parent; child = p.child; sibling = p.sibling }

pub numbers_next : (b : Body) (x : ℤ) → AreNumbers b → FitsSigned w32 x → AreNumbers (record b { next = x })
numbers_next b x p h = record { flags = p.flags; owner = p.owner; location = p.location; contents = p.contents; next = h; parent = p.parent; child = p.child; sibling = p.sibling }

pub numbers_parent : (b : Body) (x : ℤ) → AreNumbers b → FitsSigned w32 x → AreNumbers (record b { parent = x })
numbers_parent b x p h = record { flags = p.flags; owner = p.owner; location = p.location; contents = p.contents; next = p.next; parent = h; child = p.child; sibling = p.sibling }

pub numbers_child : (b : Body) (x : ℤ) → AreNumbers b → FitsSigned w32 x → AreNumbers (record b { child = x })
numbers_child b x p h = record { flags = p.flags; owner = p.owner; location = p.location; contents = p.contents; next = p.next; parent = p.parent; child = h; sibling = p.sibling }

pub numbers_sibling : (b : Body) (x : ℤ) → AreNumbers b → FitsSigned w32 x → AreNumbers (record b { sibling = x })
numbers_sibling b x p h = record { flags = p.flags; owner = p.owner; location = p.location; contents = p.contents; next = p.next; parent = p.parent; child = p.child; sibling = h }

-- a body without its lists
abbrev bare_numbers : Body → Body
bare_numbers b = record b { verbs = []; names = []; cells = [] }

pub renumber : (b : Body) → AreNumbers b → (c : Body) → bare_numbers c ≡ bare_numbers b → AreNumbers c
renumber b p c e = let q : AreNumbers (bare_numbers b) = record { flags = p.flags; owner = p.owner; location = p.location; contents = p.contents; next = p.next; parent = p.parent; child = p.child; sibling = p.sibling } in let r = subst AreNumbers (sym e) q in record { flags = r.flags; owner = r.owner; location = r.location; contents = r.contents; next = r.next; parent = r.parent; child = r.child; sibling = r.sibling }

-- other numbers, with the same verbs, names and cells
pub renumbered : (d e : Draft) → HasParts d → name_of e ≡ name_of d → e.body.verbs ≡ d.body.verbs → e.body.names ≡ d.body.names → e.body.cells ≡ d.body.cells → AreNumbers e.body → HasParts e
renumbered d e p name verbs names cells h = record {
  name = subst IsText (sym name) p.name;
  numbers = h;
  verbs = subst (AllByRecursion (IsVerb unlimited)) (sym verbs) p.verbs;
  names = subst (AllByRecursion IsText) (sym names) p.names;
  cells = subst (AllByRecursion (IsCell unlimited)) (sym cells) p.cells;
  own = subst (λ (cs : List Cell). OwnHaveValues (length e.body.names) 0 cs) (sym cells) (subst (λ (ns : List Line). OwnHaveValues (length ns) 0 d.body.cells) (sym names) p.own);
}

-- n verbs are still to come
pub after_verb_adds : (d : Draft) (b : Body) (n : ℕ) (lines : List Line) (line note : Line) → HasParts (record d { body = b }) → length b.verbs + n < 2 ^ 31 → b.names ≡ [] → b.cells ≡ [] → d.value ≡ begun → HasName d
    → verbed (name_of d) note b (length b.verbs + n) [] ≡ lines ++ line ∷ [] → Adds lines line note (after_verb d b n, None)
after_verb_adds d b zero lines line note parts count names cells idle name read = record {
  read = ap (λ (k : ℕ). verbed (name_of d) note b k []) (omega arith) ∙ read;
  is = record { parts = renumbered (record d { body = b }) (after_verb d b zero) parts refl refl refl refl parts.numbers; keeps = record { count = omega arith; names = names; cells = cells; value = idle; name = name } };
}
after_verb_adds d b (suc n) lines line note parts count names cells idle name read = record {
  read = read;
  is = record { parts = renumbered (record d { body = b }) (after_verb d b (suc n)) parts refl refl refl refl parts.numbers; keeps = record { count = count; names = names; cells = cells; value = idle; name = name } };
}

-- n names are still to come
pub after_name_adds : (d : Draft) (b : Body) (n : ℕ) (lines : List Line) (line note : Line) → HasParts (record d { body = b }) → length b.names + n < 2 ^ 31 → length b.verbs < 2 ^ 31 → b.cells ≡ [] → d.value ≡ begun → HasName d
    → named (name_of d) note b (length b.names + n) [] ≡ lines ++ line ∷ [] → Adds lines line note (after_name d b n, None)
after_name_adds d b zero lines line note parts count verbs cells idle name read = record {
  read = ap (λ (k : ℕ). named (name_of d) note b k []) (omega arith) ∙ read;
  is = record { parts = renumbered (record d { body = b }) (after_name d b zero) parts refl refl refl refl parts.numbers; keeps = record { count = omega arith; verbs = verbs; cells = cells; value = idle; name = name } };
}
after_name_adds d b (suc n) lines line note parts count verbs cells idle name read = record {
  read = read;
  is = record { parts = renumbered (record d { body = b }) (after_name d b (suc n)) parts refl refl refl refl parts.numbers; keeps = record { count = count; verbs = verbs; cells = cells; value = idle; name = name } };
}

-- n cells are still to come
pub after_cell_adds : (d : Draft) (b : Body) (n : ℕ) (lines : List Line) (line note : Line) → HasParts (record d { body = b }) → length b.cells + n < 2 ^ 31 → length b.verbs < 2 ^ 31 → length b.names < 2 ^ 31 → d.value ≡ begun → HasName d
    → celled (name_of d) note b (length b.cells + n) [] ≡ lines ++ line ∷ [] → Adds lines line note (after_cell d b n)
after_cell_adds d b zero lines line note parts cells verbs names idle name read =
    subst (λ (x : Option Line). Adds lines line note (fresh_draft, option_map (named_object b) x)) (sym name) (record {
      read = ap (λ (cs : List Line). named (name_of d) note b (length b.names) (count_line (length b.cells) ∷ cs)) (sym (append-nil (flat_map cell_lines b.cells))) ∙ ap (λ (k : ℕ). celled (name_of d) note b k []) (omega arith) ∙ read;
      is = (
        record { name = parts.name; numbers = parts.numbers; verbs = parts.verbs; names = parts.names; cells = parts.cells; own = parts.own; verb_count = verbs; name_count = names; cell_count = omega arith },
        refl,
      );
    })
after_cell_adds d b (suc n) lines line note parts cells verbs names idle name read = record {
  read = read;
  is = record { parts = renumbered (record d { body = b }) (record d { awaited = awaited.Value; body = b; left = n }) parts refl refl refl refl parts.numbers; keeps = (record { count = cells; verbs = verbs; names = names; name = name }, idle) };
}

-- ---- a line after others

pub verbed_more : (name note : Line) (b : Body) (n : ℕ) (more : List Line) (line : Line) → verbed name note b n (more ++ line ∷ []) ≡ verbed name note b n more ++ line ∷ []
verbed_more name note b n more line = ap (λ (ls : List Line). headed name note b (count_line n ∷ ls)) (sym (append_assoc (flat_map verb_lines b.verbs) more (line ∷ [])))

pub named_more : (name note : Line) (b : Body) (n : ℕ) (more : List Line) (line : Line) → named name note b n (more ++ line ∷ []) ≡ named name note b n more ++ line ∷ []
named_more name note b n more line =
    ap (λ (ls : List Line). verbed name note b (length b.verbs) (count_line n ∷ ls)) (sym (append_assoc b.names more (line ∷ []))) ∙ verbed_more name note b (length b.verbs) (count_line n ∷ (b.names ++ more)) line

pub celled_more : (name note : Line) (b : Body) (n : ℕ) (more : List Line) (line : Line) → celled name note b n (more ++ line ∷ []) ≡ celled name note b n more ++ line ∷ []
celled_more name note b n more line =
    ap (λ (ls : List Line). named name note b (length b.names) (count_line n ∷ ls)) (sym (append_assoc (flat_map cell_lines b.cells) more (line ∷ []))) ∙ named_more name note b (length b.names) (count_line n ∷ (flat_map cell_lines b.cells ++ more)) line

pub bare : (d e : Draft) → IsBare d → e.body.verbs ≡ d.body.verbs → e.body.names ≡ d.body.names → e.body.cells ≡ d.body.cells → e.value ≡ d.value → IsBare e
bare d e k verbs names cells value = record { verbs = verbs ∙ k.verbs; names = names ∙ k.names; cells = cells ∙ k.cells; value = value ∙ k.value }

abbrev pub unfinished : Draft → Result (Draft × Option Object) LineFault
unfinished d = Ok (d, None)

abbrev lined : Draft → Partial × Option Tree → Result Draft LineFault
lined d r = Ok (after_value_line d r)

abbrev value_so_far : Draft → Line → List Line
value_so_far d note = celled (name_of d) note d.body (length d.body.cells + suc d.left) (value_read (d.value, None))

pub value_line_adds : (s : Sizes) (d : Draft) (line note : Line) (r : Draft × Option Object) → HasParts d → IsAmongCells d → AreOpened d.value.lists → (value_line_step s d line >>= unfinished) ≡ Ok r → Adds (value_so_far d note) line note r
value_line_adds s d line note r parts counts opened e =
    let b = bind_ok (value_line_step s d line) unfinished r e in
    let q = bind_ok (value_line s d.value line) (lined d) b.0 b.1 in
    let f = value_found s d.value.expected d.value line q.0 q.1 opened in
    subst (Adds (value_so_far d note) line note) (ok_is (b.0, None) r b.2)
    (subst (λ (x : Draft). Adds (value_so_far d note) line note (x, None)) (ok_is (after_value_line d q.0) b.0 q.2) (each q.0 f.read f.is))
  where
    each : (q : Partial × Option Tree) → value_read q ≡ value_read (d.value, None) ++ line ∷ [] → IsRead q → Adds (value_so_far d note) line note (after_value_line d q, None)
    each (p, None) read is = record {
      read = ap (celled (name_of d) note d.body (length d.body.cells + suc d.left)) read ∙ celled_more (name_of d) note d.body (length d.body.cells + suc d.left) (value_read (d.value, None)) line;
      is = record { parts = renumbered d (after_value_line d (p, None)) parts refl refl refl refl parts.numbers; keeps = (record { count = counts.count; verbs = counts.verbs; names = counts.names; name = counts.name }, is) };
    }
    each (p, Some t) read is = record {
      read = ap (celled (name_of d) note d.body (length d.body.cells + suc d.left)) read ∙ celled_more (name_of d) note d.body (length d.body.cells + suc d.left) (value_read (d.value, None)) line;
      is = record { parts = renumbered d (after_value_line d (p, Some t)) parts refl refl refl refl parts.numbers; keeps = (record { count = counts.count; verbs = counts.verbs; names = counts.names; name = counts.name }, record { value = is.1; cell = (is.0, tt); own = λ none. absurd cc }) };
    }

-- the verb that was read
pub made : (v : PartVerb) (z : ℤ) (n : Option Line) (x : Line) → n ≡ Some x → verbs_made n v z ≡ verb_made v z x ∷ []
made v z None x e = absurd cc
made v z (Some y) x e = let same : y ≡ x = cc in ap (λ (l : Line). verb_made v z l ∷ []) same
