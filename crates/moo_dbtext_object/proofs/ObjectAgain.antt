-- An object that was written is read again.
use Rattle.std.proofs.Common.{◌≡◌, ℕ, ℤ, pos, ◌≤◌, Bool, true, false, ◌&&◌, leb, List, [], ◌∷◌, ◌++◌, length, Option, Some, None, Result, Ok, Err, refl, sym, ap, subst, ◌∙◌, append_assoc, arith}
use Rattle.std.specs.Fmt.{signed_decimal}
use Rattle.std.specs.List.{flat_map, AllByRecursion}
use Rattle.std.proofs.lemmas.List.{append-nil, length-append}
use Rattle.std.proofs.lemmas.Bool.{le-leb}
use Rattle.moo_value.specs.Tree.{Tree, integer, object, error, string, list}
use Rattle.moo_dbtext_object.specs.declared.fault.LineFault.{LineFault}
use Rattle.moo_dbtext_object.specs.Lines.{Line, ◌>>=◌, Sizes, IsStringOf, count_line}
use Rattle.moo_dbtext_object.specs.ValueLines.{value_lines}
use Rattle.moo_dbtext_object.specs.Until.{Place, until}
use Rattle.moo_dbtext_object.specs.Reading.{Partial, begun, value_line}
use Rattle.moo_dbtext_object.proofs.TextLaws.{text_again, number_again, small_again, bounded_count_again}
use Rattle.moo_dbtext_object.proofs.Resuming.{resumed, Hosts, until_hosted}
use Rattle.moo_dbtext_object.proofs.ValueAgain.{value_again}
use Rattle.moo_dbtext_object.specs.Objects.{Verb, Cell, Body, Object, verb_lines, cell_value_lines, cell_lines, object_lines, IsVerb, IsCellValue, IsCell, OwnHaveValues, IsObject}
use Rattle.moo_dbtext_object.specs.ObjectReading.{PartVerb, Draft, empty_body, fresh_draft, after_verb, after_name, named_object, after_cell, after_value_line, object_step, object_line}
use Rattle.moo_dbtext_object.specs.declared.object_reader.Awaited.{Awaited}
use Rattle.moo_dbtext_object.specs.declared.object_reader.Awaited.TheVariants as awaited
use Rattle.moo_dbtext_object.proofs.NumberLaws.{bits_again, preposition_again}

-- a state between two verbs, names or cells
abbrev at : Awaited → Option Line → Body → ℕ → PartVerb → Option Tree → ℤ → Draft
at aw name b l v cell co = record { awaited = aw; name = name; body = b; left = l; verb = v; value = begun; cell = cell; cell_owner = co }

abbrev with_verbs : Body → List Verb → Body
with_verbs b vs = record b { verbs = b.verbs ++ vs }

abbrev with_names : Body → List Line → Body
with_names b ns = record b { names = b.names ++ ns }

abbrev with_cells : Body → List Cell → Body
with_cells b cs = record b { cells = b.cells ++ cs }

verbs_again : (s : Sizes) (vs : List Verb) → AllByRecursion (IsVerb s) vs → (aw : Awaited) (name : Option Line) (before b : Body) (l : ℕ) (v : PartVerb) (co : ℤ) (rest : List Line)
    → (k : ℕ) × (w : PartVerb) × (until (object_line s) (after_verb (at aw name before l v None co) b (length vs)) (flat_map verb_lines vs ++ rest) ≡ until (object_line s) (at awaited.NameCount name (with_verbs b vs) k w None co) rest)
unfolding object_step
verbs_again s [] h aw name before b l v co rest = (l, v, ap (λ (vs : List Verb). until (object_line s) (at awaited.NameCount name (record b { verbs = vs }) l v None co) rest) (sym (append-nil b.verbs)))
verbs_again s (x ∷ vs) h aw name before b l v co rest =
    let more = flat_map verb_lines vs ++ rest in
    let next = with_verbs b (x ∷ []) in
    let w : PartVerb = record { names = None; owner = x.owner; perms = x.perms } in
    let one : until (object_line s) (at awaited.VerbNames name b (length vs) v None co) (verb_lines x ++ more) ≡ until (object_line s) (after_verb (at awaited.VerbPreposition name b (length vs) w None co) next (length vs)) more =
    rw (text_again s x.names h.0.names, number_again x.owner h.0.owner, bits_again x.perms h.0.perms, preposition_again x.preposition h.0.preposition) refl in
    let others = verbs_again s vs h.1 awaited.VerbPreposition name b next (length vs) w co rest in
    (others.0, others.1, one ∙ others.2 ∙ ap (λ (all : List Verb). until (object_line s) (at awaited.NameCount name (record b { verbs = all }) others.0 others.1 None co) rest) (append_assoc b.verbs (x ∷ []) vs))

names_again : (s : Sizes) (ns : List Line) → AllByRecursion (IsStringOf s) ns → (aw : Awaited) (name : Option Line) (before b : Body) (l : ℕ) (v : PartVerb) (co : ℤ) (rest : List Line)
    → (k : ℕ) × (until (object_line s) (after_name (at aw name before l v None co) b (length ns)) (ns ++ rest) ≡ until (object_line s) (at awaited.CellCount name (with_names b ns) k v None co) rest)
unfolding object_step
names_again s [] h aw name before b l v co rest = (l, ap (λ (ns : List Line). until (object_line s) (at awaited.CellCount name (record b { names = ns }) l v None co) rest) (sym (append-nil b.names)))
names_again s (x ∷ ns) h aw name before b l v co rest =
    let next = with_names b (x ∷ []) in
    let one : until (object_line s) (at awaited.PropertyName name b (length ns) v None co) (x ∷ (ns ++ rest)) ≡ until (object_line s) (after_name (at awaited.PropertyName name b (length ns) v None co) next (length ns)) (ns ++ rest) =
    rw (text_again s x h.0) refl in
    let others = names_again s ns h.1 awaited.PropertyName name b next (length ns) v co rest in
    (others.0, one ∙ others.1 ∙ ap (λ (all : List Line). until (object_line s) (at awaited.CellCount name (record b { names = all }) others.0 v None co) rest) (append_assoc b.names (x ∷ []) ns))

-- ---- a value within an object

abbrev inside : Option Line → Body → ℕ → PartVerb → Option Tree → ℤ → Partial → Draft
inside name b l v cell co p = record { awaited = awaited.Inside; name = name; body = b; left = l; verb = v; value = p; cell = cell; cell_owner = co }

abbrev valued : Option Line → Body → ℕ → PartVerb → ℤ → Partial → Tree → Draft × Option Object
valued name b l v co p t = (record { awaited = awaited.CellOwner; name = name; body = b; left = l; verb = v; value = p; cell = Some t; cell_owner = co }, None)

abbrev unfinished : Draft → Result (Draft × Option Object) LineFault
unfinished d = Ok (d, None)

abbrev value_seen : Option Line → Body → ℕ → PartVerb → Option Tree → ℤ → Partial × Option Tree → Result (Draft × Option Object) LineFault
value_seen name b l v cell co r = elim r.1 [ None ↦ Ok (inside name b l v cell co r.0, None) | Some t ↦ Ok (valued name b l v co r.0 t) ]

value_hosted : (s : Sizes) (name : Option Line) (b : Body) (l : ℕ) (v : PartVerb) (cell : Option Tree) (co : ℤ) → Hosts (value_line s) (object_line s) (inside name b l v cell co) (valued name b l v co)
unfolding object_step
value_hosted s name b l v cell co = record { steps = λ p line. each p (value_line s p line) }
  where
    each : (p : Partial) (r : Result (Partial × Option Tree) LineFault) → ((r >>= λ q. Ok (after_value_line (inside name b l v cell co p) q)) >>= unfinished) ≡ (r >>= value_seen name b l v cell co)
    each p (Ok (q, None)) = refl
    each p (Ok (q, Some t)) = refl
    each p (Err f) = refl

and-false : (b : Bool) → (b && false) ≡ false
and-false true = refl
and-false false = refl

-- the first line of a value is not that of a clear cell
not_clear : (s : Sizes) (name : Option Line) (b : Body) (l : ℕ) (v : PartVerb) (co : ℤ) (t : Tree) (rest : List Line)
    → until (object_line s) (at awaited.Value name b l v None co) (value_lines t ++ rest) ≡ until (object_line s) (inside name b l v None co begun) (value_lines t ++ rest)
unfolding object_step
not_clear s name b l v co (integer z) rest = rw (and-false (leb (length b.names) (length b.cells))) refl
not_clear s name b l v co (object z) rest = rw (and-false (leb (length b.names) (length b.cells))) refl
not_clear s name b l v co (string x) rest = rw (and-false (leb (length b.names) (length b.cells))) refl
not_clear s name b l v co (error e) rest = rw (and-false (leb (length b.names) (length b.cells))) refl
not_clear s name b l v co (list es) rest = rw (and-false (leb (length b.names) (length b.cells))) refl

value_lines_again : (s : Sizes) (c : Option Tree) → IsCellValue s c → (name : Option Line) (b : Body) (l : ℕ) (v : PartVerb) (co : ℤ) (rest : List Line) → (c ≡ None → length b.names ≤ length b.cells)
    → until (object_line s) (at awaited.Value name b l v None co) (cell_value_lines c ++ rest) ≡ until (object_line s) (at awaited.CellOwner name b l v c co) rest
unfolding object_step
value_lines_again s None h name b l v co rest own = rw (le-leb (length b.names) (length b.cells) (own refl)) refl
value_lines_again s (Some t) h name b l v co rest own =
    not_clear s name b l v co t rest ∙ until_hosted (value_line s) (object_line s) (inside name b l v None co) (valued name b l v co) (value_hosted s name b l v None co) begun (value_lines t ++ rest) ∙ rw (value_again s t h.0 h.1 rest) refl

abbrev whole : Body → Line → List Line → Place Draft Object
whole b n rest = (fresh_draft, Some (named_object b n), rest)

cells_again : (s : Sizes) (cs : List Cell) → AllByRecursion (IsCell s) cs → (aw : Awaited) (n : Line) (before b : Body) (l : ℕ) (v : PartVerb) (co : ℤ) (rest : List Line) → OwnHaveValues (length b.names) (length b.cells) cs
    → resumed (object_line s) (Ok (after_cell (at aw (Some n) before l v None co) b (length cs))) (flat_map cell_lines cs ++ rest) ≡ Ok (whole (with_cells b cs) n rest)
unfolding object_step
cells_again s [] h aw n before b l v co rest own = ap (λ (cs : List Cell). Ok (whole (record b { cells = cs }) n rest)) (sym (append-nil b.cells))
cells_again s (c ∷ cs) h aw n before b l v co rest own =
    let more = flat_map cell_lines cs ++ rest in
    let next = with_cells b (c ∷ []) in
    let lines : (cell_lines c ++ flat_map cell_lines cs) ++ rest ≡ cell_value_lines c.value ++ (signed_decimal c.owner ∷ count_line c.perms ∷ more) =
    append_assoc (cell_lines c) (flat_map cell_lines cs) rest ∙ append_assoc (cell_value_lines c.value) (signed_decimal c.owner ∷ count_line c.perms ∷ []) more in
    let owner : until (object_line s) (at awaited.CellOwner (Some n) b (length cs) v c.value co) (signed_decimal c.owner ∷ count_line c.perms ∷ more)
    ≡ resumed (object_line s) (Ok (after_cell (at awaited.CellPerms (Some n) b (length cs) v None c.owner) next (length cs))) more =
    rw (number_again c.owner h.0.owner, small_again 7 c.perms h.0.perms (omega arith)) refl in
    let own_next : OwnHaveValues (length b.names) (length next.cells) cs = subst (λ (i : ℕ). OwnHaveValues (length b.names) i cs) (sym (length-append b.cells (c ∷ []))) own.1 in
    ap (until (object_line s) (at awaited.Value (Some n) b (length cs) v None co)) lines ∙ value_lines_again s c.value h.0.value (Some n) b (length cs) v co (signed_decimal c.owner ∷ count_line c.perms ∷ more) own.0 ∙ owner
    ∙ cells_again s cs h.1 awaited.CellPerms n b next (length cs) v c.owner rest own_next
    ∙ ap (λ (all : List Cell). Ok (whole (record b { cells = all }) n rest)) (append_assoc b.cells (c ∷ []) cs)

-- a whole object, and the lines after it
pub object_again : (s : Sizes) (o : Object) (note : Line) → IsObject s o → IsStringOf s note → (rest : List Line) → until (object_line s) fresh_draft (object_lines o note ++ rest) ≡ Ok (fresh_draft, Some o, rest)
unfolding object_step
object_again s o note h hn rest =
    let b = o.body in
    let v0 = fresh_draft.verb in
    let name = Some o.name in
    let bare = record empty_body { flags = b.flags; owner = b.owner; location = b.location; contents = b.contents; next = b.next; parent = b.parent; child = b.child; sibling = b.sibling } in
    let last = count_line (length b.cells) ∷ flat_map cell_lines b.cells in
    let middle = count_line (length b.names) ∷ (b.names ++ last) in
    let first : until (object_line s) fresh_draft (object_lines o note ++ rest) ≡ until (object_line s) (after_verb (at awaited.VerbCount name bare 0 v0 None (pos 0)) bare (length b.verbs)) ((flat_map verb_lines b.verbs ++ middle) ++ rest) =
    rw (
      text_again s o.name h.name,
      text_again s note hn,
      small_again 255 b.flags h.numbers.flags (omega arith),
      number_again b.owner h.numbers.owner,
      number_again b.location h.numbers.location,
      number_again b.contents h.numbers.contents,
      number_again b.next h.numbers.next,
      number_again b.parent h.numbers.parent,
      number_again b.child h.numbers.child,
      number_again b.sibling h.numbers.sibling,
      bounded_count_again s (length b.verbs) h.verb_count,
    ) refl in
    let verbs = verbs_again s b.verbs h.verbs awaited.VerbCount name bare bare 0 v0 (pos 0) (middle ++ rest) in
    let with_v = with_verbs bare b.verbs in
    let second : until (object_line s) (at awaited.NameCount name with_v verbs.0 verbs.1 None (pos 0)) (middle ++ rest) ≡ until (object_line s) (after_name (at awaited.NameCount name with_v verbs.0 verbs.1 None (pos 0)) with_v (length b.names)) ((b.names ++ last) ++ rest) =
    rw (bounded_count_again s (length b.names) h.name_count) refl in
    let names = names_again s b.names h.names awaited.NameCount name with_v with_v verbs.0 verbs.1 (pos 0) (last ++ rest) in
    let with_n = with_names with_v b.names in
    let third : until (object_line s) (at awaited.CellCount name with_n names.0 verbs.1 None (pos 0)) (last ++ rest) ≡ resumed (object_line s) (Ok (after_cell (at awaited.CellCount name with_n names.0 verbs.1 None (pos 0)) with_n (length b.cells))) (flat_map cell_lines b.cells ++ rest) =
    rw (bounded_count_again s (length b.cells) h.cell_count) refl in
    first ∙ ap (until (object_line s) (after_verb (at awaited.VerbCount name bare 0 v0 None (pos 0)) bare (length b.verbs))) (append_assoc (flat_map verb_lines b.verbs) middle rest) ∙ verbs.2
    ∙ second ∙ ap (until (object_line s) (after_name (at awaited.NameCount name with_v verbs.0 verbs.1 None (pos 0)) with_v (length b.names))) (append_assoc b.names last rest) ∙ names.1
    ∙ third ∙ cells_again s b.cells h.cells awaited.CellCount o.name with_n with_n names.0 verbs.1 (pos 0) rest h.own
