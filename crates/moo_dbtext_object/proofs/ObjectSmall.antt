-- An object that is read under the limits on sizes is within them.
use Rattle.std.proofs.Common.{◌≡◌, ℕ, ℤ, zero, suc, ◌+◌, ◌≤◌, Bool, true, false, cond, List, [], ◌∷◌, ◌++◌, length, Option, Some, None, Result, Ok, Err, refl, sym, ap, subst, arith}
use Rattle.std.specs.Prelude.{option_map}
use Rattle.std.specs.List.{AllByRecursion}
use Rattle.std.proofs.lemmas.List.{append-nil, length-append}
use Rattle.moo_value.specs.Tree.{Tree}
use Rattle.moo_value.specs.Size.{IsWithinLimits, IsString}
use Rattle.moo_dbtext_object.specs.declared.fault.LineFault.{LineFault}
use Rattle.moo_dbtext_object.specs.Lines.{Line, ◌>>=◌, limited, unlimited, most_records, number_of, bounded_count_of, small_of, text_of}
use Rattle.moo_dbtext_object.specs.Reading.{Partial, value_line}
use Rattle.moo_dbtext_object.proofs.Steps.{bind_ok, ok_is}
use Rattle.moo_dbtext_object.proofs.ValueFound.{All-push}
use Rattle.moo_dbtext_object.proofs.ValueSmall.{text_small, count_small, value_small}
use Rattle.moo_dbtext_object.specs.Objects.{Verb, Cell, Body, Object, IsVerb, IsCellValue, IsCell, IsObject}
use Rattle.moo_dbtext_object.specs.ObjectReading.{PartVerb, Draft, fresh_draft, verb_bits_of, preposition_of, after_verb, after_name, named_object, after_cell, verb_made, verbs_made, after_value_line, value_line_step, is_clear, object_step}
use Rattle.moo_dbtext_object.specs.declared.object_reader.Awaited.{Awaited}
use Rattle.moo_dbtext_object.specs.declared.object_reader.Awaited.TheVariants as awaited
use Rattle.moo_dbtext_object.proofs.ObjectDraft.{Keeps}

abbrev pub HasSmallNames : Verb → Type 0
HasSmallNames v = IsString v.names

abbrev pub IsSmallValue : Option Tree → Type 0
IsSmallValue value = (t : Tree) → value ≡ Some t → IsWithinLimits t

abbrev pub HasSmallValue : Cell → Type 0
HasSmallValue c = IsSmallValue c.value

abbrev pub IsSmallName : Option Line → Type 0
IsSmallName name = (x : Line) → name ≡ Some x → IsString x

-- strings and values are within the limits
pub record AreSmall (x y : Option Line) (vs : List Verb) (ns : List Line) (t : Option Tree) (cs : List Cell) : Type 0 where
  pub name : IsSmallName x
  pub part : IsSmallName y
  pub verbs : AllByRecursion HasSmallNames vs
  pub names : AllByRecursion IsString ns
  pub cell : IsSmallValue t
  pub cells : AllByRecursion HasSmallValue cs

abbrev pub IsSmallDraft : Draft → Type 0
IsSmallDraft d = AreSmall d.name d.verb.names d.body.verbs d.body.names d.cell d.body.cells

-- so are numbers of verbs, names and cells, by the line that comes next
pub record AreFew (v n c : ℕ) : Type 0 where
  pub verbs : v ≤ most_records
  pub names : n ≤ most_records
  pub cells : c ≤ most_records

abbrev pub Counts : Awaited → Draft → Type 0
Counts awaited.Name d = Unit {0}
Counts awaited.Note d = Unit {0}
Counts awaited.Flags d = Unit {0}
Counts awaited.Owner d = Unit {0}
Counts awaited.Location d = Unit {0}
Counts awaited.Contents d = Unit {0}
Counts awaited.Next d = Unit {0}
Counts awaited.Parent d = Unit {0}
Counts awaited.Child d = Unit {0}
Counts awaited.Sibling d = Unit {0}
Counts awaited.VerbCount d = Unit {0}
Counts awaited.VerbNames d = AreFew (length d.body.verbs + suc d.left) 0 0
Counts awaited.VerbOwner d = AreFew (length d.body.verbs + suc d.left) 0 0
Counts awaited.VerbBits d = AreFew (length d.body.verbs + suc d.left) 0 0
Counts awaited.VerbPreposition d = AreFew (length d.body.verbs + suc d.left) 0 0
Counts awaited.NameCount d = AreFew (length d.body.verbs) 0 0
Counts awaited.PropertyName d = AreFew (length d.body.verbs) (length d.body.names + suc d.left) 0
Counts awaited.CellCount d = AreFew (length d.body.verbs) (length d.body.names) 0
Counts awaited.Value d = AreFew (length d.body.verbs) (length d.body.names) (length d.body.cells + suc d.left)
Counts awaited.Inside d = AreFew (length d.body.verbs) (length d.body.names) (length d.body.cells + suc d.left)
Counts awaited.CellOwner d = AreFew (length d.body.verbs) (length d.body.names) (length d.body.cells + suc d.left)
Counts awaited.CellPerms d = AreFew (length d.body.verbs) (length d.body.names) (length d.body.cells + suc d.left)

-- an object within the limits
pub record IsSmallObject (o : Object) : Type 0 where
  pub name : IsString o.name
  pub verbs : AllByRecursion HasSmallNames o.body.verbs
  pub names : AllByRecursion IsString o.body.names
  pub cells : AllByRecursion HasSmallValue o.body.cells
  pub few : AreFew (length o.body.verbs) (length o.body.names) (length o.body.cells)

pub record IsSmallPart (d : Draft) : Type 0 where
  pub small : IsSmallDraft d
  pub counts : Counts d.awaited d

abbrev pub IsSmallRead : Draft × Option Object → Type 0
IsSmallRead (d, None) = IsSmallPart d
IsSmallRead (d, Some o) = IsSmallObject o × (d ≡ fresh_draft)

by_field : {A : Type 0} (found : Result A LineFault) (f : A → Draft × Option Object) (r : Draft × Option Object) → ((x : A) → found ≡ Ok x → IsSmallRead (f x)) → (found >>= λ x. Ok (f x)) ≡ Ok r → IsSmallRead r
by_field (Ok x) f r good e = subst IsSmallRead (ok_is (f x) r e) (good x refl)
by_field (Err d) f r good e = absurd cc

some_small : (x : Line) → IsString x → IsSmallName (Some x)
some_small x h y e = let some : Line → Option Line = λ z. Some z in let f : some x ≡ some y = e in subst IsString (let same : x ≡ y = cc in same) h

none_small : IsSmallName None
none_small y e = absurd cc

no_cell : IsSmallValue None
no_cell t e = absurd cc

pub fresh_small : IsSmallPart fresh_draft
fresh_small = record { small = record { name = none_small; part = none_small; verbs = tt; names = tt; cell = no_cell; cells = tt }; counts = tt }

verbs_small : (names : Option Line) (v : PartVerb) (z : ℤ) (vs : List Verb) → IsSmallName names → AllByRecursion HasSmallNames vs → AllByRecursion HasSmallNames (vs ++ verbs_made names v z)
verbs_small None v z vs h hs = subst (AllByRecursion HasSmallNames) (sym (append-nil vs)) hs
verbs_small (Some x) v z vs h hs = All-push HasSmallNames vs (verb_made v z x) hs (h x refl)

verbs_count : (names : Option Line) (v : PartVerb) (z : ℤ) (vs : List Verb) → length (vs ++ verbs_made names v z) ≤ length vs + 1
verbs_count None v z vs = let e = length-append vs [] in omega arith
verbs_count (Some x) v z vs = let e = length-append vs (verb_made v z x ∷ []) in omega arith

after_verb_small : (d : Draft) (b : Body) (n : ℕ) → AreSmall d.name d.verb.names b.verbs b.names d.cell b.cells → length b.verbs + n ≤ most_records → IsSmallPart (after_verb d b n)
after_verb_small d b zero h few = record { small = h; counts = record { verbs = omega arith; names = omega arith; cells = omega arith } }
after_verb_small d b (suc n) h few = record { small = h; counts = record { verbs = few; names = omega arith; cells = omega arith } }

after_name_small : (d : Draft) (b : Body) (n : ℕ) → AreSmall d.name d.verb.names b.verbs b.names d.cell b.cells → length b.verbs ≤ most_records → length b.names + n ≤ most_records → IsSmallPart (after_name d b n)
after_name_small d b zero h verbs few = record { small = h; counts = record { verbs = verbs; names = omega arith; cells = omega arith } }
after_name_small d b (suc n) h verbs few = record { small = h; counts = record { verbs = verbs; names = few; cells = omega arith } }

after_cell_small : (d : Draft) (b : Body) (n : ℕ) → AreSmall d.name d.verb.names b.verbs b.names d.cell b.cells → length b.verbs ≤ most_records → length b.names ≤ most_records → length b.cells + n ≤ most_records → IsSmallRead (after_cell d b n)
after_cell_small d b zero h verbs names few = whole d.name h.name
  where
    whole : (name : Option Line) → IsSmallName name → IsSmallRead (fresh_draft, option_map (named_object b) name)
    whole None k = fresh_small
    whole (Some x) k = (record { name = k x refl; verbs = h.verbs; names = h.names; cells = h.cells; few = record { verbs = verbs; names = names; cells = omega arith } }, refl)
after_cell_small d b (suc n) h verbs names few = record { small = h; counts = record { verbs = verbs; names = names; cells = few } }

value_line_small : (d : Draft) (line : Line) (e : Draft) → IsSmallDraft d → AreFew (length d.body.verbs) (length d.body.names) (length d.body.cells + suc d.left) → value_line_step limited d line ≡ Ok e → IsSmallPart e
value_line_small d line e h few is =
    let b = bind_ok (value_line limited d.value line) (λ r. Ok (after_value_line d r)) e is in
    subst IsSmallPart (ok_is (after_value_line d b.0) e b.2) (each b.0 (λ t f. value_small d.value.expected d.value line b.0 t b.1 f))
  where
    each : (r : Partial × Option Tree) → IsSmallValue r.1 → IsSmallPart (after_value_line d r)
    each (p, None) k = record { small = h; counts = few }
    each (p, Some t) k = record { small = record { name = h.name; part = h.part; verbs = h.verbs; names = h.names; cell = k; cells = h.cells }; counts = few }

pub object_small : (x : Awaited) (d : Draft) (line : Line) (r : Draft × Option Object) → IsSmallDraft d → Counts x d → Keeps x d → object_step limited x d line ≡ Ok r → IsSmallRead r
unfolding object_step
object_small awaited.Name d line r h few k e = by_field (text_of limited line) (λ x. (record d { awaited = awaited.Note; name = Some x }, None)) r
    (λ x is. record { small = record { name = some_small x (text_small line x is); part = h.part; verbs = h.verbs; names = h.names; cell = h.cell; cells = h.cells }; counts = tt }) e
object_small awaited.Note d line r h few k e = by_field (text_of limited line) (λ x. (record d { awaited = awaited.Flags }, None)) r (λ x is. record { small = h; counts = tt }) e
object_small awaited.Flags d line r h few k e = by_field (small_of 255 line) (λ n. (record d { awaited = awaited.Owner; body = record d.body { flags = n } }, None)) r (λ n is. record { small = h; counts = tt }) e
object_small awaited.Owner d line r h few k e = by_field (number_of line) (λ z. (record d { awaited = awaited.Location; body = record d.body { owner = z } }, None)) r (λ z is. record { small = h; counts = tt }) e
object_small awaited.Location d line r h few k e = by_field (number_of line) (λ z. (record d { awaited = awaited.Contents; body = record d.body { location = z } }, None)) r (λ z is. record { small = h; counts = tt }) e
object_small awaited.Contents d line r h few k e = by_field (number_of line) (λ z. (record d { awaited = awaited.Next; body = record d.body { contents = z } }, None)) r (λ z is. record { small = h; counts = tt }) e
object_small awaited.Next d line r h few k e = by_field (number_of line) (λ z. (record d { awaited = awaited.Parent; body = record d.body { next = z } }, None)) r (λ z is. record { small = h; counts = tt }) e
object_small awaited.Parent d line r h few k e = by_field (number_of line) (λ z. (record d { awaited = awaited.Child; body = record d.body { parent = z } }, None)) r (λ z is. record { small = h; counts = tt }) e
object_small awaited.Child d line r h few k e = by_field (number_of line) (λ z. (record d { awaited = awaited.Sibling; body = record d.body { child = z } }, None)) r (λ z is. record { small = h; counts = tt }) e
object_small awaited.Sibling d line r h few k e = by_field (number_of line) (λ z. (record d { awaited = awaited.VerbCount; body = record d.body { sibling = z } }, None)) r (λ z is. record { small = h; counts = tt }) e
object_small awaited.VerbCount d line r h few k e = by_field (bounded_count_of limited line) (λ n. (after_verb d d.body n, None)) r
    (λ n is. let none : length d.body.verbs ≡ 0 = ap length k.0.verbs in let n_few = count_small line n is in after_verb_small d d.body n h (omega arith)) e
object_small awaited.VerbNames d line r h few k e = by_field (text_of limited line) (λ x. (record d { awaited = awaited.VerbOwner; verb = record d.verb { names = Some x } }, None)) r
    (λ x is. record { small = record { name = h.name; part = some_small x (text_small line x is); verbs = h.verbs; names = h.names; cell = h.cell; cells = h.cells }; counts = few }) e
object_small awaited.VerbOwner d line r h few k e = by_field (number_of line) (λ z. (record d { awaited = awaited.VerbBits; verb = record d.verb { owner = z } }, None)) r (λ z is. record { small = h; counts = few }) e
object_small awaited.VerbBits d line r h few k e = by_field (verb_bits_of line) (λ n. (record d { awaited = awaited.VerbPreposition; verb = record d.verb { perms = n } }, None)) r (λ n is. record { small = h; counts = few }) e
object_small awaited.VerbPreposition d line r h few k e = by_field (preposition_of line) (λ z. (after_verb (record d { verb = record d.verb { names = None } }) (record d.body { verbs = d.body.verbs ++ verbs_made d.verb.names d.verb z }) d.left, None)) r
    (λ z is. let n = few.verbs in let more = verbs_count d.verb.names d.verb z d.body.verbs in
    after_verb_small (record d { verb = record d.verb { names = None } }) (record d.body { verbs = d.body.verbs ++ verbs_made d.verb.names d.verb z }) d.left
    (record { name = h.name; part = none_small; verbs = verbs_small d.verb.names d.verb z d.body.verbs h.part h.verbs; names = h.names; cell = h.cell; cells = h.cells }) (omega arith)) e
object_small awaited.NameCount d line r h few k e = by_field (bounded_count_of limited line) (λ n. (after_name d d.body n, None)) r
    (λ n is. let none : length d.body.names ≡ 0 = ap length k.names in let n_few = count_small line n is in after_name_small d d.body n h few.verbs (omega arith)) e
object_small awaited.PropertyName d line r h few k e = by_field (text_of limited line) (λ x. (after_name d (record d.body { names = d.body.names ++ x ∷ [] }) d.left, None)) r
    (λ x is. let n = few.names in let more = length-append d.body.names (x ∷ []) in
    after_name_small d (record d.body { names = d.body.names ++ x ∷ [] }) d.left
    (record { name = h.name; part = h.part; verbs = h.verbs; names = All-push IsString d.body.names x h.names (text_small line x is); cell = h.cell; cells = h.cells }) few.verbs (omega arith)) e
object_small awaited.CellCount d line r h few k e = by_field (bounded_count_of limited line) (λ n. after_cell d d.body n) r
    (λ n is. let none : length d.body.cells ≡ 0 = ap length k.cells in let n_few = count_small line n is in after_cell_small d d.body n h few.verbs few.names (omega arith)) e
object_small awaited.Value d line r h few k e = decide (is_clear d.body line) e
  where
    decide : (b : Bool) → cond b (Ok (record d { awaited = awaited.CellOwner; cell = None }, None)) (value_line_step limited d line >>= λ x. Ok (x, None)) ≡ Ok r → IsSmallRead r
    decide true f = subst IsSmallRead (ok_is (record d { awaited = awaited.CellOwner; cell = None }, None) r f)
        (record { small = record { name = h.name; part = h.part; verbs = h.verbs; names = h.names; cell = no_cell; cells = h.cells }; counts = few })
    decide false f = by_field (value_line_step limited d line) (λ x. (x, None)) r (λ x is. value_line_small d line x h few is) f
object_small awaited.Inside d line r h few k e = by_field (value_line_step limited d line) (λ x. (x, None)) r (λ x is. value_line_small d line x h few is) e
object_small awaited.CellOwner d line r h few k e = by_field (number_of line) (λ z. (record d { awaited = awaited.CellPerms; cell_owner = z }, None)) r (λ z is. record { small = h; counts = few }) e
object_small awaited.CellPerms d line r h few k e =
    let made : ℕ → Cell = λ n. record { value = d.cell; owner = d.cell_owner; perms = n } in
    by_field (small_of 7 line) (λ n. after_cell (record d { cell = None }) (record d.body { cells = d.body.cells ++ made n ∷ [] }) d.left) r
    (λ n is. let m = few.cells in let more = length-append d.body.cells (made n ∷ []) in
    after_cell_small (record d { cell = None }) (record d.body { cells = d.body.cells ++ made n ∷ [] }) d.left
    (record { name = h.name; part = h.part; verbs = h.verbs; names = h.names; cell = no_cell; cells = All-push HasSmallValue d.body.cells (made n) h.cells h.cell }) few.verbs few.names (omega arith)) e

-- ---- an object with lines that is small has lines within the limits

verbs_within : (vs : List Verb) → AllByRecursion (IsVerb unlimited) vs → AllByRecursion HasSmallNames vs → AllByRecursion (IsVerb limited) vs
verbs_within [] h k = tt
verbs_within (v ∷ vs) h k = (record { names = k.0; owner = h.0.owner; perms = h.0.perms; preposition = h.0.preposition }, verbs_within vs h.1 k.1)

cells_within : (cs : List Cell) → AllByRecursion (IsCell unlimited) cs → AllByRecursion HasSmallValue cs → AllByRecursion (IsCell limited) cs
cells_within [] h k = tt
cells_within (c ∷ cs) h k = (record { value = value_within c.value h.0.value k.0; owner = h.0.owner; perms = h.0.perms }, cells_within cs h.1 k.1)
  where
    value_within : (value : Option Tree) → IsCellValue unlimited value → IsSmallValue value → IsCellValue limited value
    value_within None a b = tt
    value_within (Some t) a b = (a.0, b t refl)

pub object_within : (o : Object) → IsObject unlimited o → IsSmallObject o → IsObject limited o
object_within o h k = record {
  name = k.name;
  numbers = h.numbers;
  verbs = verbs_within o.body.verbs h.verbs k.verbs;
  names = k.names;
  cells = cells_within o.body.cells h.cells k.cells;
  own = h.own;
  verb_count = k.few.verbs;
  name_count = k.few.names;
  cell_count = k.few.cells;
}
