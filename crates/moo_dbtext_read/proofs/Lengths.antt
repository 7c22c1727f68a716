-- How many lines values and objects have.
use Rattle.std.proofs.Common.{◌≡◌, ℕ, suc, ◌+◌, ◌*◌, ◌<◌, List, [], ◌∷◌, ◌++◌, length, take, get_or, Option, Some, None, refl, sym, ap, ◌∙◌, arith}
use Rattle.std.specs.Prelude.{map, option_map}
use Rattle.std.specs.List.{flat_map}
use Rattle.std.proofs.lemmas.List.{take_more, map-append, length-append}
use Rattle.moo_value.specs.Tree.{Tree, elements_of}
use Rattle.moo_value.specs.View.{tree, trees}
use Rattle.moo_value.specs.declared.value.Value.{Value}
use Rattle.moo_value.proofs.Lists.{trees-take_more}
use Rattle.moo_dbtext_object.specs.Lines.{Line, count_line}
use Rattle.moo_dbtext_object.specs.ValueLines.{value_lines, elements_lines}
use Rattle.moo_dbtext_object.specs.Objects.{Verb, Cell, Object, cell_of, object_of, verb_lines, cell_lines, object_lines}
use Rattle.moo_dbtext_object.specs.declared.object_record.PropertyRecord.{PropertyRecord}
use Rattle.moo_dbtext_object.specs.declared.object_record.ObjectRecord.{ObjectRecord}
use Rattle.moo_dbtext_record.specs.Texts.{objects_lines}
use Rattle.moo_dbtext_record.specs.Writing.{no_notes}
use Rattle.moo_dbtext_read.specs.Objects.{entry_length}

elements_push : (ts : List Tree) (t : Tree) → length (elements_lines (elements_of (ts ++ t ∷ []))) ≡ length (elements_lines (elements_of ts)) + length (value_lines t)
elements_push [] t = let e = length-append (value_lines t) [] in omega arith
elements_push (u ∷ ts) t =
    let a = length-append (value_lines u) (elements_lines (elements_of (ts ++ t ∷ []))) in
    let b = length-append (value_lines u) (elements_lines (elements_of ts)) in
    let c = elements_push ts t in
    omega arith

pub values_length : (vs : List Value) (i : ℕ) (v : Value) → i < length vs → v ≡ get_or vs i v
    → length (elements_lines (elements_of (trees (take (i + 1) vs)))) ≡ length (elements_lines (elements_of (trees (take i vs)))) + length (value_lines (tree v))
values_length vs i v lt is = ap (λ (ts : List Tree). length (elements_lines (elements_of ts))) (trees-take_more vs i v lt is) ∙ elements_push (trees (take i vs)) (tree v)

flat_push : {A : Type 0} (f : A → List Line) (xs : List A) (x : A) → length (flat_map f (xs ++ x ∷ [])) ≡ length (flat_map f xs) + length (f x)
flat_push f [] x = let e = length-append (f x) [] in omega arith
flat_push f (y ∷ xs) x =
    let a = length-append (f y) (flat_map f (xs ++ x ∷ [])) in
    let b = length-append (f y) (flat_map f xs) in
    let c = flat_push f xs x in
    omega arith

mapped_more : {A B : Type 0} (f : A → B) (xs : List A) (i : ℕ) (x : A) → i < length xs → x ≡ get_or xs i x → map f (take (i + 1) xs) ≡ map f (take i xs) ++ f x ∷ []
mapped_more f xs i x lt is = ap (map f) (take_more xs i x lt) ∙ map-append f (take i xs) (get_or xs i x ∷ []) ∙ ap (λ y. map f (take i xs) ++ f y ∷ []) (sym is)

pub cells_length : (cs : List PropertyRecord) (i : ℕ) (c : PropertyRecord) → i < length cs → c ≡ get_or cs i c
    → length (flat_map cell_lines (map cell_of (take (i + 1) cs))) ≡ length (flat_map cell_lines (map cell_of (take i cs))) + length (cell_lines (cell_of c))
cells_length cs i c lt is = ap (λ (xs : List Cell). length (flat_map cell_lines xs)) (mapped_more cell_of cs i c lt is) ∙ flat_push cell_lines (map cell_of (take i cs)) (cell_of c)

-- ---- objects

verbs_length : (vs : List Verb) → length (flat_map verb_lines vs) ≡ 4 * length vs
verbs_length [] = refl
verbs_length (v ∷ vs) = let e = length-append (verb_lines v) (flat_map verb_lines vs) in let f = verbs_length vs in omega arith

pub object_length : (o : Object) (note : Line) → length (object_lines o note) ≡ 4 * length o.body.verbs + length o.body.names + length (flat_map cell_lines o.body.cells) + 13
object_length o note =
    let b = o.body in
    let cells = flat_map cell_lines b.cells in
    let named : List Line = count_line (length b.cells) ∷ cells in
    let listed : List Line = count_line (length b.names) ∷ (b.names ++ named) in
    let c = length-append b.names named in
    let d = length-append (flat_map verb_lines b.verbs) listed in
    let e = verbs_length b.verbs in
    omega arith

-- the number and the notes change no length
pub entries_alike : (os : List (Option Object)) (n m : ℕ) (notes others : ℕ → Line) → length (objects_lines n os notes) ≡ length (objects_lines m os others)
entries_alike [] n m notes others = refl
entries_alike (None ∷ os) n m notes others = ap suc (entries_alike os (n + 1) (m + 1) notes others)
entries_alike (Some o ∷ os) n m notes others =
    let a = length-append (object_lines o (notes n)) (objects_lines (n + 1) os notes) in
    let b = length-append (object_lines o (others m)) (objects_lines (m + 1) os others) in
    let c = object_length o (notes n) in
    let d = object_length o (others m) in
    let e = entries_alike os (n + 1) (m + 1) notes others in
    omega arith

entries_push : (n : ℕ) (os : List (Option Object)) (o : Option Object) (notes : ℕ → Line) → length (objects_lines n (os ++ o ∷ []) notes) ≡ length (objects_lines n os notes) + entry_length o
entries_push n [] None notes = refl
entries_push n [] (Some o) notes =
    let a = length-append (object_lines o (notes n)) [] in
    let c = object_length o (notes n) in
    let d = object_length o [] in
    omega arith
entries_push n (None ∷ os) o notes = let e = entries_push (n + 1) os o notes in omega arith
entries_push n (Some x ∷ os) o notes =
    let a = length-append (object_lines x (notes n)) (objects_lines (n + 1) (os ++ o ∷ []) notes) in
    let b = length-append (object_lines x (notes n)) (objects_lines (n + 1) os notes) in
    let c = entries_push (n + 1) os o notes in
    omega arith

abbrev entry_of : Option ObjectRecord → Option Object
entry_of e = option_map object_of e

pub entries_length : (os : List (Option ObjectRecord)) (i : ℕ) (o : Option ObjectRecord) → i < length os → o ≡ get_or os i o
    → length (objects_lines 0 (map entry_of (take (i + 1) os)) no_notes) ≡ length (objects_lines 0 (map entry_of (take i os)) no_notes) + entry_length (entry_of o)
entries_length os i o lt is = ap (λ (es : List (Option Object)). length (objects_lines 0 es no_notes)) (mapped_more entry_of os i o lt is) ∙ entries_push 0 (map entry_of (take i os)) (entry_of o) no_notes
