-- A value that was written is read again.
use Rattle.std.proofs.Common.{◌≡◌, ℕ, ℤ, pos, suc, ◌+◌, ◌-◌, ◌<◌, ◌≤◌, ◌^◌, true, List, [], ◌∷◌, ◌++◌, length, Option, Some, None, Result, Ok, refl, sym, ap, subst, ◌∙◌, append_assoc, arith}
use Rattle.std.specs.Prelude.{codes, FitsSigned}
use Rattle.std.specs.Int.{w32}
use Rattle.std.specs.Fmt.{signed_decimal}
use Rattle.std.proofs.lemmas.Bool.{le-leb, lt-ltb}
use Rattle.std.proofs.lemmas.Fmt.{decimal_digit}
use Rattle.moo_value.specs.declared.error_code.ErrorCode.{ErrorCode}
use Rattle.moo_value.specs.declared.error_code.ErrorCode.TheVariants as code
use Rattle.moo_value.specs.Errors.{error_number}
use Rattle.moo_value.specs.Size.{weight, total_weight, depth, greatest_depth, weight_limit, depth_limit, IsWithinLimits}
use Rattle.moo_value.specs.Tree.{Tree, Elements, integer, object, error, string, list, no_elements, element, elements_of, trees_of, list_of, IsText, IsValue, AreValues}
use Rattle.moo_value.specs.TreeCode.{error_numbered-error_number, elements_of-trees_of}
use Rattle.moo_dbtext_object.specs.declared.fault.LineFault.{LineFault}
use Rattle.moo_dbtext_object.specs.declared.value_reader.Expected.{Expected}
use Rattle.moo_dbtext_object.specs.declared.value_reader.Expected.TheVariants as expected
use Rattle.moo_dbtext_object.specs.Lines.{Line, ◌>>=◌, Sizes, unlimited, limited, within, count_line}
use Rattle.moo_dbtext_object.specs.ValueLines.{value_lines, elements_lines, IsWritable, AreWritable, KeepsLimits}
use Rattle.moo_dbtext_object.specs.Until.{Place, until}
use Rattle.moo_dbtext_object.specs.Reading.{Opened, Partial, begun, opening, full_room, is_within, closed, after_value, after_count, expected_after, may_stand, type_of, error_of, value_step, value_line}
use Rattle.moo_dbtext_object.proofs.LineLaws.{number_is}
use Rattle.moo_dbtext_object.proofs.Steps.{within_true}
use Rattle.moo_dbtext_object.proofs.TextLaws.{text_again, number_again, count_again, small_again}
use Rattle.moo_dbtext_object.proofs.Resuming.{resumed, two_lines}

type_again : (n : ℕ) (line : Line) (e : Expected) → n < 10 → line ≡ (48 + n) ∷ [] → expected_after (pos n) ≡ Ok e → type_of line ≡ Ok e
unfolding type_of
type_again n line e small is kind =
    let fits : FitsSigned w32 (pos n) = record { sfits = omega arith } in
    let spelled : line ≡ signed_decimal (pos n) = is ∙ sym (decimal_digit n small) in
    rw (number_is line (pos n) fits spelled) kind

error_small : (e : ErrorCode) → error_number e ≤ 15
error_small code.NoError = omega arith
error_small code.TypeMismatch = omega arith
error_small code.Division = omega arith
error_small code.Permission = omega arith
error_small code.PropertyNotFound = omega arith
error_small code.VerbNotFound = omega arith
error_small code.VariableNotFound = omega arith
error_small code.InvalidIndirection = omega arith
error_small code.RecursiveMove = omega arith
error_small code.MaximumRecursion = omega arith
error_small code.Range = omega arith
error_small code.Arguments = omega arith
error_small code.NotAccepted = omega arith
error_small code.InvalidArgument = omega arith
error_small code.Quota = omega arith
error_small code.Float = omega arith

error_again : (e : ErrorCode) → error_of (count_line (error_number e)) ≡ Ok e
unfolding error_of
error_again e = rw (small_again 15 (error_number e) (error_small e) (omega arith)) (ap Ok (error_numbered-error_number e))

-- ---- what a value weighs more than 1, and the elements of a list

abbrev extra : Tree → ℕ
extra (integer z) = 0
extra (object z) = 0
extra (error e) = 0
extra (string s) = length s
extra (list es) = total_weight es

abbrev mutual
  extras : Elements → ℕ
  extras no_elements = 0
  extras (element t es) = extra t + extras es

weight-extra : (t : Tree) → weight t ≡ 1 + extra t
weight-extra (integer z) = refl
weight-extra (object z) = refl
weight-extra (error e) = refl
weight-extra (string s) = refl
weight-extra (list es) = refl

total_weight-extras : (es : Elements) → total_weight es ≡ length (trees_of es) + extras es
total_weight-extras no_elements = refl
total_weight-extras (element t es) = omega (arith, weight-extra t, total_weight-extras es)

-- if sizes are limited: the value fits into the weight that is left, and nests no deeper than it may in so many lists
abbrev Fits : Sizes → Tree → ℕ → List Opened → Type 0
Fits unlimited t room ls = Unit {0}
Fits limited t room ls = (extra t ≤ room) × (room ≤ full_room) × (length ls + depth t ≤ depth_limit)

abbrev FitAll : Sizes → Elements → ℕ → List Opened → Type 0
FitAll unlimited es room ls = Unit {0}
FitAll limited es room ls = (extras es ≤ room) × (room ≤ full_room) × (length ls + greatest_depth es ≤ depth_limit)

fits_keeps : (s : Sizes) (t : Tree) (room : ℕ) (ls : List Opened) → Fits s t room ls → KeepsLimits s t
fits_keeps unlimited t room ls h = tt
fits_keeps limited t room ls h = record { weight = omega (arith, weight-extra t, h.0, h.1); depth = omega (arith, h.2) }

-- the first element of a list, and the others
first_fits : (s : Sizes) (t : Tree) (es : Elements) (room : ℕ) (l : Opened) (ls : List Opened) → Fits s (list (element t es)) room ls → Fits s t (room - suc (length (trees_of es))) (l ∷ ls)
first_fits unlimited t es room l ls h = tt
first_fits limited t es room l ls h = (omega (arith, h.0, weight-extra t, total_weight-extras es), omega (arith, h.1), omega (arith, h.2))

others_fit : (s : Sizes) (t : Tree) (es : Elements) (room : ℕ) (l : Opened) (ls : List Opened) → Fits s (list (element t es)) room ls → FitAll s es ((room - suc (length (trees_of es))) - extra t) (l ∷ ls)
others_fit unlimited t es room l ls h = tt
others_fit limited t es room l ls h = (omega (arith, h.0, weight-extra t, total_weight-extras es), omega (arith, h.1), omega (arith, h.2))

next_fits : (s : Sizes) (t : Tree) (es : Elements) (room : ℕ) (l m : Opened) (ls : List Opened) → FitAll s (element t es) room (l ∷ ls) → Fits s t room (m ∷ ls)
next_fits unlimited t es room l m ls h = tt
next_fits limited t es room l m ls h = (omega (arith, h.0), h.1, omega (arith, h.2))

rest_fit : (s : Sizes) (t : Tree) (es : Elements) (room : ℕ) (l m : Opened) (ls : List Opened) → FitAll s (element t es) room (l ∷ ls) → FitAll s es (room - extra t) (m ∷ ls)
rest_fit unlimited t es room l m ls h = tt
rest_fit limited t es room l m ls h = (omega (arith, h.0), omega (arith, h.1), omega (arith, h.2))

-- ---- the lines of a value, one after another

within_limits : (t : Tree) → IsWithinLimits t → is_within t ≡ true
within_limits t h = rw (le-leb _ _ h.weight, le-leb _ _ h.depth) refl

closed_again : (s : Sizes) (ts : List Tree) → KeepsLimits s (list_of ts) → closed s ts ≡ Ok (list_of ts)
closed_again unlimited ts h = refl
closed_again limited ts h = within_true limited (is_within (list_of ts)) (list_of ts) (within_limits (list_of ts) h)

abbrev at : Expected → ℕ → List Opened → Partial
at e room ls = record { expected = e; room = room; lists = ls }

abbrev unfinished : Partial → Partial × Option Tree
unfinished p = (p, None)

type_step : (s : Sizes) (n : ℕ) (line : Line) (e : Expected) (room : ℕ) (ls : List Opened) → n < 10 → line ≡ (48 + n) ∷ [] → expected_after (pos n) ≡ Ok e → within s (may_stand e ls) (unfinished (at e room ls)) ≡ Ok (unfinished (at e room ls))
    → value_line s (opening room ls) line ≡ Ok (at e room ls, None)
unfolding value_step
type_step s n line e room ls small is kind may = rw (type_again n line e small is kind) may

list_may_stand : (s : Sizes) (es : Elements) (room : ℕ) (ls : List Opened) → Fits s (list es) room ls → within s (may_stand expected.Count ls) (unfinished (at expected.Count room ls)) ≡ Ok (unfinished (at expected.Count room ls))
list_may_stand unlimited es room ls h = refl
list_may_stand limited es room ls h = let lt : length ls < depth_limit = omega (arith, h.2) in rw (lt-ltb _ _ lt) refl

integer_step : (s : Sizes) (z : ℤ) (room : ℕ) (ls : List Opened) → FitsSigned w32 z → value_line s (at expected.Int room ls) (signed_decimal z) ≡ after_value s (integer z) room ls
unfolding value_step
integer_step s z room ls h = rw (number_again z h) refl

object_step : (s : Sizes) (z : ℤ) (room : ℕ) (ls : List Opened) → FitsSigned w32 z → value_line s (at expected.Obj room ls) (signed_decimal z) ≡ after_value s (object z) room ls
unfolding value_step
object_step s z room ls h = rw (number_again z h) refl

error_step : (s : Sizes) (e : ErrorCode) (room : ℕ) (ls : List Opened) → value_line s (at expected.Error room ls) (count_line (error_number e)) ≡ after_value s (error e) room ls
unfolding value_step
error_step s e room ls = rw (error_again e) refl

string_step : (s : Sizes) (x : List ℕ) (room : ℕ) (ls : List Opened) → IsText x → Fits s (string x) room ls → value_line s (at expected.Str room ls) x ≡ after_value s (string x) (room - length x) ls
unfolding value_step
string_step unlimited x room ls h f = rw (text_again unlimited x h) refl
string_step limited x room ls h f = rw (text_again limited x (record { text = h; fits = omega (arith, f.0, f.1) }), le-leb (length x) room f.0) refl

count_step : (s : Sizes) (es : Elements) (room : ℕ) (ls : List Opened) → length (trees_of es) < 2 ^ 31 → Fits s (list es) room ls
    → value_line s (at expected.Count room ls) (count_line (length (trees_of es))) ≡ after_count s (length (trees_of es)) (room - length (trees_of es)) ls
unfolding value_step
count_step unlimited es room ls h f = rw (count_again (length (trees_of es)) h) refl
count_step limited es room ls h f =
    let le : length (trees_of es) ≤ room = omega (arith, f.0, total_weight-extras es) in
    rw (count_again (length (trees_of es)) h, le-leb (length (trees_of es)) room le) refl

abbrev after : Sizes → Tree → List Opened → List Line → ℕ → Result (Place Partial Tree) LineFault
after s t ls rest room = resumed (value_line s) (after_value s t room ls) rest

begin_list : (s : Sizes) (es : Elements) (room : ℕ) (ls : List Opened) (rest : List Line) → length (trees_of es) < 2 ^ 31 → Fits s (list es) room ls
    → until (value_line s) (opening room ls) (codes "4" ∷ count_line (length (trees_of es)) ∷ rest) ≡ resumed (value_line s) (after_count s (length (trees_of es)) (room - length (trees_of es)) ls) rest
begin_list s es room ls rest h f =
    two_lines (value_line s) (opening room ls) (at expected.Count room ls) (codes "4") (count_line (length (trees_of es))) rest _
    (type_step s 4 (codes "4") expected.Count room ls (omega arith) refl refl (list_may_stand s es room ls f)) (count_step s es room ls h f)

mutual
  unfolding after_value

  pub tree_again : (s : Sizes) (t : Tree) → IsWritable t → (room : ℕ) (ls : List Opened) (rest : List Line) → Fits s t room ls
      → until (value_line s) (opening room ls) (value_lines t ++ rest) ≡ resumed (value_line s) (after_value s t (room - extra t) ls) rest
  tree_again s (integer z) h room ls rest f =
      two_lines (value_line s) (opening room ls) (at expected.Int room ls) (codes "0") (signed_decimal z) rest _ (type_step s 0 (codes "0") expected.Int room ls (omega arith) refl refl (within_true s true _ refl)) (integer_step s z room ls h)
      ∙ ap (after s (integer z) ls rest) (omega arith)
  tree_again s (object z) h room ls rest f =
      two_lines (value_line s) (opening room ls) (at expected.Obj room ls) (codes "1") (signed_decimal z) rest _ (type_step s 1 (codes "1") expected.Obj room ls (omega arith) refl refl (within_true s true _ refl)) (object_step s z room ls h)
      ∙ ap (after s (object z) ls rest) (omega arith)
  tree_again s (string x) h room ls rest f =
      two_lines (value_line s) (opening room ls) (at expected.Str room ls) (codes "2") x rest _ (type_step s 2 (codes "2") expected.Str room ls (omega arith) refl refl (within_true s true _ refl)) (string_step s x room ls h f)
  tree_again s (error e) h room ls rest f =
      two_lines (value_line s) (opening room ls) (at expected.Error room ls) (codes "3") (count_line (error_number e)) rest _ (type_step s 3 (codes "3") expected.Error room ls (omega arith) refl refl (within_true s true _ refl)) (error_step s e room ls)
      ∙ ap (after s (error e) ls rest) (omega arith)
  tree_again s (list no_elements) h room ls rest f =
      begin_list s no_elements room ls rest h.0 f
      ∙ ap (λ (r : Result Tree LineFault). resumed (value_line s) (r >>= λ l. after_value s l (room - 0) ls) rest) (closed_again s [] (fits_keeps s (list no_elements) room ls f))
  tree_again s (list (element t us)) h room ls rest f =
      let n = length (trees_of us) in
      let whole : elements_of (trees_of us) ≡ us = elements_of-trees_of us in
      let inner = (room - suc n) - extra t in
      let keeps : KeepsLimits s (list_of (t ∷ trees_of us)) = subst (λ (es : Elements). KeepsLimits s (list (element t es))) (sym whole) (fits_keeps s (list (element t us)) room ls f) in
      begin_list s (element t us) room ls ((value_lines t ++ elements_lines us) ++ rest) h.0 f
      ∙ ap (until (value_line s) (opening (room - suc n) (([], n) ∷ ls))) (append_assoc (value_lines t) (elements_lines us) rest)
      ∙ tree_again s t h.1.0 (room - suc n) (([], n) ∷ ls) (elements_lines us ++ rest) (first_fits s t us room ([], n) ls f)
      ∙ trees_again s us h.1.1 t [] inner ls rest (others_fit s t us room ([], n) ls f) keeps
      ∙ ap (λ (es : Elements). after s (list (element t es)) ls rest (inner - extras us)) whole
      ∙ ap (after s (list (element t us)) ls rest) (omega (arith, weight-extra t, total_weight-extras us))

  pub trees_again : (s : Sizes) (us : Elements) → AreWritable us → (t : Tree) (items : List Tree) (room : ℕ) (ls : List Opened) (rest : List Line) → FitAll s us room ((items, length (trees_of us)) ∷ ls) → KeepsLimits s (list_of (items ++ t ∷ trees_of us))
      → resumed (value_line s) (after_value s t room ((items, length (trees_of us)) ∷ ls)) (elements_lines us ++ rest) ≡ resumed (value_line s) (after_value s (list_of (items ++ t ∷ trees_of us)) (room - extras us) ls) rest
  trees_again s no_elements h t items room ls rest f k =
      ap (λ (r : Result Tree LineFault). resumed (value_line s) (r >>= λ l. after_value s l room ls) rest) (closed_again s (items ++ t ∷ []) k)
      ∙ ap (after s (list_of (items ++ t ∷ [])) ls rest) (omega arith)
  trees_again s (element u vs) h t items room ls rest f k =
      let n = length (trees_of vs) in
      let next = items ++ t ∷ [] in
      let joined : next ++ u ∷ trees_of vs ≡ items ++ t ∷ u ∷ trees_of vs = append_assoc items (t ∷ []) (u ∷ trees_of vs) in
      ap (until (value_line s) (opening room ((next, n) ∷ ls))) (append_assoc (value_lines u) (elements_lines vs) rest)
      ∙ tree_again s u h.0 room ((next, n) ∷ ls) (elements_lines vs ++ rest) (next_fits s u vs room (items, suc n) (next, n) ls f)
      ∙ trees_again s vs h.1 u next (room - extra u) ls rest (rest_fit s u vs room (items, suc n) (next, n) ls f) (subst (λ (ts : List Tree). KeepsLimits s (list_of ts)) (sym joined) k)
      ∙ ap (λ (ts : List Tree). after s (list_of ts) ls rest ((room - extra u) - extras vs)) joined
      ∙ ap (after s (list_of (items ++ t ∷ u ∷ trees_of vs)) ls rest) (omega arith)

first_fits_all : (s : Sizes) (t : Tree) → KeepsLimits s t → Fits s t full_room []
first_fits_all unlimited t h = tt
first_fits_all limited t h = (omega (arith, weight-extra t, h.weight), omega arith, omega (arith, h.depth))

-- a whole value, and the lines after it
pub value_again : (s : Sizes) (t : Tree) → IsWritable t → KeepsLimits s t → (rest : List Line) → until (value_line s) begun (value_lines t ++ rest) ≡ Ok (begun, Some t, rest)
unfolding after_value
value_again s t h k rest = tree_again s t h full_room [] rest (first_fits_all s t k)

-- ---- stored values

total_weight_count : (es : Elements) → length (trees_of es) ≤ total_weight es
total_weight_count es = omega (arith, total_weight-extras es)

mutual
  pub stored_writable : (t : Tree) → IsValue t → weight t ≤ weight_limit → IsWritable t
  stored_writable (integer z) h w = h
  stored_writable (object z) h w = h
  stored_writable (error e) h w = tt
  stored_writable (string x) h w = h
  stored_writable (list es) h w = (omega (arith, total_weight_count es), all_writable es h (omega arith))

  all_writable : (es : Elements) → AreValues es → total_weight es ≤ weight_limit → AreWritable es
  all_writable no_elements h w = tt
  all_writable (element t es) h w = (stored_writable t h.0 (omega arith), all_writable es h.1 (omega arith))
