-- A value that was read is spelled by its lines, and limits on sizes change nothing but that they refuse.
use Rattle.std.proofs.Common.{◌≡◌, ℕ, ℤ, pos, negsuc, zero, suc, ◌+◌, ◌<◌, ◌≤◌, ◌^◌, true, List, [], ◌∷◌, ◌++◌, length, Option, Some, None, Result, Ok, inl, inr, refl, sym, ap, subst, ◌∙◌, append_assoc, arith, eqb, zero-add}
use Rattle.std.specs.Prelude.{codes}
use Rattle.std.specs.Fmt.{signed_decimal, decimal}
use Rattle.std.specs.List.{flat_map, AllByRecursion}
use Rattle.std.proofs.lemmas.Bool.{eqb-true}
use Rattle.std.proofs.lemmas.Fmt.{decimal_digit}
use Rattle.std.proofs.lemmas.List.{append-nil, length-append}
use Rattle.std.proofs.lemmas.List.Concat.{flat_map-append}
use Rattle.moo_value.specs.declared.error_code.ErrorCode.{ErrorCode}
use Rattle.moo_value.specs.Errors.{error_number}
use Rattle.moo_value.specs.Tree.{Tree, integer, object, error, string, elements_of, list_of}
use Rattle.moo_value.specs.TreeCode.{error_numbered, trees_of-elements_of}
use Rattle.moo_dbtext_object.specs.declared.fault.LineFault.{LineFault}
use Rattle.moo_dbtext_object.specs.declared.fault.LineFault.TheVariants.{FloatValue, BadType}
use Rattle.moo_dbtext_object.specs.declared.value_reader.Expected.{Expected}
use Rattle.moo_dbtext_object.specs.declared.value_reader.Expected.TheVariants as expected
use Rattle.moo_dbtext_object.specs.Lines.{Line, ◌>>=◌, Sizes, unlimited, within, number_of, count_of, small_of, text_of, count_line}
use Rattle.moo_dbtext_object.specs.ValueLines.{value_lines, elements_lines, IsWritable, AreWritable}
use Rattle.moo_dbtext_object.specs.Until.{Place, until}
use Rattle.moo_dbtext_object.specs.Reading.{Opened, Partial, begun, opening, is_within, closed, after_value, after_count, expected_after, may_stand, type_of, error_of, take_room, value_step, value_line}
use Rattle.moo_dbtext_object.proofs.LineLaws.{number_found}
use Rattle.moo_dbtext_object.proofs.Steps.{bind_ok, ok_is, within_ok, branch, never}
use Rattle.moo_dbtext_object.proofs.TextLaws.{text_found, count_found, small_found}
use Rattle.moo_dbtext_object.proofs.ValueAgain.{value_again}

-- the lines that a reader of values has taken
abbrev pub lists_read : List Opened → List Line
lists_read [] = []
lists_read (l ∷ ls) = lists_read ls ++ codes "4" ∷ count_line (length l.0 + suc l.1) ∷ flat_map value_lines l.0

abbrev pub type_read : Expected → List Line
type_read expected.Type = []
type_read expected.Int = codes "0" ∷ []
type_read expected.Obj = codes "1" ∷ []
type_read expected.Str = codes "2" ∷ []
type_read expected.Error = codes "3" ∷ []
type_read expected.Count = codes "4" ∷ []

abbrev pub value_read : Partial × Option Tree → List Line
value_read (p, None) = lists_read p.lists ++ type_read p.expected
value_read (p, Some t) = value_lines t

-- what a reader of values keeps
abbrev pub AreOpened : List Opened → Type 0
AreOpened [] = Unit {0}
AreOpened (l ∷ ls) = (length l.0 + suc l.1 < 2 ^ 31) × AllByRecursion IsWritable l.0 × AreOpened ls

abbrev pub IsRead : Partial × Option Tree → Type 0
IsRead (p, None) = AreOpened p.lists
IsRead (p, Some t) = IsWritable t × (p ≡ begun)

elements_lines-flat : (ts : List Tree) → elements_lines (elements_of ts) ≡ flat_map value_lines ts
elements_lines-flat [] = refl
elements_lines-flat (t ∷ ts) = ap (λ (ls : List Line). value_lines t ++ ls) (elements_lines-flat ts)

are_writable : (ts : List Tree) → AllByRecursion IsWritable ts → AreWritable (elements_of ts)
are_writable [] h = tt
are_writable (t ∷ ts) h = (h.0, are_writable ts h.1)

pub All-push : {A : Type 0} (P : A → Type 0) (xs : List A) (x : A) → AllByRecursion P xs → P x → AllByRecursion P (xs ++ x ∷ [])
All-push P [] x h p = (p, tt)
All-push P (y ∷ xs) x h p = (h.0, All-push P xs x h.1 p)

pub flat_map_push : {X A : Type 0} (f : X → List A) (xs : List X) (x : X) → flat_map f (xs ++ x ∷ []) ≡ flat_map f xs ++ f x
flat_map_push f xs x = flat_map-append f xs (x ∷ []) ∙ ap (λ ys. flat_map f xs ++ ys) (append-nil (f x))

-- a list with one more value
grown : (t : Tree) (items : List Tree) (n m : ℕ) (ls : List Line) → n ≡ m
    → ls ++ codes "4" ∷ count_line n ∷ flat_map value_lines (items ++ t ∷ []) ≡ (ls ++ codes "4" ∷ count_line m ∷ flat_map value_lines items) ++ value_lines t
grown t items n m ls count =
    ap (λ (k : ℕ). ls ++ codes "4" ∷ count_line k ∷ flat_map value_lines (items ++ t ∷ [])) count
    ∙ ap (λ (vs : List Line). ls ++ codes "4" ∷ count_line m ∷ vs) (flat_map_push value_lines items t)
    ∙ sym (append_assoc ls (codes "4" ∷ count_line m ∷ flat_map value_lines items) (value_lines t))

length_one : (t : Tree) (items : List Tree) → length (items ++ t ∷ []) ≡ suc (length items)
length_one t items = omega (arith, length-append items (t ∷ []))

-- the lines of a list
listed : (ts : List Tree) (ls : List Line) → ls ++ value_lines (list_of ts) ≡ ls ++ codes "4" ∷ count_line (length ts) ∷ flat_map value_lines ts
listed ts ls =
    ap (λ (us : List Tree). ls ++ codes "4" ∷ count_line (length us) ∷ elements_lines (elements_of ts)) (trees_of-elements_of ts)
    ∙ ap (λ (vs : List Line). ls ++ codes "4" ∷ count_line (length ts) ∷ vs) (elements_lines-flat ts)

-- what a step finds: it reads these lines, and keeps what it keeps
pub record Finds (lines : List Line) (r : Partial × Option Tree) : Type 0 where
  pub read : value_read r ≡ lines
  pub is : IsRead r

found_along : (ls ms : List Line) (r : Partial × Option Tree) → ls ≡ ms → Finds ls r → Finds ms r
found_along ls ms r e f = record { read = f.read ∙ e; is = f.is }

after_value_found : (s : Sizes) (t : Tree) (room : ℕ) (ls : List Opened) (r : Partial × Option Tree) → IsWritable t → AreOpened ls → after_value s t room ls ≡ Ok r → Finds (lists_read ls ++ value_lines t) r
unfolding after_value
after_value_found s t room [] r h hs e = subst (Finds (value_lines t)) (ok_is (begun, Some t) r e) (record { read = refl; is = (h, refl) })
after_value_found s t room ((items, zero) ∷ ls) r h hs e =
    let ts = items ++ t ∷ [] in
    let b = bind_ok (closed s ts) (λ l. after_value s l room ls) r e in
    let same : list_of ts ≡ b.0 = within_ok s (is_within (list_of ts)) (list_of ts) b.0 b.1 in
    let whole : IsWritable (list_of ts) = (omega (arith, hs.0, ap length (trees_of-elements_of ts), length_one t items), are_writable ts (All-push IsWritable items t hs.1 h)) in
    let rest = after_value_found s b.0 room ls r (subst IsWritable same whole) hs.2 b.2 in
    found_along _ _ r (ap (λ (l : Tree). lists_read ls ++ value_lines l) (sym same) ∙ listed ts (lists_read ls) ∙ grown t items (length ts) (length items + 1) (lists_read ls) (omega (arith, length_one t items))) rest
after_value_found s t room ((items, suc n) ∷ ls) r h hs e =
    subst (Finds (lists_read ((items, suc n) ∷ ls) ++ value_lines t)) (ok_is (opening room ((items ++ t ∷ [], n) ∷ ls), None) r e) (record {
      read = append-nil _ ∙ grown t items (length (items ++ t ∷ []) + suc n) (length items + suc (suc n)) (lists_read ls) (omega (arith, length_one t items));
      is = (omega (arith, hs.0, length_one t items), All-push IsWritable items t hs.1 h, hs.2);
    })

digit : (n k : ℕ) (kind e : Expected) → eqb n k ≡ true → k < 10 → type_read kind ≡ ((48 + k) ∷ []) ∷ [] → kind ≡ e → decimal n ∷ [] ≡ type_read e
digit n k kind e same small read is = ap (λ (m : ℕ). decimal m ∷ []) (eqb-true n k same) ∙ ap (λ (l : Line). l ∷ []) (decimal_digit k small) ∙ sym read ∙ ap type_read is

-- the kind of value that a number names
kind_found : (z : ℤ) (e : Expected) → expected_after z ≡ Ok e → signed_decimal z ∷ [] ≡ type_read e
kind_found (negsuc n) e h = absurd cc
kind_found (pos n) e h =
    elim (branch (eqb n 0) expected.Int e _ h) [
      | inl p ↦ digit n 0 expected.Int e p.0 (omega arith) refl p.1
      | inr h1 ↦ elim (branch (eqb n 1) expected.Obj e _ h1) [
        | inl p ↦ digit n 1 expected.Obj e p.0 (omega arith) refl p.1
        | inr h2 ↦ elim (branch (eqb n 2) expected.Str e _ h2) [
          | inl p ↦ digit n 2 expected.Str e p.0 (omega arith) refl p.1
          | inr h3 ↦ elim (branch (eqb n 3) expected.Error e _ h3) [
            | inl p ↦ digit n 3 expected.Error e p.0 (omega arith) refl p.1
            | inr h4 ↦ elim (branch (eqb n 4) expected.Count e _ h4) [
              | inl p ↦ digit n 4 expected.Count e p.0 (omega arith) refl p.1
              | inr h9 ↦ absurd (never (eqb n 9) FloatValue BadType e h9)
            ]
          ]
        ]
      ]
    ]

type_found : (line : Line) (e : Expected) → type_of line ≡ Ok e → line ∷ [] ≡ type_read e
unfolding type_of
type_found line e h =
    let b = bind_ok (number_of line) expected_after e h in
    ap (λ (l : Line). l ∷ []) (number_found line b.0 b.1).1 ∙ kind_found b.0 e b.2

error_numbered_is : (n : ℕ) → n ≤ 15 → error_number (error_numbered n) ≡ n
error_numbered_is zero h = refl
error_numbered_is (suc zero) h = refl
error_numbered_is (suc (suc zero)) h = refl
error_numbered_is (suc (suc (suc zero))) h = refl
error_numbered_is (suc (suc (suc (suc zero)))) h = refl
error_numbered_is (suc (suc (suc (suc (suc zero))))) h = refl
error_numbered_is (suc (suc (suc (suc (suc (suc zero)))))) h = refl
error_numbered_is (suc (suc (suc (suc (suc (suc (suc zero))))))) h = refl
error_numbered_is (suc (suc (suc (suc (suc (suc (suc (suc zero)))))))) h = refl
error_numbered_is (suc (suc (suc (suc (suc (suc (suc (suc (suc zero))))))))) h = refl
error_numbered_is (suc (suc (suc (suc (suc (suc (suc (suc (suc (suc zero)))))))))) h = refl
error_numbered_is (suc (suc (suc (suc (suc (suc (suc (suc (suc (suc (suc zero))))))))))) h = refl
error_numbered_is (suc (suc (suc (suc (suc (suc (suc (suc (suc (suc (suc (suc zero)))))))))))) h = refl
error_numbered_is (suc (suc (suc (suc (suc (suc (suc (suc (suc (suc (suc (suc (suc zero))))))))))))) h = refl
error_numbered_is (suc (suc (suc (suc (suc (suc (suc (suc (suc (suc (suc (suc (suc (suc zero)))))))))))))) h = refl
error_numbered_is (suc (suc (suc (suc (suc (suc (suc (suc (suc (suc (suc (suc (suc (suc (suc zero))))))))))))))) h = refl
error_numbered_is (suc (suc (suc (suc (suc (suc (suc (suc (suc (suc (suc (suc (suc (suc (suc (suc n)))))))))))))))) h = absurd (omega arith)

error_found : (line : Line) (e : ErrorCode) → error_of line ≡ Ok e → line ≡ count_line (error_number e)
unfolding error_of
error_found line e h =
    let b = bind_ok (small_of 15 line) (λ n. Ok (error_numbered n)) e h in
    let f = small_found 15 line b.0 b.1 in
    f.1 ∙ ap count_line (sym (error_numbered_is b.0 f.0)) ∙ ap (λ (d : ErrorCode). count_line (error_number d)) (ok_is (error_numbered b.0) e b.2)

-- the line of a content, after that of its type
content : (ls : List Opened) (type line : Line) (t : Tree) (r : Partial × Option Tree) → value_lines t ≡ type ∷ line ∷ [] → Finds (lists_read ls ++ value_lines t) r → Finds ((lists_read ls ++ type ∷ []) ++ line ∷ []) r
content ls type line t r is f = found_along _ _ r (ap (λ (vs : List Line). lists_read ls ++ vs) is ∙ sym (append_assoc (lists_read ls) (type ∷ []) (line ∷ []))) f

abbrev pub unfinished : Partial → Partial × Option Tree
unfinished p = (p, None)

counted : (s : Sizes) (n room : ℕ) (ls : List Opened) (line : Line) (r : Partial × Option Tree) → n < 2 ^ 31 → line ≡ count_line n → AreOpened ls → after_count s n room ls ≡ Ok r → Finds ((lists_read ls ++ codes "4" ∷ []) ++ line ∷ []) r
counted s zero room ls line r lt is hs e =
    let b = bind_ok (closed s []) (λ l. after_value s l room ls) r e in
    let same : list_of [] ≡ b.0 = within_ok s (is_within (list_of [])) (list_of []) b.0 b.1 in
    let f = after_value_found s b.0 room ls r (subst IsWritable same (lt, tt)) hs b.2 in
    content ls (codes "4") line b.0 r (ap value_lines (sym same) ∙ ap (λ (l : Line). codes "4" ∷ l ∷ []) (sym is)) f
counted s (suc n) room ls line r lt is hs e =
    subst (Finds ((lists_read ls ++ codes "4" ∷ []) ++ line ∷ [])) (ok_is (opening room (([], n) ∷ ls), None) r e) (record {
      read = append-nil _ ∙ ap (λ (k : ℕ). lists_read ls ++ codes "4" ∷ count_line k ∷ []) (zero-add (suc n)) ∙ ap (λ (l : Line). lists_read ls ++ codes "4" ∷ l ∷ []) (sym is) ∙ sym (append_assoc (lists_read ls) (codes "4" ∷ []) (line ∷ []));
      is = (omega arith, tt, hs);
    })

pub value_found : (s : Sizes) (e : Expected) (p : Partial) (line : Line) (r : Partial × Option Tree) → value_step s e p line ≡ Ok r → AreOpened p.lists → Finds ((lists_read p.lists ++ type_read e) ++ line ∷ []) r
unfolding value_step
value_found s expected.Type p line r h hs =
    let b = bind_ok (type_of line) (λ e. within s (may_stand e p.lists) (unfinished (record p { expected = e }))) r h in
    let q = record p { expected = b.0 } in
    subst (Finds ((lists_read p.lists ++ []) ++ line ∷ [])) (within_ok s (may_stand b.0 p.lists) (unfinished q) r b.2) (record {
      read = ap (λ (k : List Line). lists_read p.lists ++ k) (sym (type_found line b.0 b.1)) ∙ ap (λ (k : List Line). k ++ line ∷ []) (sym (append-nil (lists_read p.lists)));
      is = hs;
    })
value_found s expected.Int p line r h hs =
    let b = bind_ok (number_of line) (λ z. after_value s (integer z) p.room p.lists) r h in
    let f = number_found line b.0 b.1 in
    content p.lists (codes "0") line (integer b.0) r (ap (λ (l : Line). codes "0" ∷ l ∷ []) (sym f.1)) (after_value_found s (integer b.0) p.room p.lists r f.0 hs b.2)
value_found s expected.Obj p line r h hs =
    let b = bind_ok (number_of line) (λ z. after_value s (object z) p.room p.lists) r h in
    let f = number_found line b.0 b.1 in
    content p.lists (codes "1") line (object b.0) r (ap (λ (l : Line). codes "1" ∷ l ∷ []) (sym f.1)) (after_value_found s (object b.0) p.room p.lists r f.0 hs b.2)
value_found s expected.Error p line r h hs =
    let b = bind_ok (error_of line) (λ e. after_value s (error e) p.room p.lists) r h in
    content p.lists (codes "3") line (error b.0) r (ap (λ (l : Line). codes "3" ∷ l ∷ []) (sym (error_found line b.0 b.1))) (after_value_found s (error b.0) p.room p.lists r tt hs b.2)
value_found s expected.Str p line r h hs =
    let b = bind_ok (text_of s line) (λ t. take_room s (length t) p.room >>= λ room. after_value s (string t) room p.lists) r h in
    let c = bind_ok (take_room s (length b.0) p.room) (λ room. after_value s (string b.0) room p.lists) r b.2 in
    let f = text_found s line b.0 b.1 in
    content p.lists (codes "2") line (string b.0) r (ap (λ (l : Line). codes "2" ∷ l ∷ []) (sym f.1)) (after_value_found s (string b.0) c.0 p.lists r f.0 hs c.2)
value_found s expected.Count p line r h hs =
    let b = bind_ok (count_of line) (λ n. take_room s n p.room >>= λ room. after_count s n room p.lists) r h in
    let c = bind_ok (take_room s b.0 p.room) (λ room. after_count s b.0 room p.lists) r b.2 in
    let f = count_found line b.0 b.1 in
    counted s b.0 c.0 p.lists line r f.0 f.1 hs c.2

-- ---- from the first line to the last

-- the lines after those that were taken
pub record Ends (taken ls : List Line) (p : Partial) (t : Tree) (rest : List Line) : Type 0 where
  pub lines : taken ++ ls ≡ value_lines t ++ rest
  pub is : IsWritable t
  pub begins : p ≡ begun

some_is : (x y : Tree) → Some x ≡ Some y → x ≡ y
some_is x y e = cc

none_is : {A : Type 0} (x : Tree) → None ≡ Some x → A
none_is x e = absurd cc

abbrev nowhere : Partial → Place Partial Tree
nowhere p = (p, None, [])

abbrev whole : Partial → Tree → List Line → Place Partial Tree
whole p t ls = (p, Some t, ls)

abbrev went_on : Sizes → List Line → Partial × Option Tree → Result (Place Partial Tree) LineFault
went_on s ls r = elim r.1 [ None ↦ until (value_line s) r.0 ls | Some x ↦ Ok (whole r.0 x ls) ]

pub lines_found : (s : Sizes) (ls : List Line) (p q : Partial) (t : Tree) (rest : List Line) → AreOpened p.lists → until (value_line s) p ls ≡ Ok (q, Some t, rest) → Ends (value_read (p, None)) ls q t rest
lines_found s [] p q t rest hs e =
    let pair = ok_is (nowhere p) (q, Some t, rest) e in
    none_is t (ap (λ (x : Place Partial Tree). x.1) pair)
lines_found s (l ∷ ls) p q t rest hs e =
    let b = bind_ok (value_line s p l) (went_on s ls) (whole q t rest) e in
    let f = value_found s p.expected p l b.0 b.1 hs in
    along (value_read (p, None)) (λ m k g. lines_found s ls m q t rest k g) b.0 f b.2
  where
    along : (taken : List Line) → ((m : Partial) → AreOpened m.lists → until (value_line s) m ls ≡ Ok (q, Some t, rest) → Ends (value_read (m, None)) ls q t rest)
        → (r : Partial × Option Tree) → Finds (taken ++ l ∷ []) r → went_on s ls r ≡ Ok (whole q t rest) → Ends taken (l ∷ ls) q t rest
    along taken on (m, None) f g =
        let more = on m f.is g in
        record { lines = sym (append_assoc taken (l ∷ []) ls) ∙ ap (λ (ks : List Line). ks ++ ls) (sym f.read) ∙ more.lines; is = more.is; begins = more.begins }
    along taken on (m, Some x) f g =
        let pair = ok_is (whole m x ls) (whole q t rest) g in
        let tree_is : x ≡ t = some_is x t (ap (λ (y : Place Partial Tree). y.1) pair) in
        let state_is : m ≡ q = ap (λ (y : Place Partial Tree). y.0) pair in
        let rest_is : ls ≡ rest = ap (λ (y : Place Partial Tree). y.2) pair in
        record {
          lines = sym (append_assoc taken (l ∷ []) ls) ∙ ap (λ (ks : List Line). ks ++ ls) (sym f.read) ∙ ap (λ (y : Tree). value_lines y ++ ls) tree_is ∙ ap (λ (ks : List Line). value_lines t ++ ks) rest_is;
          is = subst IsWritable tree_is f.is.0;
          begins = sym state_is ∙ f.is.1;
        }

pub one_value : (t u : Tree) (more : List Line) → IsWritable t → IsWritable u → value_lines t ++ more ≡ value_lines u → t ≡ u
one_value t u more h k e =
    let one : until (value_line unlimited) begun (value_lines u) ≡ Ok (whole begun t more) = ap (until (value_line unlimited) begun) (sym e) ∙ value_again unlimited t h tt more in
    let two : until (value_line unlimited) begun (value_lines u) ≡ Ok (whole begun u []) = ap (until (value_line unlimited) begun) (sym (append-nil (value_lines u))) ∙ value_again unlimited u k tt [] in
    let pair = ok_is (whole begun t more) (whole begun u []) (sym one ∙ two) in
    some_is t u (ap (λ (y : Place Partial Tree). y.1) pair)
