-- Headings that were written are read again, and those that were read are spelled so.
use Rattle.std.proofs.Common.{◌≡◌, ◌≢◌, ℕ, ℤ, pos, negsuc, zero, suc, ◌<◌, ◌≤◌, ◌^◌, Bool, true, false, cond, eqb, leb, [], ◌∷◌, ◌++◌, length, Option, Some, None, Result, Ok, Err, refl, sym, ap, subst, ◌∙◌, arith, inl, inr}
use Rattle.std.specs.Prelude.{codes, FitsSigned}
use Rattle.std.specs.Int.{w32}
use Rattle.std.specs.Fmt.{signed_decimal, decimal}
use Rattle.std.specs.List.{AllByRecursion}
use Rattle.std.specs.Str.{bytes_eq}
use Rattle.std.specs.Str.Parse.{AllDigits}
use Rattle.std.proofs.lemmas.Bool.{eqb-true, leb-true, le-leb}
use Rattle.std.proofs.lemmas.List.{length-append, append-nil}
use Rattle.std.proofs.lemmas.Fmt.{decimal_digit, decimal_is_IsNumeral}
use Rattle.std.proofs.lemmas.Str.Parse.{digit_from_value}
use Rattle.std.proofs.lemmas.Slice.Eq.{bytes_eq-Decides}
use Rattle.moo_dbtext_object.specs.declared.fault.LineFault.{LineFault}
use Rattle.moo_dbtext_object.specs.declared.fault.LineFault.TheVariants.{BadHeader, Version, BadNumber, BadObjectLine, BadProgramLine, BadConnections}
use Rattle.moo_dbtext_object.specs.Lines.{Line, ◌>>=◌, Sizes, unlimited, limited, within, most_records, IsCountOf, number_of, count_of, count_line}
use Rattle.moo_dbtext_object.proofs.LineLaws.{number_found, chosen_ok, both_true}
use Rattle.moo_dbtext_object.proofs.Steps.{bind_ok, ok_is, within_ok, within_true, branch}
use Rattle.moo_dbtext_object.proofs.TextLaws.{number_again, count_again, count_found}
use Rattle.moo_dbtext_object.proofs.ValueSmall.{within_is}
use Rattle.moo_dbtext_record.specs.Programs.{Table, is_open, program_line}
use Rattle.moo_dbtext_record.specs.Texts.{Link, header_front, header_line, live_line, recycled_line, link_line, connections_line, IsLink, IsVersion}
use Rattle.moo_dbtext_record.specs.Headings.{before, parts_of, following, told_as, count_or, number_or, is_read, known_version, version_in, version_after, version_of, head_of, verb_in, verb_after, verb_named, open_verb, program_head_of, no_tasks, tasks_in, tasks_of, form_of, connections_in, connection_count_of, pair_in, connection_of}
use Rattle.moo_dbtext_record.specs.declared.dump.Form.{Form}
use Rattle.moo_dbtext_record.specs.declared.dump.Form.TheVariants as form
use Rattle.moo_dbtext_record.proofs.HeadingLaws.{skip, stop, after_again, after_found}

eq_self : (line : Line) → bytes_eq line line ≡ true
eq_self line = (bytes_eq-Decides line line).1 refl

eq_is : (a b : Line) → bytes_eq a b ≡ true → a ≡ b
eq_is a b e = (bytes_eq-Decides a b).0 e

differs : (a b : Line) → a ≢ b → bytes_eq a b ≡ false
differs a b other = decide (bytes_eq a b) (λ e. other (eq_is a b e))
  where
    decide : (t : Bool) → (t ≡ true → ⊥) → t ≡ false
    decide true refuted = absurd (refuted refl)
    decide false refuted = refl

-- ---- the line of an object's number

pub live_again : (n : ℕ) → head_of n (live_line n) ≡ Ok true
unfolding head_of
live_again n = rw (eq_self (live_line n)) refl

recycled_differs : (n : ℕ) → recycled_line n ≢ live_line n
recycled_differs n e =
    let longer = length-append (live_line n) (codes " recycled") in
    let same : length (recycled_line n) ≡ length (live_line n) = ap length e in
    omega arith

pub recycled_again : (n : ℕ) → head_of n (recycled_line n) ≡ Ok false
unfolding head_of
recycled_again n = rw (differs (recycled_line n) (live_line n) (recycled_differs n), eq_self (recycled_line n)) refl

pub head_found : (n : ℕ) (line : Line) (live : Bool) → head_of n line ≡ Ok live → line ≡ cond live (live_line n) (recycled_line n)
unfolding head_of
head_found n line live e =
    elim (branch (bytes_eq line (live_line n)) true live _ e) [
      | inl p ↦ eq_is line _ p.0 ∙ ap (λ (b : Bool). cond b (live_line n) (recycled_line n)) p.1
      | inr more ↦ elim (branch (bytes_eq line (recycled_line n)) false live (Err BadObjectLine) more) [
        | inl p ↦ eq_is line _ p.0 ∙ ap (λ (b : Bool). cond b (live_line n) (recycled_line n)) p.1
        | inr none ↦ absurd cc
      ]
    ]

-- ---- parts

-- no byte of a line is this one
abbrev HasNo : ℕ → Line → Type 0
HasNo at line = AllByRecursion (λ b. b ≢ at) line

parts_again : (at : ℕ) (a b : Line) → HasNo at a → parts_of at (a ++ at ∷ b) ≡ Some (a, b)
parts_again at [] b h = stop at at b refl
parts_again at (x ∷ a) b h = skip at x (a ++ at ∷ b) h.0 ∙ ap (before x) (parts_again at a b h.1)

before_some : (x : ℕ) (r : Option (Line × Line)) (p : Line × Line) → before x r ≡ Some p → (q : Line × Line) × (r ≡ Some q) × (p ≡ (x ∷ q.0, q.1))
before_some x None p e = absurd cc
before_some x (Some q) p e = (q, refl, cc)

some_is : {A : Type 0} (x y : A) → Some x ≡ Some y → x ≡ y
some_is x y e = cc

parts_found : (at : ℕ) (line : Line) (p : Line × Line) → parts_of at line ≡ Some p → line ≡ p.0 ++ at ∷ p.1
unfolding parts_of
parts_found at [] p e = absurd cc
parts_found at (x ∷ bs) p e = decide (eqb x at) refl (λ q f. parts_found at bs q f) e
  where
    decide : (t : Bool) → eqb x at ≡ t → ((q : Line × Line) → parts_of at bs ≡ Some q → bs ≡ q.0 ++ at ∷ q.1) → cond t (Some ([], bs)) (before x (parts_of at bs)) ≡ Some p → x ∷ bs ≡ p.0 ++ at ∷ p.1
    decide true is rest f = ap (λ (k : ℕ). k ∷ bs) (eqb-true x at is) ∙ ap (λ (q : Line × Line). q.0 ++ at ∷ q.1) (some_is ([], bs) p f)
    decide false is rest f =
        let b = before_some x (parts_of at bs) p f in
        ap (λ (ls : Line). x ∷ ls) (rest b.0 b.1) ∙ ap (λ (q : Line × Line). q.0 ++ at ∷ q.1) (sym b.2)

-- a blank and a colon are no digits, and no minus
record IsApart (at : ℕ) : Type 0 where
  minus : 45 ≢ at
  digits : (d : ℕ) → 48 ≤ d → d ≤ 57 → d ≢ at

blank_apart : IsApart 32
blank_apart = record { minus = λ e. omega arith; digits = λ d low high e. omega arith }

colon_apart : IsApart 58
colon_apart = record { minus = λ e. omega arith; digits = λ d low high e. omega arith }

digits_apart : (at : ℕ) → IsApart at → (ds : Line) → AllDigits 10 ds → HasNo at ds
digits_apart at k [] h = tt
digits_apart at k (d ∷ ds) h = (let range = digit_from_value d h.0 in k.digits d (omega arith) (omega arith), digits_apart at k ds h.1)

number_apart : (at : ℕ) → IsApart at → (z : ℤ) → FitsSigned w32 z → HasNo at (signed_decimal z)
number_apart at k (pos n) h = digits_apart at k (decimal n) (decimal_is_IsNumeral n (omega (arith, h.sfits))).0.1
number_apart at k (negsuc n) h = (k.minus, digits_apart at k (decimal (suc n)) (decimal_is_IsNumeral (suc n) (omega (arith, h.sfits))).0.1)

count_fits : (n : ℕ) → n < 2 ^ 31 → FitsSigned w32 (pos n)
count_fits n h = record { sfits = omega arith }

-- ---- numbers whose faults are reported as others

told_as_ok : {A : Type 0} (f : LineFault) (r : Result A LineFault) (x : A) → told_as f r ≡ Ok x → r ≡ Ok x
told_as_ok f (Ok y) x e = e
told_as_ok f (Err d) x e = absurd cc

count_or_again : (f : LineFault) (n : ℕ) → n < 2 ^ 31 → count_or f (count_line n) ≡ Ok n
unfolding count_or
count_or_again f n h = rw (count_again n h) refl

count_or_found : (f : LineFault) (line : Line) (n : ℕ) → count_or f line ≡ Ok n → (n < 2 ^ 31) × (line ≡ count_line n)
unfolding count_or
count_or_found f line n e = count_found line n (told_as_ok f (count_of line) n e)

number_or_again : (f : LineFault) (z : ℤ) → FitsSigned w32 z → number_or f (signed_decimal z) ≡ Ok z
unfolding number_or
number_or_again f z h = rw (number_again z h) refl

number_or_found : (f : LineFault) (line : Line) (z : ℤ) → number_or f line ≡ Ok z → FitsSigned w32 z × (line ≡ signed_decimal z)
unfolding number_or
number_or_found f line z e = number_found line z (told_as_ok f (number_of line) z e)

guarded : {A : Type 0} (t : Bool) (r : Result A LineFault) (d : LineFault) (x : A) → cond t r (Err d) ≡ Ok x → (t ≡ true) × (r ≡ Ok x)
guarded true r d x e = (refl, e)
guarded false r d x e = absurd cc

-- ---- the header

pub version_again : (v : ℕ) → IsVersion v → version_of (header_line v) ≡ Ok v
unfolding version_of
version_again v h =
    let front : following header_front (header_line v) ≡ Some (count_line v ++ codes " **") = after_again header_front (count_line v ++ codes " **") in
    let parts : parts_of 32 (count_line v ++ codes " **") ≡ Some (count_line v, codes "**") = parts_again 32 (count_line v) (codes "**") (number_apart 32 blank_apart (pos v) (count_fits v (omega (arith, h.high)))) in
    rw (front, parts, count_or_again BadHeader v (omega (arith, h.high)), le-leb 1 v h.low, le-leb v 4 h.high) refl

pub version_found : (line : Line) (v : ℕ) → version_of line ≡ Ok v → IsVersion v × (line ≡ header_line v)
unfolding version_of
version_found line v e = from (following header_front line) refl e
  where
    within_line : (rest : Line) → line ≡ header_front ++ rest → (o : Option (Line × Line)) → parts_of 32 rest ≡ o → version_in o ≡ Ok v → IsVersion v × (line ≡ header_line v)
    within_line rest split None is f = absurd cc
    within_line rest split (Some p) is f =
        let b = bind_ok (count_or BadHeader p.0) (λ n. cond (bytes_eq p.1 (codes "**")) (known_version n) (Err BadHeader)) v f in
        let n = count_or_found BadHeader p.0 b.0 b.1 in
        let g = guarded (bytes_eq p.1 (codes "**")) (known_version b.0) BadHeader v b.2 in
        let k = chosen_ok (is_read b.0) b.0 v (Version b.0) g.1 in
        let q = both_true (leb 1 b.0) (leb b.0 4) k.0 in (
          subst IsVersion k.1 (record { low = leb-true _ _ q.0; high = leb-true _ _ q.1 }),
          split ∙ ap (λ (r : Line). header_front ++ r) (parts_found 32 rest p is ∙ ap (λ (ds : Line). ds ++ 32 ∷ p.1) n.1 ∙ ap (λ (ws : Line). count_line b.0 ++ 32 ∷ ws) (eq_is p.1 _ g.0)) ∙ ap header_line k.1,
        )

    from : (o : Option Line) → following header_front line ≡ o → version_after o ≡ Ok v → IsVersion v × (line ≡ header_line v)
    from None is f = absurd cc
    from (Some rest) is f = within_line rest (after_found header_front line rest is) (parts_of 32 rest) refl f

-- ---- the line of a program

pub verb_again : (o v : ℕ) → o < 2 ^ 31 → v < 2 ^ 31 → verb_named (program_line o v) ≡ Ok (o, v)
unfolding verb_named
verb_again o v ho hv =
    let front : following (codes "#") (program_line o v) ≡ Some (count_line o ++ 58 ∷ count_line v) = after_again (codes "#") (count_line o ++ 58 ∷ count_line v) in
    let parts : parts_of 58 (count_line o ++ 58 ∷ count_line v) ≡ Some (count_line o, count_line v) = parts_again 58 (count_line o) (count_line v) (number_apart 58 colon_apart (pos o) (count_fits o ho)) in
    rw (front, parts, count_or_again BadProgramLine o ho, count_or_again BadProgramLine v hv) refl

abbrev pub IsHead : Table → Line → ℕ × ℕ → Type 0
IsHead table line p = (p.0 < 2 ^ 31) × (p.1 < 2 ^ 31) × (is_open p.0 p.1 table ≡ true) × (line ≡ program_line p.0 p.1)

pub program_head_again : (table : Table) (o v : ℕ) → o < 2 ^ 31 → v < 2 ^ 31 → is_open o v table ≡ true → program_head_of table (program_line o v) ≡ Ok (o, v)
unfolding program_head_of
program_head_again table o v ho hv free = rw (verb_again o v ho hv, free) refl

verb_found : (line : Line) (p : ℕ × ℕ) → verb_named line ≡ Ok p → (p.0 < 2 ^ 31) × (p.1 < 2 ^ 31) × (line ≡ program_line p.0 p.1)
unfolding verb_named
verb_found line p e = from (following (codes "#") line) refl e
  where
    within_line : (rest : Line) → line ≡ codes "#" ++ rest → (o : Option (Line × Line)) → parts_of 58 rest ≡ o → verb_in o ≡ Ok p → (p.0 < 2 ^ 31) × (p.1 < 2 ^ 31) × (line ≡ program_line p.0 p.1)
    within_line rest split None is f = absurd cc
    within_line rest split (Some q) is f =
        let b = bind_ok (count_or BadProgramLine q.0) (λ o. count_or BadProgramLine q.1 >>= λ v. Ok (o, v)) p f in
        let c = bind_ok (count_or BadProgramLine q.1) (λ v. Ok (b.0, v)) p b.2 in
        let m = count_or_found BadProgramLine q.0 b.0 b.1 in
        let n = count_or_found BadProgramLine q.1 c.0 c.1 in
        subst (λ (x : ℕ × ℕ). (x.0 < 2 ^ 31) × (x.1 < 2 ^ 31) × (line ≡ program_line x.0 x.1)) (ok_is (b.0, c.0) p c.2)
        (m.0, n.0, split ∙ ap (λ (r : Line). codes "#" ++ r) (parts_found 58 rest q is ∙ ap (λ (ds : Line). ds ++ 58 ∷ q.1) m.1 ∙ ap (λ (ds : Line). count_line b.0 ++ 58 ∷ ds) n.1))

    from : (o : Option Line) → following (codes "#") line ≡ o → verb_after o ≡ Ok p → (p.0 < 2 ^ 31) × (p.1 < 2 ^ 31) × (line ≡ program_line p.0 p.1)
    from None is f = absurd cc
    from (Some rest) is f = within_line rest (after_found (codes "#") line rest is) (parts_of 58 rest) refl f

pub program_head_found : (table : Table) (line : Line) (p : ℕ × ℕ) → program_head_of table line ≡ Ok p → IsHead table line p
unfolding program_head_of
program_head_found table line p e =
    let b = bind_ok (verb_named line) (open_verb table) p e in
    let c = chosen_ok (is_open b.0.0 b.0.1 table) b.0 p BadProgramLine b.2 in
    let f = verb_found line b.0 b.1 in
    subst (IsHead table line) c.1 (f.0, f.1, c.0, f.2)

-- ---- the tasks

pub tasks_again : (words : Line) → tasks_of words (codes "0 " ++ words) ≡ Ok tt
unfolding tasks_of
tasks_again words =
    let zero_line : codes "0" ≡ signed_decimal (pos 0) = sym (decimal_digit 0 (omega arith)) in
    let read : number_of (codes "0") ≡ Ok (pos 0) = ap number_of zero_line ∙ number_again (pos 0) (count_fits 0 (omega arith)) in
    let parts : parts_of 32 (codes "0 " ++ words) ≡ Some (codes "0", words) = parts_again 32 (codes "0") words ((λ e. omega arith), tt) in
    rw (parts, read, eq_self words) refl

no_tasks_zero : (z : ℤ) (u : Unit {0}) → no_tasks z ≡ Ok u → z ≡ pos 0
no_tasks_zero (pos zero) u e = refl
no_tasks_zero (pos (suc n)) u e = absurd cc
no_tasks_zero (negsuc n) u e = absurd cc

pub tasks_found : (words line : Line) (u : Unit {0}) → tasks_of words line ≡ Ok u → line ≡ codes "0 " ++ words
unfolding tasks_of
tasks_found words line u e = from (parts_of 32 line) refl e
  where
    from : (o : Option (Line × Line)) → parts_of 32 line ≡ o → tasks_in words o ≡ Ok u → line ≡ codes "0 " ++ words
    from None is f = absurd cc
    from (Some p) is f =
        let b = bind_ok (number_of p.0) (λ z. cond (bytes_eq p.1 words) (no_tasks z) (Err BadNumber)) u f in
        let g = guarded (bytes_eq p.1 words) (no_tasks b.0) BadNumber u b.2 in
        let digits : p.0 ≡ codes "0" = (number_found p.0 b.0 b.1).1 ∙ ap signed_decimal (no_tasks_zero b.0 u g.1) ∙ decimal_digit 0 (omega arith) in
        parts_found 32 line p is ∙ ap (λ (ds : Line). ds ++ 32 ∷ p.1) digits ∙ ap (λ (ws : Line). codes "0 " ++ ws) (eq_is p.1 words g.0)

-- ---- the section of connections

abbrev pub IsPresent : Form → Type 0
IsPresent form.Absent = ⊥
IsPresent form.Plain = Unit {0}
IsPresent form.WithListeners = Unit {0}

count_small : (s : Sizes) (n : ℕ) → IsCountOf s n → n < 2 ^ 31
count_small unlimited n h = h
count_small limited n h = omega (arith, h)

abbrev counted_form : Form → ℕ → Form × ℕ
counted_form f n = (f, n)

sized_again : (s : Sizes) (n : ℕ) → IsCountOf s n → (f : Form) → within s (leb n most_records) (counted_form f n) ≡ Ok (counted_form f n)
sized_again unlimited n h f = refl
sized_again limited n h f = within_true limited (leb n most_records) (counted_form f n) (le-leb n most_records h)

pub connection_count_again : (s : Sizes) (f : Form) (n : ℕ) → IsPresent f → IsCountOf s n → connection_count_of s (connections_line f n) ≡ Ok (f, n)
unfolding connection_count_of
connection_count_again s form.Absent n h lt = absurd h
connection_count_again s form.Plain n h lt =
    let parts : parts_of 32 (connections_line form.Plain n) ≡ Some (count_line n, codes "active connections") = parts_again 32 (count_line n) (codes "active connections") (number_apart 32 blank_apart (pos n) (count_fits n (count_small s n lt))) in
    rw (parts, count_or_again BadConnections n (count_small s n lt)) (sized_again s n lt form.Plain)
connection_count_again s form.WithListeners n h lt =
    let parts : parts_of 32 (connections_line form.WithListeners n) ≡ Some (count_line n, codes "active connections with listeners") = parts_again 32 (count_line n) (codes "active connections with listeners") (number_apart 32 blank_apart (pos n) (count_fits n (count_small s n lt))) in
    rw (parts, count_or_again BadConnections n (count_small s n lt)) (sized_again s n lt form.WithListeners)

form_found : (words : Line) (f : Form) → form_of words ≡ Ok f → IsPresent f × ((n : ℕ) → count_line n ++ 32 ∷ words ≡ connections_line f n)
form_found words f e =
    elim (branch (bytes_eq words (codes "active connections")) form.Plain f _ e) [
      | inl g ↦ subst (λ (x : Form). IsPresent x × ((n : ℕ) → count_line n ++ 32 ∷ words ≡ connections_line x n)) g.1 (tt, λ n. ap (λ (ws : Line). count_line n ++ 32 ∷ ws) (eq_is words _ g.0))
      | inr more ↦ elim (branch (bytes_eq words (codes "active connections with listeners")) form.WithListeners f (Err BadConnections) more) [
        | inl g ↦ subst (λ (x : Form). IsPresent x × ((n : ℕ) → count_line n ++ 32 ∷ words ≡ connections_line x n)) g.1 (tt, λ n. ap (λ (ws : Line). count_line n ++ 32 ∷ ws) (eq_is words _ g.0))
        | inr none ↦ absurd cc
      ]
    ]

pub connection_count_found : (s : Sizes) (line : Line) (c : Form × ℕ) → connection_count_of s line ≡ Ok c → IsPresent c.0 × (c.1 < 2 ^ 31) × (line ≡ connections_line c.0 c.1)
unfolding connection_count_of
connection_count_found s line c e = from (parts_of 32 line) refl e
  where
    from : (o : Option (Line × Line)) → parts_of 32 line ≡ o → connections_in s o ≡ Ok c → IsPresent c.0 × (c.1 < 2 ^ 31) × (line ≡ connections_line c.0 c.1)
    from None is f = absurd cc
    from (Some p) is f =
        let b = bind_ok (count_or BadConnections p.0) (λ n. form_of p.1 >>= λ f. within s (leb n most_records) (counted_form f n)) c f in
        let d = bind_ok (form_of p.1) (λ f. within s (leb b.0 most_records) (counted_form f b.0)) c b.2 in
        let same = within_ok s (leb b.0 most_records) (counted_form d.0 b.0) c d.2 in
        let n = count_or_found BadConnections p.0 b.0 b.1 in
        let g = form_found p.1 d.0 d.1 in
        subst (λ (x : Form × ℕ). IsPresent x.0 × (x.1 < 2 ^ 31) × (line ≡ connections_line x.0 x.1)) same
        (g.0, n.0, parts_found 32 line p is ∙ ap (λ (ds : Line). ds ++ 32 ∷ p.1) n.1 ∙ g.1 b.0)

connection_few : (line : Line) (c : Form × ℕ) → connection_count_of limited line ≡ Ok c → c.1 ≤ most_records
unfolding connection_count_of
connection_few line c e = from (parts_of 32 line) e
  where
    from : (o : Option (Line × Line)) → connections_in limited o ≡ Ok c → c.1 ≤ most_records
    from None f = absurd cc
    from (Some p) f =
        let b = bind_ok (count_or BadConnections p.0) (λ n. form_of p.1 >>= λ f. within limited (leb n most_records) (counted_form f n)) c f in
        let d = bind_ok (form_of p.1) (λ f. within limited (leb b.0 most_records) (counted_form f b.0)) c b.2 in
        let few = leb-true _ _ (within_is (leb b.0 most_records) (counted_form d.0 b.0) c d.2) in
        subst (λ (x : Form × ℕ). x.1 ≤ most_records) (within_ok limited (leb b.0 most_records) (counted_form d.0 b.0) c d.2) few

pub connection_count_few : (s : Sizes) (line : Line) (c : Form × ℕ) → connection_count_of s line ≡ Ok c → IsCountOf s c.1
connection_count_few unlimited line c e = (connection_count_found unlimited line c e).1
connection_count_few limited line c e = connection_few line c e

pub connection_again : (f : Form) (who : ℤ) (listener : Option ℤ) → IsLink f (record { who = who; listener = listener }) → connection_of f (link_line (record { who = who; listener = listener })) ≡ Ok (record { who = who; listener = listener })
unfolding connection_of
connection_again form.Absent who listener h = absurd h
connection_again form.Plain who None h = ap connection_plain (append-nil (signed_decimal who)) ∙ rw (number_or_again BadConnections who h.0) refl
  where
    connection_plain : Line → Result Link LineFault
    connection_plain line = connection_of form.Plain line
connection_again form.Plain who (Some z) h = absurd (let e = h.1 in cc)
connection_again form.WithListeners who None h = absurd h.1
connection_again form.WithListeners who (Some z) h =
    let parts : parts_of 32 (link_line (record { who = who; listener = Some z })) ≡ Some (signed_decimal who, signed_decimal z) = parts_again 32 (signed_decimal who) (signed_decimal z) (number_apart 32 blank_apart who h.0) in
    rw (parts, number_or_again BadConnections who h.0, number_or_again BadConnections z h.1) refl

abbrev pub IsLinkLine : Form → Line → Link → Type 0
IsLinkLine f line l = IsLink f l × (line ≡ link_line l)

pub connection_found : (f : Form) (line : Line) (l : Link) → IsPresent f → connection_of f line ≡ Ok l → IsLinkLine f line l
unfolding connection_of
connection_found form.Absent line l h e = absurd h
connection_found form.Plain line l h e =
    let b = bind_ok (number_or BadConnections line) (λ who. Ok (record { who = who; listener = None })) l e in
    let n = number_or_found BadConnections line b.0 b.1 in
    subst (IsLinkLine form.Plain line) (ok_is (record { who = b.0; listener = None }) l b.2) ((n.0, refl), n.1 ∙ sym (append-nil (signed_decimal b.0)))
connection_found form.WithListeners line l h e = from (parts_of 32 line) refl e
  where
    from : (o : Option (Line × Line)) → parts_of 32 line ≡ o → pair_in o ≡ Ok l → IsLinkLine form.WithListeners line l
    from None is f = absurd cc
    from (Some p) is f =
        let b = bind_ok (number_or BadConnections p.0) (λ who. number_or BadConnections p.1 >>= λ z. Ok (record { who = who; listener = Some z })) l f in
        let c = bind_ok (number_or BadConnections p.1) (λ z. Ok (record { who = b.0; listener = Some z })) l b.2 in
        let m = number_or_found BadConnections p.0 b.0 b.1 in
        let n = number_or_found BadConnections p.1 c.0 c.1 in
        subst (IsLinkLine form.WithListeners line) (ok_is (record { who = b.0; listener = Some c.0 }) l c.2)
        ((m.0, n.0), parts_found 32 line p is ∙ ap (λ (ds : Line). ds ++ 32 ∷ p.1) m.1 ∙ ap (λ (ds : Line). signed_decimal b.0 ++ 32 ∷ ds) n.1)
