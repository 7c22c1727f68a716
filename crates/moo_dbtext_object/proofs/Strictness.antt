-- If a size exceeds its limit, the line is right but for that limit.
use Rattle.std.proofs.Common.{◌≡◌, ◌≢◌, ℕ, zero, suc, ◌-◌, ℤ, pos, negsuc, Bool, true, false, cond, eqb, leb, ltb, List, [], ◌∷◌, ◌++◌, length, Option, None, Result, Ok, Err, inl, inr, subst}
use Rattle.std.specs.Prelude.{◌&&◌}
use Rattle.std.specs.List.{list_all}
use Rattle.std.specs.Fmt.{signed_decimal}
use Rattle.std.specs.Str.{bytes_eq}
use Rattle.moo_value.specs.Size.{weight_limit}
use Rattle.moo_value.specs.Tree.{Tree, integer, object, error, string, list_of}
use Rattle.moo_dbtext_object.specs.declared.fault.LineFault.{LineFault}
use Rattle.moo_dbtext_object.specs.declared.fault.LineFault.TheVariants.{BadNumber, BadString, FloatValue, BadType, TooLarge}
use Rattle.moo_dbtext_object.specs.declared.value_reader.Expected.{Expected}
use Rattle.moo_dbtext_object.specs.declared.value_reader.Expected.TheVariants as expected
use Rattle.moo_dbtext_object.specs.Lines.{Line, ◌>>=◌, unlimited, limited, within, fits, value_of, natural_of, at_most, number_of, count_of, small_of, most_records, bounded_count_of, is_text_byte, text_of, Cut}
use Rattle.moo_dbtext_object.specs.Reading.{Opened, Partial, is_within, after_value, after_count, expected_after, may_stand, type_of, error_of, take_room, value_step}
use Rattle.moo_dbtext_object.proofs.Cutting.{text_cut}

-- the line was taken
abbrev pub IsTaken : {A : Type 0} → Result A LineFault → Type 0
IsTaken (Ok x) = Unit {0}
IsTaken (Err f) = ⊥

-- no size is past its limit
abbrev pub NeverLarge : {A : Type 0} → Result A LineFault → Type 0
NeverLarge (Ok x) = Unit {0}
NeverLarge (Err f) = f ≢ TooLarge

-- if the first answer is that a size exceeds its limit, the other one is no fault
abbrev pub Strict : {A B : Type 0} → Result A LineFault → Result B LineFault → Type 0
Strict (Ok x) q = Unit {0}
Strict (Err f) q = f ≡ TooLarge → IsTaken q

pub never_strict : {A B : Type 0} (r : Result A LineFault) (q : Result B LineFault) → NeverLarge r → Strict r q
never_strict (Ok x) q h = tt
never_strict (Err f) q h = λ e. absurd (h e)

pub never_then : {A B : Type 0} (r : Result A LineFault) (f : A → Result B LineFault) → NeverLarge r → ((x : A) → NeverLarge (f x)) → NeverLarge (r >>= f)
never_then (Ok x) f h k = k x
never_then (Err e) f h k = h

-- the first step is the same
pub strict_on : {A B : Type 0} (r : Result A LineFault) (f g : A → Result B LineFault) → NeverLarge r → ((x : A) → Strict (f x) (g x)) → Strict (r >>= f) (r >>= g)
strict_on (Ok x) f g h k = k x
strict_on (Err e) f g h k = λ large. absurd (h large)

taken_then : {A B : Type 0} (q : Result A LineFault) (g : A → Result B LineFault) → IsTaken q → ((x : A) → IsTaken (g x)) → IsTaken (q >>= g)
taken_then (Ok x) g h k = k x
taken_then (Err e) g h k = absurd h

pub strict_then : {A B : Type 0} (r q : Result A LineFault) (f g : A → Result B LineFault) → Cut r q → Strict r q → ((x : A) → Strict (f x) (g x)) → ((x : A) → IsTaken (g x)) → Strict (r >>= f) (q >>= g)
strict_then (Ok x) q f g (inl e) h k total = subst (λ s. Strict (f x) (s >>= g)) e (k x)
strict_then (Ok x) q f g (inr e) h k total = absurd cc
strict_then (Err d) q f g cut h k total = λ large. taken_then q g (h large) total

pub strict_within : {A : Type 0} (b : Bool) (x : A) → Strict (within limited b x) (within unlimited b x)
strict_within true x = tt
strict_within false x = λ large. tt

pub strict_fits : {A B : Type 0} (b : Bool) (x : A) (f g : A → Result B LineFault) → ((y : A) → Strict (f y) (g y)) → ((y : A) → IsTaken (g y)) → Strict (within limited b x >>= f) (within unlimited b x >>= g)
strict_fits true x f g k total = k x
strict_fits false x f g k total = λ large. total x

-- ---- what has no limit

pub number_never : (line : Line) → NeverLarge (number_of line)
unfolding number_of
number_never line = decide (fits (value_of line) && bytes_eq line (signed_decimal (value_of line)))
  where
    decide : (b : Bool) → NeverLarge (cond b (Ok (value_of line)) (Err BadNumber))
    decide true = tt
    decide false = λ e. cc

natural_never : (z : ℤ) → NeverLarge (natural_of z)
natural_never (pos n) = tt
natural_never (negsuc n) = λ e. cc

pub count_never : (line : Line) → NeverLarge (count_of line)
unfolding count_of
count_never line = never_then (number_of line) natural_of (number_never line) natural_never

pub small_never : (most : ℕ) (line : Line) → NeverLarge (small_of most line)
unfolding small_of
small_never most line = never_then (count_of line) (at_most most) (count_never line) (λ n. decide n (leb n most))
  where
    decide : (n : ℕ) (b : Bool) → NeverLarge (cond b (Ok n) (Err BadNumber))
    decide n true = tt
    decide n false = λ e. cc

expected_never : (z : ℤ) → NeverLarge (expected_after z)
expected_never (pos n) = decide (eqb n 0) (eqb n 1) (eqb n 2) (eqb n 3) (eqb n 4) (eqb n 9)
  where
    decide : (a b c d e f : Bool)
        → NeverLarge (cond a (Ok expected.Int) (cond b (Ok expected.Obj) (cond c (Ok expected.Str) (cond d (Ok expected.Error) (cond e (Ok expected.Count) (cond f (Err FloatValue) (Err BadType)))))))
    decide true b c d e f = tt
    decide false true c d e f = tt
    decide false false true d e f = tt
    decide false false false true e f = tt
    decide false false false false true f = tt
    decide false false false false false true = λ h. cc
    decide false false false false false false = λ h. cc
expected_never (negsuc n) = λ e. cc

type_never : (line : Line) → NeverLarge (type_of line)
unfolding type_of
type_never line = never_then (number_of line) expected_after (number_never line) expected_never

error_never : (line : Line) → NeverLarge (error_of line)
unfolding error_of
error_never line = never_then (small_of 15 line) _ (small_never 15 line) (λ n. tt)

-- ---- what has one

pub text_strict : (line : Line) → Strict (text_of limited line) (text_of unlimited line)
unfolding text_of
text_strict line = decide (list_all is_text_byte line)
  where
    decide : (b : Bool) → Strict (cond b (within limited (ltb (length line) weight_limit) line) (Err BadString)) (cond b (within unlimited (ltb (length line) weight_limit) line) (Err BadString))
    decide true = strict_within (ltb (length line) weight_limit) line
    decide false = λ e. absurd cc

pub bounded_count_strict : (line : Line) → Strict (bounded_count_of limited line) (bounded_count_of unlimited line)
unfolding bounded_count_of
bounded_count_strict line = strict_on (count_of line) (λ n. within limited (leb n most_records) n) (λ n. within unlimited (leb n most_records) n) (count_never line) (λ n. strict_within (leb n most_records) n)

after_value_taken : (t : Tree) (room : ℕ) (ls : List Opened) → IsTaken (after_value unlimited t room ls)
unfolding after_value
after_value_taken t room [] = tt
after_value_taken t room ((items, zero) ∷ ls) = after_value_taken (list_of (items ++ t ∷ [])) room ls
after_value_taken t room ((items, suc n) ∷ ls) = tt

after_value_strict : (t : Tree) (room : ℕ) (ls : List Opened) → Strict (after_value limited t room ls) (after_value unlimited t room ls)
unfolding after_value
after_value_strict t room [] = tt
after_value_strict t room ((items, zero) ∷ ls) =
    let l = list_of (items ++ t ∷ []) in
    strict_fits (is_within l) l (λ l. after_value limited l room ls) (λ l. after_value unlimited l room ls) (λ l. after_value_strict l room ls) (λ l. after_value_taken l room ls)
after_value_strict t room ((items, suc n) ∷ ls) = tt

after_count_taken : (n room : ℕ) (ls : List Opened) → IsTaken (after_count unlimited n room ls)
after_count_taken zero room ls = after_value_taken (list_of []) room ls
after_count_taken (suc n) room ls = tt

after_count_strict : (n room : ℕ) (ls : List Opened) → Strict (after_count limited n room ls) (after_count unlimited n room ls)
after_count_strict zero room ls =
    strict_fits (is_within (list_of [])) (list_of []) (λ l. after_value limited l room ls) (λ l. after_value unlimited l room ls) (λ l. after_value_strict l room ls) (λ l. after_value_taken l room ls)
after_count_strict (suc n) room ls = tt

abbrev unfinished : Partial → Partial × Option Tree
unfinished p = (p, None)

pub value_strict : (e : Expected) (p : Partial) (line : Line) → Strict (value_step limited e p line) (value_step unlimited e p line)
unfolding value_step
value_strict expected.Type p line =
    strict_on (type_of line) (λ e. within limited (may_stand e p.lists) (unfinished (record p { expected = e }))) (λ e. within unlimited (may_stand e p.lists) (unfinished (record p { expected = e }))) (type_never line)
    (λ e. strict_within (may_stand e p.lists) (unfinished (record p { expected = e })))
value_strict expected.Int p line = strict_on (number_of line) (λ z. after_value limited (integer z) p.room p.lists) (λ z. after_value unlimited (integer z) p.room p.lists) (number_never line) (λ z. after_value_strict (integer z) p.room p.lists)
value_strict expected.Obj p line = strict_on (number_of line) (λ z. after_value limited (object z) p.room p.lists) (λ z. after_value unlimited (object z) p.room p.lists) (number_never line) (λ z. after_value_strict (object z) p.room p.lists)
value_strict expected.Error p line = strict_on (error_of line) (λ e. after_value limited (error e) p.room p.lists) (λ e. after_value unlimited (error e) p.room p.lists) (error_never line) (λ e. after_value_strict (error e) p.room p.lists)
value_strict expected.Str p line =
    strict_then (text_of limited line) (text_of unlimited line) (λ t. take_room limited (length t) p.room >>= λ room. after_value limited (string t) room p.lists) (λ t. take_room unlimited (length t) p.room >>= λ room. after_value unlimited (string t) room p.lists)
    (text_cut line) (text_strict line)
    (λ t. strict_fits (leb (length t) p.room) (p.room - length t) (λ room. after_value limited (string t) room p.lists) (λ room. after_value unlimited (string t) room p.lists) (λ room. after_value_strict (string t) room p.lists) (λ room. after_value_taken (string t) room p.lists))
    (λ t. after_value_taken (string t) (p.room - length t) p.lists)
value_strict expected.Count p line =
    strict_on (count_of line) (λ n. take_room limited n p.room >>= λ room. after_count limited n room p.lists) (λ n. take_room unlimited n p.room >>= λ room. after_count unlimited n room p.lists) (count_never line)
    (λ n. strict_fits (leb n p.room) (p.room - n) (λ room. after_count limited n room p.lists) (λ room. after_count unlimited n room p.lists) (λ room. after_count_strict n room p.lists) (λ room. after_count_taken n room p.lists))
