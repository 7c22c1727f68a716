-- Limits on sizes change nothing but that they refuse.
use Rattle.std.proofs.Common.{ℕ, zero, suc, ◌-◌, Bool, true, false, cond, leb, ltb, List, [], ◌∷◌, ◌++◌, length, Option, None, Result, Ok, Err, inl, inr, refl, sym, subst}
use Rattle.std.specs.List.{list_all}
use Rattle.moo_value.specs.Size.{weight_limit}
use Rattle.moo_value.specs.Tree.{Tree, integer, object, error, string, list_of}
use Rattle.moo_dbtext_object.specs.declared.fault.LineFault.{LineFault}
use Rattle.moo_dbtext_object.specs.declared.fault.LineFault.TheVariants.{BadString}
use Rattle.moo_dbtext_object.specs.declared.value_reader.Expected.{Expected}
use Rattle.moo_dbtext_object.specs.declared.value_reader.Expected.TheVariants as expected
use Rattle.moo_dbtext_object.specs.Lines.{Line, ◌>>=◌, unlimited, limited, within, number_of, count_of, most_records, bounded_count_of, is_text_byte, text_of, Cut}
use Rattle.moo_dbtext_object.specs.Reading.{Opened, Partial, is_within, closed, after_value, after_count, may_stand, type_of, error_of, take_room, value_step}

pub cut_same : {A : Type 0} (r : Result A LineFault) → Cut r r
cut_same r = inl refl

pub cut_within : {A : Type 0} (b : Bool) (x : A) → Cut (within limited b x) (within unlimited b x)
cut_within true x = inl refl
cut_within false x = inr refl

pub cut_then : {A B : Type 0} (r q : Result A LineFault) (f g : A → Result B LineFault) → Cut r q → ((x : A) → Cut (f x) (g x)) → Cut (r >>= f) (q >>= g)
cut_then r (Ok x) f g (inl e) h = subst (λ s. Cut (s >>= f) (g x)) (sym e) (h x)
cut_then r (Err d) f g (inl e) h = subst (λ s. Cut (s >>= f) (Err d)) (sym e) (inl refl)
cut_then r q f g (inr e) h = subst (λ s. Cut (s >>= f) (q >>= g)) (sym e) (inr refl)

-- the first step is the same
pub cut_on : {A B : Type 0} (r : Result A LineFault) (f g : A → Result B LineFault) → ((x : A) → Cut (f x) (g x)) → Cut (r >>= f) (r >>= g)
cut_on r f g h = cut_then r r f g (cut_same r) h

pub text_cut : (line : Line) → Cut (text_of limited line) (text_of unlimited line)
unfolding text_of
text_cut line = decide (list_all is_text_byte line)
  where
    decide : (b : Bool) → Cut (cond b (within limited (ltb (length line) weight_limit) line) (Err BadString)) (cond b (within unlimited (ltb (length line) weight_limit) line) (Err BadString))
    decide true = cut_within (ltb (length line) weight_limit) line
    decide false = inl refl

pub bounded_count_cut : (line : Line) → Cut (bounded_count_of limited line) (bounded_count_of unlimited line)
unfolding bounded_count_of
bounded_count_cut line = cut_on (count_of line) (λ n. within limited (leb n most_records) n) (λ n. within unlimited (leb n most_records) n) (λ n. cut_within (leb n most_records) n)

after_value_cut : (t : Tree) (room : ℕ) (ls : List Opened) → Cut (after_value limited t room ls) (after_value unlimited t room ls)
unfolding after_value
after_value_cut t room [] = inl refl
after_value_cut t room ((items, zero) ∷ ls) =
    let l = list_of (items ++ t ∷ []) in
    cut_then (closed limited (items ++ t ∷ [])) (closed unlimited (items ++ t ∷ [])) (λ l. after_value limited l room ls) (λ l. after_value unlimited l room ls) (cut_within (is_within l) l) (λ l. after_value_cut l room ls)
after_value_cut t room ((items, suc n) ∷ ls) = inl refl

after_count_cut : (n room : ℕ) (ls : List Opened) → Cut (after_count limited n room ls) (after_count unlimited n room ls)
after_count_cut zero room ls =
    cut_then (closed limited []) (closed unlimited []) (λ l. after_value limited l room ls) (λ l. after_value unlimited l room ls) (cut_within (is_within (list_of [])) (list_of [])) (λ l. after_value_cut l room ls)
after_count_cut (suc n) room ls = inl refl

abbrev unfinished : Partial → Partial × Option Tree
unfinished p = (p, None)

pub value_cut : (e : Expected) (p : Partial) (line : Line) → Cut (value_step limited e p line) (value_step unlimited e p line)
unfolding value_step
value_cut expected.Type p line =
    cut_on (type_of line) (λ e. within limited (may_stand e p.lists) (unfinished (record p { expected = e }))) (λ e. within unlimited (may_stand e p.lists) (unfinished (record p { expected = e })))
    (λ e. cut_within (may_stand e p.lists) (unfinished (record p { expected = e })))
value_cut expected.Int p line = cut_on (number_of line) (λ z. after_value limited (integer z) p.room p.lists) (λ z. after_value unlimited (integer z) p.room p.lists) (λ z. after_value_cut (integer z) p.room p.lists)
value_cut expected.Obj p line = cut_on (number_of line) (λ z. after_value limited (object z) p.room p.lists) (λ z. after_value unlimited (object z) p.room p.lists) (λ z. after_value_cut (object z) p.room p.lists)
value_cut expected.Error p line = cut_on (error_of line) (λ e. after_value limited (error e) p.room p.lists) (λ e. after_value unlimited (error e) p.room p.lists) (λ e. after_value_cut (error e) p.room p.lists)
value_cut expected.Str p line =
    cut_then (text_of limited line) (text_of unlimited line) (λ t. take_room limited (length t) p.room >>= λ room. after_value limited (string t) room p.lists) (λ t. take_room unlimited (length t) p.room >>= λ room. after_value unlimited (string t) room p.lists)
    (text_cut line) (λ t. cut_then (take_room limited (length t) p.room) (take_room unlimited (length t) p.room) (λ room. after_value limited (string t) room p.lists) (λ room. after_value unlimited (string t) room p.lists)
    (cut_within (leb (length t) p.room) (p.room - length t)) (λ room. after_value_cut (string t) room p.lists))
value_cut expected.Count p line =
    cut_on (count_of line) (λ n. take_room limited n p.room >>= λ room. after_count limited n room p.lists) (λ n. take_room unlimited n p.room >>= λ room. after_count unlimited n room p.lists)
    (λ n. cut_then (take_room limited n p.room) (take_room unlimited n p.room) (λ room. after_count limited n room p.lists) (λ room. after_count unlimited n room p.lists)
    (cut_within (leb n p.room) (p.room - n)) (λ room. after_count_cut n room p.lists))
