-- What is read under the limits on sizes is within them.
use Rattle.std.proofs.Common.{◌≡◌, ℕ, zero, suc, ◌<◌, ◌≤◌, Bool, true, false, cond, leb, ltb, List, [], ◌∷◌, ◌++◌, length, Option, Some, None, Ok, Err, refl, ap, subst, ◌∙◌, arith}
use Rattle.std.specs.List.{list_all}
use Rattle.std.proofs.lemmas.Bool.{leb-true, ltb-true}
use Rattle.moo_value.specs.Tree.{Tree, integer, object, error, string, list_of}
use Rattle.moo_value.specs.Size.{weight, depth, weight_limit, depth_limit, IsWithinLimits, IsString}
use Rattle.moo_dbtext_object.specs.declared.fault.LineFault.TheVariants.{BadString}
use Rattle.moo_dbtext_object.specs.Lines.{Line, limited, ◌>>=◌, within, most_records, is_text_byte, number_of, count_of, bounded_count_of, text_of}
use Rattle.moo_dbtext_object.specs.Reading.{Opened, Partial, begun, opening, is_within, closed, after_value, after_count, may_stand, type_of, error_of, take_room, value_step}
use Rattle.moo_dbtext_object.specs.declared.value_reader.Expected.{Expected}
use Rattle.moo_dbtext_object.specs.declared.value_reader.Expected.TheVariants as expected
use Rattle.moo_dbtext_object.proofs.Steps.{bind_ok, ok_is, within_ok}
use Rattle.moo_dbtext_object.proofs.LineLaws.{both_true}
use Rattle.moo_dbtext_object.proofs.TextLaws.{text_found}

pub within_is : {A : Type 0} (b : Bool) (x y : A) → within limited b x ≡ Ok y → b ≡ true
within_is true x y e = refl
within_is false x y e = absurd cc

pub text_small : (line t : Line) → text_of limited line ≡ Ok t → IsString t
unfolding text_of
text_small line t e = record { text = (text_found limited line t e).0; fits = decide (list_all is_text_byte line) e }
  where
    decide : (b : Bool) → cond b (within limited (ltb (length line) weight_limit) line) (Err BadString) ≡ Ok t → length t < weight_limit
    decide true f =
        let short = ltb-true _ _ (within_is (ltb (length line) weight_limit) line t f) in
        let same : length line ≡ length t = ap length (within_ok limited (ltb (length line) weight_limit) line t f) in
        omega arith
    decide false f = absurd cc

pub count_small : (line : Line) (n : ℕ) → bounded_count_of limited line ≡ Ok n → n ≤ most_records
unfolding bounded_count_of
count_small line n e =
    let b = bind_ok (count_of line) (λ k. within limited (leb k most_records) k) n e in
    let few = leb-true _ _ (within_is (leb b.0 most_records) b.0 n b.2) in
    let same = within_ok limited (leb b.0 most_records) b.0 n b.2 in
    omega arith

closed_small : (ts : List Tree) (t : Tree) → closed limited ts ≡ Ok t → IsWithinLimits t
closed_small ts t e =
    let l = list_of ts in
    let both = both_true (leb (weight l) weight_limit) (leb (depth l) depth_limit) (within_is (is_within l) l t e) in
    subst IsWithinLimits (within_ok limited (is_within l) l t e) (record { weight = leb-true _ _ both.0; depth = leb-true _ _ both.1 })

no_value : (p : Partial) (q : Partial × Option Tree) (t : Tree) → (p, None) ≡ q → q.1 ≡ Some t → ⊥
no_value p q t e f = let none : None ≡ Some t = ap (λ (r : Partial × Option Tree). r.1) e ∙ f in cc

after_small : (t : Tree) → IsWithinLimits t → (room : ℕ) (ls : List Opened) (q : Partial × Option Tree) (u : Tree) → after_value limited t room ls ≡ Ok q → q.1 ≡ Some u → IsWithinLimits u
unfolding after_value
after_small t h room [] q u e f =
    let made : Partial × Option Tree = (begun, Some t) in
    let some : Tree → Option Tree = λ x. Some x in
    let same : some t ≡ some u = ap (λ (r : Partial × Option Tree). r.1) (ok_is made q e) ∙ f in
    subst IsWithinLimits (let is : t ≡ u = cc in is) h
after_small t h room ((items, zero) ∷ ls) q u e f =
    let b = bind_ok (closed limited (items ++ t ∷ [])) (λ l. after_value limited l room ls) q e in
    after_small b.0 (closed_small (items ++ t ∷ []) b.0 b.1) room ls q u b.2 f
after_small t h room ((items, suc n) ∷ ls) q u e f = absurd (no_value (opening room ((items ++ t ∷ [], n) ∷ ls)) q u (ok_is (opening room ((items ++ t ∷ [], n) ∷ ls), None) q e) f)

pub value_small : (x : Expected) (p : Partial) (line : Line) (q : Partial × Option Tree) (u : Tree) → value_step limited x p line ≡ Ok q → q.1 ≡ Some u → IsWithinLimits u
unfolding value_step
value_small expected.Type p line q u e f =
    let b = bind_ok (type_of line) (λ x. within limited (may_stand x p.lists) (record p { expected = x }, None)) q e in
    absurd (no_value (record p { expected = b.0 }) q u (within_ok limited (may_stand b.0 p.lists) (record p { expected = b.0 }, None) q b.2) f)
value_small expected.Int p line q u e f =
    let b = bind_ok (number_of line) (λ z. after_value limited (integer z) p.room p.lists) q e in
    after_small (integer b.0) (record { weight = omega arith; depth = omega arith }) p.room p.lists q u b.2 f
value_small expected.Obj p line q u e f =
    let b = bind_ok (number_of line) (λ z. after_value limited (object z) p.room p.lists) q e in
    after_small (object b.0) (record { weight = omega arith; depth = omega arith }) p.room p.lists q u b.2 f
value_small expected.Error p line q u e f =
    let b = bind_ok (error_of line) (λ x. after_value limited (error x) p.room p.lists) q e in
    after_small (error b.0) (record { weight = omega arith; depth = omega arith }) p.room p.lists q u b.2 f
value_small expected.Str p line q u e f =
    let b = bind_ok (text_of limited line) (λ t. take_room limited (length t) p.room >>= λ room. after_value limited (string t) room p.lists) q e in
    let c = bind_ok (take_room limited (length b.0) p.room) (λ room. after_value limited (string b.0) room p.lists) q b.2 in
    let small = text_small line b.0 b.1 in
    let fits = small.fits in
    after_small (string b.0) (record { weight = omega arith; depth = omega arith }) c.0 p.lists q u c.2 f
value_small expected.Count p line q u e f =
    let b = bind_ok (count_of line) (λ n. take_room limited n p.room >>= λ room. after_count limited n room p.lists) q e in
    let c = bind_ok (take_room limited b.0 p.room) (λ room. after_count limited b.0 room p.lists) q b.2 in
    counted b.0 c.0 c.2
  where
    counted : (n room : ℕ) → after_count limited n room p.lists ≡ Ok q → IsWithinLimits u
    counted zero room g =
        let d = bind_ok (closed limited []) (λ l. after_value limited l room p.lists) q g in
        after_small d.0 (closed_small [] d.0 d.1) room p.lists q u d.2 f
    counted (suc n) room g = absurd (no_value (opening room (([], n) ∷ p.lists)) q u (ok_is (opening room (([], n) ∷ p.lists), None) q g) f)
