-- The values of a scatter are assigned in one way, and only if their number fits.
use Rattle.std.proofs.Common.{◌≡◌, ℕ, zero, suc, ◌+◌, ◌-◌, ◌≤◌, List, [], ◌∷◌, ◌++◌, Bool, true, false, ◌&&◌, ◌||◌, cond, nat_le, length, take, drop, refl, sym, ap, ◌∙◌, arith}
use Rattle.std.proofs.lemmas.List.{take_at, drop_at, length-append}
use Rattle.std.proofs.lemmas.Bool.Decides.{nat_tests}
use Rattle.moo_value.specs.Tree.{Tree, list_of}
use Rattle.moo_syntax_ast.specs.Tree.{Items, no_items, element, splice, optional, defaulted}
use Rattle.moo_syntax_ast.specs.Target.{are_names}
use Rattle.moo_eval_slot.specs.Bindings.{Binding, bind}
use Rattle.moo_eval_control.specs.Scatter.{binds, required, optionals, takes_rest, fits, shares, LeftOut, lacking, given, missing}
use Rattle.moo_eval_control.specs.Dealing.{Deals, all_dealt, plain, others, filled, filled_default, without, takes_default}
use Rattle.moo_eval_control.proofs.Shared.{no_rest}

-- the number for the name after `@` is no matter if there is none
same_rest : (xs : Items) (spare a b : ℕ) (vs : List Tree) → takes_rest xs ≡ false → shares xs spare a vs ≡ shares xs spare b vs
same_rest no_items spare a b vs h = refl
same_rest (element e xs) spare a b [] h = same_rest xs spare a b [] h
same_rest (element e xs) spare a b (v ∷ vs) h = ap (λ bs. binds e v ++ bs) (same_rest xs spare a b vs h)
same_rest (splice e xs) spare a b vs h = absurd cc
same_rest (optional x xs) zero a b vs h = same_rest xs zero a b vs h
same_rest (optional x xs) (suc spare) a b [] h = same_rest xs spare a b [] h
same_rest (optional x xs) (suc spare) a b (v ∷ vs) h = ap (λ bs. bind x v ∷ bs) (same_rest xs spare a b vs h)
same_rest (defaulted x d xs) zero a b vs h = same_rest xs zero a b vs h
same_rest (defaulted x d xs) (suc spare) a b [] h = same_rest xs spare a b [] h
same_rest (defaulted x d xs) (suc spare) a b (v ∷ vs) h = ap (λ bs. bind x v ∷ bs) (same_rest xs spare a b vs h)

-- more than the names with `?` take is no matter
enough_shares : (xs : Items) (a b rest : ℕ) (vs : List Tree) → optionals xs ≤ a → optionals xs ≤ b → shares xs a rest vs ≡ shares xs b rest vs
enough_shares no_items a b rest vs h k = refl
enough_shares (element e xs) a b rest [] h k = enough_shares xs a b rest [] h k
enough_shares (element e xs) a b rest (v ∷ vs) h k = ap (λ bs. binds e v ++ bs) (enough_shares xs a b rest vs h k)
enough_shares (splice e xs) a b rest vs h k = ap (λ bs. binds e (list_of (take rest vs)) ++ bs) (enough_shares xs a b rest (drop rest vs) h k)
enough_shares (optional x xs) zero b rest vs h k = absurd (omega (arith, h))
enough_shares (optional x xs) (suc a) zero rest vs h k = absurd (omega (arith, k))
enough_shares (optional x xs) (suc a) (suc b) rest [] h k = enough_shares xs a b rest [] (omega (arith, h)) (omega (arith, k))
enough_shares (optional x xs) (suc a) (suc b) rest (v ∷ vs) h k = ap (λ bs. bind x v ∷ bs) (enough_shares xs a b rest vs (omega (arith, h)) (omega (arith, k)))
enough_shares (defaulted x d xs) zero b rest vs h k = absurd (omega (arith, h))
enough_shares (defaulted x d xs) (suc a) zero rest vs h k = absurd (omega (arith, k))
enough_shares (defaulted x d xs) (suc a) (suc b) rest [] h k = enough_shares xs a b rest [] (omega (arith, h)) (omega (arith, k))
enough_shares (defaulted x d xs) (suc a) (suc b) rest (v ∷ vs) h k = ap (λ bs. bind x v ∷ bs) (enough_shares xs a b rest vs (omega (arith, h)) (omega (arith, k)))

enough_lacking : (xs : Items) (a b : ℕ) → optionals xs ≤ a → optionals xs ≤ b → lacking xs a ≡ lacking xs b
enough_lacking no_items a b h k = refl
enough_lacking (element e xs) a b h k = enough_lacking xs a b h k
enough_lacking (splice e xs) a b h k = enough_lacking xs a b h k
enough_lacking (optional x xs) zero b h k = absurd (omega (arith, h))
enough_lacking (optional x xs) (suc a) zero h k = absurd (omega (arith, k))
enough_lacking (optional x xs) (suc a) (suc b) h k = enough_lacking xs a b (omega (arith, h)) (omega (arith, k))
enough_lacking (defaulted x d xs) zero b h k = absurd (omega (arith, h))
enough_lacking (defaulted x d xs) (suc a) zero h k = absurd (omega (arith, k))
enough_lacking (defaulted x d xs) (suc a) (suc b) h k = enough_lacking xs a b (omega (arith, h)) (omega (arith, k))

-- how many values names with `?` got, and how many the name after `@`
record Counted (lacks filling : Bool) (xs : Items) (vs : List Tree) (bs : List Binding) (ds : List LeftOut) : Type 0 where
  pub spare : ℕ
  pub rest : ℕ
  pub shared : bs ≡ shares xs spare rest vs
  pub left : ds ≡ lacking xs spare
  pub count : length vs ≡ required xs + spare + cond (takes_rest xs) rest 0
  pub most : spare ≤ optionals xs
  pub none : lacks ≡ true → rest ≡ 0
  pub full : lacks ≡ false → spare ≡ optionals xs
  pub shut : filling ≡ false → spare ≡ 0

-- the values of the name after `@` and those after it
with_rest : (us vs : List Tree) (takes : Bool) (r k rest : ℕ) → takes ≡ false → length vs ≡ r + k + cond takes rest 0 → length us + length vs ≡ r + k + length us
with_rest us vs true r k rest h n = absurd cc
with_rest us vs false r k rest h n = omega (arith, n)

counted : {lacks : Bool} (spliced : Bool) {filling : Bool} {xs : Items} {vs : List Tree} {bs : List Binding} {ds : List LeftOut} → are_names spliced xs ≡ true → Deals lacks filling xs vs bs ds → Counted lacks filling xs vs bs ds
counted spliced h all_dealt = record { spare = 0; rest = 0; shared = refl; left = refl; count = refl; most = omega arith; none = λ _. refl; full = λ _. refl; shut = λ _. refl }
counted spliced h (plain {x = x} {xs = xs} {v = v} {vs = vs} d) =
    let c = counted spliced h d in
    record { spare = c.spare; rest = c.rest; shared = ap (λ bs. bind x v ∷ bs) c.shared; left = c.left; count = omega (arith, c.count); most = c.most; none = c.none; full = c.full; shut = c.shut }
counted false h (others {x = x} {xs = xs} {us = us} {vs = vs} n d) =
    let c = counted true h d in
    let after : drop (length us) (us ++ vs) ≡ vs = drop_at us vs (length us) refl in
    let taken : take (length us) (us ++ vs) ≡ us = take_at us vs (length us) refl in
    record {
      spare = c.spare;
      rest = length us;
      shared = ap (λ bs. bind x (list_of us) ∷ bs) (c.shared ∙ same_rest xs c.spare c.rest (length us) vs (no_rest xs h)) ∙ ap (λ ws. bind x (list_of ws) ∷ shares xs c.spare (length us) vs) (sym taken) ∙ ap (λ ws. bind x (list_of (take (length us) (us ++ vs))) ∷ shares xs c.spare (length us) ws) (sym after);
      left = c.left;
      count = length-append us vs ∙ with_rest us vs (takes_rest xs) (required xs) c.spare c.rest (no_rest xs h) c.count;
      most = c.most;
      none = λ b. ap length (n b);
      full = c.full;
      shut = c.shut;
    }
counted true h (others n d) = absurd cc
counted spliced h (filled {x = x} {xs = xs} {v = v} {vs = vs} d) =
    let c = counted spliced h d in
    record { spare = suc c.spare; rest = c.rest; shared = ap (λ bs. bind x v ∷ bs) c.shared; left = c.left; count = omega (arith, c.count); most = omega (arith, c.most); none = c.none; full = λ b. ap suc (c.full b); shut = λ b. absurd cc }
counted spliced h (filled_default {x = x} {xs = xs} {v = v} {vs = vs} d) =
    let c = counted spliced h d in
    record { spare = suc c.spare; rest = c.rest; shared = ap (λ bs. bind x v ∷ bs) c.shared; left = c.left; count = omega (arith, c.count); most = omega (arith, c.most); none = c.none; full = λ b. ap suc (c.full b); shut = λ b. absurd cc }
counted spliced h (without {x = x} {xs = xs} {vs = vs} l d) =
    let c = counted spliced h d in
    let z : c.spare ≡ 0 = c.shut refl in
    record {
      spare = 0;
      rest = c.rest;
      shared = c.shared ∙ ap (λ k. shares xs k c.rest vs) z;
      left = c.left ∙ ap (lacking xs) z;
      count = c.count ∙ ap (λ k. required xs + k + cond (takes_rest xs) c.rest 0) z;
      most = omega arith;
      none = c.none;
      full = λ b. absurd cc;
      shut = λ _. refl;
    }
counted spliced h (takes_default {x = x} {d = e} {xs = xs} {vs = vs} l d) =
    let c = counted spliced h d in
    let z : c.spare ≡ 0 = c.shut refl in
    record {
      spare = 0;
      rest = c.rest;
      shared = c.shared ∙ ap (λ k. shares xs k c.rest vs) z;
      left = ap (λ ds. record { name = x; value = e } ∷ ds) (c.left ∙ ap (lacking xs) z);
      count = c.count ∙ ap (λ k. required xs + k + cond (takes_rest xs) c.rest 0) z;
      most = omega arith;
      none = c.none;
      full = λ b. absurd cc;
      shut = λ _. refl;
    }

-- enough for all names with `?`
as_filled : (xs : Items) (vs : List Tree) (takes : Bool) (spare rest : ℕ) → takes_rest xs ≡ takes → spare ≡ optionals xs → length vs ≡ required xs + spare + cond takes rest 0 → (shares xs spare rest vs ≡ given xs vs) × (lacking xs spare ≡ missing xs vs)
as_filled xs vs true spare rest t e n =
    let enough : optionals xs ≤ length vs - required xs = omega (arith, e, n) in
    let same : rest ≡ length vs - required xs - optionals xs = omega (arith, e, n) in
    (enough_shares xs spare (length vs - required xs) rest vs (omega (arith, e)) enough ∙ ap (λ r. shares xs (length vs - required xs) r vs) same, enough_lacking xs spare (length vs - required xs) (omega (arith, e)) enough)
as_filled xs vs false spare rest t e n =
    let same : spare ≡ length vs - required xs = omega (arith, n) in
    (same_rest xs spare rest (length vs - required xs - optionals xs) vs t ∙ ap (λ k. shares xs k (length vs - required xs - optionals xs) vs) same, ap (lacking xs) same)

nothing_more : (takes : Bool) (n rest : ℕ) → rest ≡ 0 → n + cond takes rest 0 ≡ n
nothing_more true n rest z = omega (arith, z)
nothing_more false n rest z = omega arith

-- some get none
as_lacking : (xs : Items) (vs : List Tree) (spare rest : ℕ) → rest ≡ 0 → spare ≤ optionals xs → length vs ≡ required xs + spare + cond (takes_rest xs) rest 0 → (shares xs spare rest vs ≡ given xs vs) × (lacking xs spare ≡ missing xs vs)
as_lacking xs vs spare rest z m n =
    let count : length vs ≡ required xs + spare = n ∙ nothing_more (takes_rest xs) (required xs + spare) rest z in
    let same : spare ≡ length vs - required xs = omega (arith, count) in
    let over : rest ≡ length vs - required xs - optionals xs = omega (arith, count, m, z) in
    (ap (λ k. shares xs k rest vs) same ∙ ap (λ r. shares xs (length vs - required xs) r vs) over, ap (lacking xs) same)

by_lacks : (lacks : Bool) {filling : Bool} {xs : Items} {vs : List Tree} {bs : List Binding} {ds : List LeftOut} → Counted lacks filling xs vs bs ds → (bs ≡ given xs vs) × (ds ≡ missing xs vs)
by_lacks false {xs = xs} {vs = vs} c = let p = as_filled xs vs (takes_rest xs) c.spare c.rest refl (c.full refl) c.count in (c.shared ∙ p.0, c.left ∙ p.1)
by_lacks true {xs = xs} {vs = vs} c = let p = as_lacking xs vs c.spare c.rest (c.none refl) c.most c.count in (c.shared ∙ p.0, c.left ∙ p.1)

pub dealt_so : (xs : Items) (vs : List Tree) (lacks : Bool) (bs : List Binding) (ds : List LeftOut) → are_names false xs ≡ true → Deals lacks true xs vs bs ds → (bs ≡ given xs vs) × (ds ≡ missing xs vs)
dealt_so xs vs lacks bs ds h d = by_lacks lacks (counted false h d)

counted_fits : (takes : Bool) (n r o spare rest : ℕ) → n ≡ r + spare + cond takes rest 0 → spare ≤ o → (nat_le r n && (takes || nat_le n (r + o))) ≡ true
counted_fits true n r o spare rest c m =
    let least : r ≤ n = omega (arith, c) in
    grind (arith, nat_tests)
counted_fits false n r o spare rest c m =
    let least : r ≤ n = omega (arith, c) in
    let most : n ≤ r + o = omega (arith, c, m) in
    grind (arith, nat_tests)

pub dealt_fits : (xs : Items) (vs : List Tree) (lacks : Bool) (bs : List Binding) (ds : List LeftOut) → are_names false xs ≡ true → Deals lacks true xs vs bs ds → fits xs (length vs) ≡ true
dealt_fits xs vs lacks bs ds h d =
    let c = counted false h d in
    counted_fits (takes_rest xs) (length vs) (required xs) (optionals xs) c.spare c.rest c.count c.most
