-- Concatenated lists: their weight, their depth and their elements.
use Rattle.std.proofs.Common.{slice_range, ◌≡◌, ℕ, zero, suc, ◌+◌, ◌-◌, ◌≤◌, ◌<◌, max, List, [], ◌∷◌, ◌++◌, take, drop, length, arith, refl, ap, sym, ◌∙◌}
use Rattle.std.proofs.lemmas.List.{map-append, take-map, drop-map, take_rest, drop-take}
use Rattle.moo_value.specs.declared.value.Value.{Value}
use Rattle.moo_value.specs.Tree.{Tree, list_of, IsValue}
use Rattle.moo_value.specs.Size.{list_weight, list_depth, weight_limit, IsWithinLimits, IsStored}
use Rattle.moo_value.specs.Inner.{IsMeasuredList}
use Rattle.moo_value.specs.Splice.{spliced}
use Rattle.moo_value.specs.View.{tree, trees}
use Rattle.moo_value.proofs.Parts.{list_depth-drop, list_depth-take, list_weight-drop, list_weight-take, part_within, trees_part}

list_weight-joined : (ts us : List Tree) → list_weight (ts ++ us) + 1 ≡ list_weight ts + list_weight us
list_weight-joined [] us = omega arith
list_weight-joined (t ∷ ts) us = omega (arith, list_weight-joined ts us)

list_depth-joined : (ts us : List Tree) → list_depth (ts ++ us) ≡ max (list_depth ts) (list_depth us)
list_depth-joined [] [] = omega arith
list_depth-joined [] (u ∷ us) = omega arith
list_depth-joined (t ∷ ts) us = omega (arith, list_depth-joined ts us)

is_value-joined : (ts us : List Tree) → IsValue (list_of ts) → IsValue (list_of us) → IsValue (list_of (ts ++ us))
is_value-joined [] us h k = k
is_value-joined (t ∷ ts) us h k = (h.0, is_value-joined ts us h.1 k)

is_value-take : (n : ℕ) (ts : List Tree) → IsValue (list_of ts) → IsValue (list_of (take n ts))
is_value-take zero ts h = tt
is_value-take (suc n) [] h = tt
is_value-take (suc n) (t ∷ ts) h = (h.0, is_value-take n ts h.1)

is_value-drop : (n : ℕ) (ts : List Tree) → IsValue (list_of ts) → IsValue (list_of (drop n ts))
is_value-drop zero ts h = h
is_value-drop (suc n) [] h = tt
is_value-drop (suc n) (t ∷ ts) h = is_value-drop n ts h.1

-- three lists in a row are measured where together they are not too heavy
pub measured-row : (ts us rs : List Tree) (a b c p q r : ℕ) → IsStored (list_of ts) → IsStored (list_of us) → IsStored (list_of rs)
    → a ≡ list_weight ts → b ≡ list_weight us → c ≡ list_weight rs → p ≡ list_depth ts → q ≡ list_depth us → r ≡ list_depth rs
    → ((a + b) + c) - 2 ≤ weight_limit → IsMeasuredList (((a + b) + c) - 2) (max (max p q) r) (ts ++ us ++ rs)
measured-row ts us rs a b c p q r h i j a_is b_is c_is p_is q_is r_is fits =
    let heavy : ((a + b) + c) - 2 ≡ list_weight (ts ++ us ++ rs) =
    omega (arith, a_is, b_is, c_is, list_weight-joined ts us, list_weight-joined (ts ++ us) rs) in
    let deep : max (max p q) r ≡ list_depth (ts ++ us ++ rs) =
    omega (arith, p_is, q_is, r_is, list_depth-joined ts us, list_depth-joined (ts ++ us) rs) in
    record {
      weight_is = heavy;
      depth_is = deep;
      is_value = is_value-joined (ts ++ us) rs (is_value-joined ts us h.0 i.0) j.0;
      limits = record {
        weight = omega (arith, heavy, fits);
        depth = omega (arith, deep, p_is, q_is, r_is, h.1.depth, i.1.depth, j.1.depth);
      };
    }

pub too_heavy-row : (ts us rs : List Tree) (a b c : ℕ) → a ≡ list_weight ts → b ≡ list_weight us → c ≡ list_weight rs
    → weight_limit < ((a + b) + c) - 2 → IsWithinLimits (list_of (ts ++ us ++ rs)) → ⊥
too_heavy-row ts us rs a b c a_is b_is c_is heavy limits =
    omega (arith, a_is, b_is, c_is, list_weight-joined ts us, list_weight-joined (ts ++ us) rs, heavy, limits.weight)

-- the elements before a place, and those from a place on
pub front_stored : (vs : List Value) (ts : List Tree) (low : ℕ) → trees vs ≡ ts → IsValue (list_of ts) → IsWithinLimits (list_of ts)
    → IsStored (list_of (trees (take low vs)))
front_stored vs ts low is value limits =
    let e : trees (take low vs) ≡ take low ts = sym (take-map tree low vs) ∙ ap (take low) is in
    rw e (
      is_value-take low ts value,
      record { weight = omega (arith, list_weight-take low ts, limits.weight); depth = omega (arith, list_depth-take low ts, limits.depth) },
    )

pub back_stored : (vs : List Value) (ts : List Tree) (high : ℕ) → trees vs ≡ ts → IsValue (list_of ts) → IsWithinLimits (list_of ts)
    → IsStored (list_of (trees (take (length vs - high) (drop high vs))))
back_stored vs ts high is value limits =
    let e : trees (take (length vs - high) (drop high vs)) ≡ drop high ts =
    ap trees (take_rest vs high) ∙ sym (drop-map tree high vs) ∙ ap (drop high) is in
    rw e (
      is_value-drop high ts value,
      record { weight = omega (arith, list_weight-drop high ts, limits.weight); depth = omega (arith, list_depth-drop high ts, limits.depth) },
    )

-- the trees of a splice of values
pub trees_spliced : (vs ws : List Value) (ts us : List Tree) (low high : ℕ) → trees vs ≡ ts → trees ws ≡ us
    → trees (take low vs) ++ trees ws ++ trees (take (length vs - high) (drop high vs)) ≡ spliced ts low high us
trees_spliced vs ws ts us low high is mid =
    let front : trees (take low vs) ≡ take low ts = sym (take-map tree low vs) ∙ ap (take low) is in
    let back : trees (take (length vs - high) (drop high vs)) ≡ drop high ts =
    ap trees (take_rest vs high) ∙ sym (drop-map tree high vs) ∙ ap (drop high) is in
    rw (front, mid, back) refl

pub front_weighs : (vs : List Value) (n : ℕ) → list_weight (trees (take n vs)) ≤ list_weight (trees vs)
front_weighs vs n = rw (← take-map tree n vs) (list_weight-take n (trees vs))

take_nil : (n : ℕ) → take {A = Tree} n [] ≡ []
take_nil zero = refl
take_nil (suc n) = refl

drop_nil : (n : ℕ) → drop {A = Tree} n [] ≡ []
drop_nil zero = refl
drop_nil (suc n) = refl

-- the weights of the elements before a part, of the part, and of those after it
weight_of_sides : (ts : List Tree) (low high : ℕ) → low ≤ high → list_weight (take low ts) + list_weight (take (high - low) (drop low ts)) + list_weight (drop high ts) ≡ list_weight ts + 2
weight_of_sides [] low high h = omega (arith, ap list_weight (take_nil low), ap list_weight (ap (take (high - low)) (drop_nil low) ∙ take_nil (high - low)), ap list_weight (drop_nil high))
weight_of_sides (t ∷ ts) zero zero h = omega arith
weight_of_sides (t ∷ ts) zero (suc high) h =
    let same : suc high - 0 ≡ suc high = omega arith in
    let less : high - 0 ≡ high = omega arith in
    omega (arith, ap (λ k. list_weight (take k (t ∷ ts))) same, ap (λ k. list_weight (take k ts)) less, weight_of_sides ts zero high (omega arith))
weight_of_sides (t ∷ ts) (suc low) zero h = absurd (omega (arith, h))
weight_of_sides (t ∷ ts) (suc low) (suc high) h =
    let same : suc high - suc low ≡ high - low = omega arith in
    omega (arith, ap (λ k. list_weight (take k (drop low ts))) same, weight_of_sides ts low high (omega (arith, h)))

-- a part is measured by what the others weigh
pub measured-part : (vs : List Value) (low high w d front back deep : ℕ) → IsMeasuredList w d (trees vs) → low ≤ high
    → front ≡ list_weight (trees (take low vs)) → back ≡ list_weight (trees (take (length vs - high) (drop high vs))) → deep ≡ list_depth (trees (take (high - low) (drop low vs)))
    → IsMeasuredList (w + 2 - front - back) deep (slice_range (trees vs) low high)
measured-part vs low high w d front back deep m h f b e =
    let ts = trees vs in
    let before : list_weight (trees (take low vs)) ≡ list_weight (take low ts) = ap list_weight (sym (take-map tree low vs)) in
    let after : list_weight (trees (take (length vs - high) (drop high vs))) ≡ list_weight (drop high ts) = ap list_weight (ap trees (take_rest vs high) ∙ sym (drop-map tree high vs)) in
    let part : list_depth (trees (take (high - low) (drop low vs))) ≡ list_depth (slice_range ts low high) = ap list_depth (trees_part vs ts low high refl) in
    let within = part_within ts low high m.limits in
    record {
      weight_is = omega (arith, weight_of_sides ts low high h, m.weight_is, f, b, before, after);
      depth_is = e ∙ part;
      is_value = is_value-take (high - low) (drop low ts) (is_value-drop low ts m.is_value);
      limits = within;
    }

-- what the others weigh is no more than the whole
pub sides_weigh : (vs : List Value) (low high w d front back : ℕ) → IsMeasuredList w d (trees vs) → low ≤ high
    → front ≡ list_weight (trees (take low vs)) → back ≡ list_weight (trees (take (length vs - high) (drop high vs))) → front + back ≤ w + 2
sides_weigh vs low high w d front back m h f b =
    let ts = trees vs in
    let before : list_weight (trees (take low vs)) ≡ list_weight (take low ts) = ap list_weight (sym (take-map tree low vs)) in
    let after : list_weight (trees (take (length vs - high) (drop high vs))) ≡ list_weight (drop high ts) = ap list_weight (ap trees (take_rest vs high) ∙ sym (drop-map tree high vs)) in
    omega (arith, weight_of_sides ts low high h, m.weight_is, f, b, before, after)

-- a part is no deeper
pub part_nests : (vs : List Value) (low high d : ℕ) → d ≡ list_depth (trees vs) → list_depth (trees (take (high - low) (drop low vs))) ≤ d
part_nests vs low high d e =
    let part : list_depth (trees (take (high - low) (drop low vs))) ≡ list_depth (slice_range (trees vs) low high) = ap list_depth (trees_part vs (trees vs) low high refl) in
    omega (arith, e, part, list_depth-take (high - low) (drop low (trees vs)), list_depth-drop low (trees vs))

-- the elements of a part
pub trees_narrowed : (vs : List Value) (low high : ℕ) → low ≤ high → trees (drop low (take high vs)) ≡ slice_range (trees vs) low high
trees_narrowed vs low high h =
    let whole : high ≡ low + (high - low) = omega (arith, h) in
    ap (λ k. trees (drop low (take k vs))) whole ∙ ap trees (drop-take low (high - low) vs) ∙ trees_part vs (trees vs) low high refl

-- the weight of a list with a part replaced, by what the list, the part and the other list weigh
pub splice_weighs : (vs : List Value) (us : List Tree) (low high w d part mid : ℕ) → IsMeasuredList w d (trees vs) → low ≤ high
    → part ≡ list_weight (trees (take (high - low) (drop low vs))) → mid ≡ list_weight us → (part ≤ w + mid) × ((w + mid) - part ≡ list_weight (spliced (trees vs) low high us))
splice_weighs vs us low high w d part mid m h part_is mid_is =
    let ts = trees vs in
    let own : list_weight (trees (take (high - low) (drop low vs))) ≡ list_weight (take (high - low) (drop low ts)) = ap list_weight (trees_part vs ts low high refl) in
    let sides = weight_of_sides ts low high h in
    let front = list_weight-joined (take low ts) us in
    let whole = list_weight-joined (take low ts ++ us) (drop high ts) in
    (omega (arith, sides, m.weight_is, part_is, own, mid_is), omega (arith, sides, m.weight_is, part_is, own, mid_is, front, whole))

-- a list with a part replaced is measured if it is not too heavy
pub measured-splice : (vs : List Value) (us : List Tree) (low high w d part mid p q : ℕ) → IsMeasuredList w d (trees vs) → IsStored (list_of us) → low ≤ high
    → part ≡ list_weight (trees (take (high - low) (drop low vs))) → mid ≡ list_weight us
    → p ≡ max (list_depth (take low (trees vs))) (list_depth (drop high (trees vs))) → q ≡ list_depth us
    → (w + mid) - part ≤ weight_limit → IsMeasuredList ((w + mid) - part) (max p q) (spliced (trees vs) low high us)
measured-splice vs us low high w d part mid p q m s h part_is mid_is p_is q_is fits =
    let ts = trees vs in
    let heavy = (splice_weighs vs us low high w d part mid m h part_is mid_is).1 in
    let deep : max p q ≡ list_depth (spliced ts low high us) =
    omega (arith, p_is, q_is, list_depth-joined (take low ts) us, list_depth-joined (take low ts ++ us) (drop high ts)) in
    record {
      weight_is = heavy;
      depth_is = deep;
      is_value = is_value-joined (take low ts ++ us) (drop high ts) (is_value-joined (take low ts) us (is_value-take low ts m.is_value) s.0) (is_value-drop high ts m.is_value);
      limits = record {
        weight = omega (arith, heavy, fits);
        depth = omega (arith, deep, p_is, q_is, list_depth-take low ts, list_depth-drop high ts, m.limits.depth, s.1.depth);
      };
    }

pub too_heavy-splice : (vs : List Value) (us : List Tree) (low high w d part mid : ℕ) → IsMeasuredList w d (trees vs) → low ≤ high
    → part ≡ list_weight (trees (take (high - low) (drop low vs))) → mid ≡ list_weight us
    → weight_limit < (w + mid) - part → IsWithinLimits (list_of (spliced (trees vs) low high us)) → ⊥
too_heavy-splice vs us low high w d part mid m h part_is mid_is heavy limits =
    omega (arith, (splice_weighs vs us low high w d part mid m h part_is mid_is).1, heavy, limits.weight)

-- the elements that are replaced make a list that may be stored
pub part_stored : (vs : List Value) (low high w d : ℕ) → IsMeasuredList w d (trees vs) → IsStored (list_of (trees (take (high - low) (drop low vs))))
part_stored vs low high w d m =
    let ts = trees vs in
    let e : trees (take (high - low) (drop low vs)) ≡ slice_range ts low high = trees_part vs ts low high refl in
    rw e (is_value-take (high - low) (drop low ts) (is_value-drop low ts m.is_value), part_within ts low high m.limits)

-- the elements before a part, and those after it, are no deeper
pub front_nests : (vs : List Value) (low d : ℕ) → d ≡ list_depth (trees vs) → list_depth (trees (take low vs)) ≤ d
front_nests vs low d e =
    let before : list_depth (trees (take low vs)) ≡ list_depth (take low (trees vs)) = ap list_depth (sym (take-map tree low vs)) in
    omega (arith, e, before, list_depth-take low (trees vs))

pub back_nests : (vs : List Value) (high d : ℕ) → d ≡ list_depth (trees vs) → list_depth (trees (take (length vs - high) (drop high vs))) ≤ d
back_nests vs high d e =
    let after : list_depth (trees (take (length vs - high) (drop high vs))) ≡ list_depth (drop high (trees vs)) = ap list_depth (ap trees (take_rest vs high) ∙ sym (drop-map tree high vs)) in
    omega (arith, e, after, list_depth-drop high (trees vs))

-- the trees of values of which a part is replaced
pub trees_splice : (vs ws : List Value) (low high : ℕ) → trees (spliced vs low high ws) ≡ spliced (trees vs) low high (trees ws)
trees_splice vs ws low high =
    map-append tree (take low vs ++ ws) (drop high vs)
    ∙ ap (λ us. us ++ trees (drop high vs)) (map-append tree (take low vs) ws)
    ∙ ap (λ us. us ++ trees ws ++ trees (drop high vs)) (sym (take-map tree low vs))
    ∙ ap (λ us. take low (trees vs) ++ trees ws ++ us) (sym (drop-map tree high vs))

-- a list with a part replaced is no heavier than both lists together, and no deeper than the deeper one
pub spliced_within : (ts us : List Tree) (low high : ℕ) → low ≤ high → (list_weight (spliced ts low high us) ≤ list_weight ts + list_weight us) × (list_depth (spliced ts low high us) ≤ max (list_depth ts) (list_depth us))
spliced_within ts us low high h =
    let sides = weight_of_sides ts low high h in
    let front = list_weight-joined (take low ts) us in
    let whole = list_weight-joined (take low ts ++ us) (drop high ts) in (
      omega (arith, sides, front, whole),
      omega (arith, list_depth-joined (take low ts) us, list_depth-joined (take low ts ++ us) (drop high ts), list_depth-take low ts, list_depth-drop high ts),
    )

-- a list is as deep as the deepest of the elements before a part, of the part, and of those after it
depth_of_parts : (ts : List Tree) (low high : ℕ) → low ≤ high → list_depth ts ≡ max (max (list_depth (take low ts)) (list_depth (take (high - low) (drop low ts)))) (list_depth (drop high ts))
depth_of_parts [] low high h = omega (arith, ap list_depth (take_nil low), ap list_depth (ap (take (high - low)) (drop_nil low) ∙ take_nil (high - low)), ap list_depth (drop_nil high))
depth_of_parts (t ∷ ts) zero zero h = omega arith
depth_of_parts (t ∷ ts) zero (suc high) h =
    let same : suc high - 0 ≡ suc high = omega arith in
    let less : high - 0 ≡ high = omega arith in
    omega (arith, ap (λ k. list_depth (take k (t ∷ ts))) same, ap (λ k. list_depth (take k ts)) less, depth_of_parts ts zero high (omega arith))
depth_of_parts (t ∷ ts) (suc low) zero h = absurd (omega (arith, h))
depth_of_parts (t ∷ ts) (suc low) (suc high) h =
    let same : suc high - suc low ≡ high - low = omega arith in
    omega (arith, ap (λ k. list_depth (take k (drop low ts))) same, depth_of_parts ts low high (omega (arith, h)))

-- the depths of the elements before a part, of the part and of those after it, as a slice gives them
pub front_depth : (vs : List Value) (low : ℕ) → list_depth (trees (take low vs)) ≡ list_depth (take low (trees vs))
front_depth vs low = ap list_depth (sym (take-map tree low vs))

pub back_depth : (vs : List Value) (high : ℕ) → list_depth (trees (take (length vs - high) (drop high vs))) ≡ list_depth (drop high (trees vs))
back_depth vs high = ap list_depth (ap trees (take_rest vs high) ∙ sym (drop-map tree high vs))

-- if a part is less deep than the list, so the others make it as deep
pub others_nest : (vs : List Value) (low high d gone : ℕ) → d ≡ list_depth (trees vs) → low ≤ high → gone ≡ list_depth (trees (take (high - low) (drop low vs))) → gone < d
    → d ≡ max (list_depth (take low (trees vs))) (list_depth (drop high (trees vs)))
others_nest vs low high d gone e h gone_is less =
    let part : list_depth (trees (take (high - low) (drop low vs))) ≡ list_depth (take (high - low) (drop low (trees vs))) = ap list_depth (trees_part vs (trees vs) low high refl) in
    omega (arith, depth_of_parts (trees vs) low high h, e, gone_is, part, less)

pub front_nests_most : (vs : List Value) (low high d before : ℕ) → d ≡ list_depth (trees vs) → before ≡ list_depth (trees (take low vs)) → before ≡ d
    → d ≡ max (list_depth (take low (trees vs))) (list_depth (drop high (trees vs)))
front_nests_most vs low high d before e before_is same = omega (arith, e, before_is, same, front_depth vs low, list_depth-drop high (trees vs))
