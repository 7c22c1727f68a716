-- A way up has one end at most, and one that comes back has none.
use Rattle.std.proofs.Common.{◌≡◌, ◌≢◌, ℕ, zero, suc, ◌+◌, ◌<◌, ◌≤◌, List, length, Option, Some, None, refl, sym, ap, subst, ◌∙◌, arith, ◌⊎◌, inl, inr, get_or, set, [], ◌∷◌}
use Rattle.std.proofs.lemmas.List.{get_or-set_same, get_or-set_other, length-set, get_or_past}
use Rattle.std.proofs.lemmas.Bool.{cases_eq}
use Rattle.moo_world_tree.specs.Forest.{Links, alone, above_of, IsWayUp}
use Rattle.moo_world_tree.specs.Rooted.{IsRooted, MarksEnd}

-- after n nodes the way comes to its end
abbrev pub EndsAfter : ℕ → List Links → Option ℕ → Type 0
EndsAfter zero ns u = u ≡ None
EndsAfter (suc n) ns u = (y : ℕ) × (u ≡ Some y) × EndsAfter n ns (above_of ns y)

abbrev pub Ends : List Links → Option ℕ → Type 0
Ends ns u = (n : ℕ) × EndsAfter n ns u

-- an end is that of a way up
way_of : (n : ℕ) (ns : List Links) (x : ℕ) → EndsAfter n ns (above_of ns x) → IsRooted ns x
way_of zero ns x h = ([], h)
way_of (suc n) ns x h = let rest = way_of n ns h.0 h.2 in (h.0 ∷ rest.0, (h.1, rest.1))

end_of : (ns : List Links) (x : ℕ) (ys : List ℕ) → IsWayUp ns x ys → Ends ns (above_of ns x)
end_of ns x [] way = (0, way)
end_of ns x (y ∷ ys) way = let rest = end_of ns y ys way.1 in (suc rest.0, (y, way.0, rest.1))

one_more : (n : ℕ) (ns : List Links) (x : ℕ) (u : Option ℕ) → u ≡ Some x → EndsAfter (suc n) ns u → EndsAfter n ns (above_of ns x)
one_more n ns x u is h = let same : h.0 ≡ x = cc in subst (λ k. EndsAfter n ns (above_of ns k)) same h.2

pub rooted_of : (ns : List Links) (x : ℕ) → Ends ns (Some x) → IsRooted ns x
rooted_of ns x h = over h.0 h.1
  where
    over : (n : ℕ) → EndsAfter n ns (Some x) → IsRooted ns x
    over zero e = cc
    over (suc n) e = way_of n ns x (one_more n ns x (Some x) refl e)

pub ends_of : (ns : List Links) (x : ℕ) → IsRooted ns x → Ends ns (Some x)
ends_of ns x r = let e = end_of ns x r.0 r.1 in (suc e.0, (x, refl, e.1))

-- the way from u comes to v after n nodes
abbrev pub Passes : ℕ → List Links → Option ℕ → Option ℕ → Type 0
Passes zero ns u v = u ≡ v
Passes (suc n) ns u v = (y : ℕ) × (u ≡ Some y) × Passes n ns (above_of ns y) v

pub passes_more : (n : ℕ) (ns : List Links) (u v : Option ℕ) (y : ℕ) → Passes n ns u v → v ≡ Some y → Passes (suc n) ns u (above_of ns y)
passes_more zero ns u v y s e = (y, s ∙ e, refl)
passes_more (suc n) ns u v y s e = (s.0, s.1, passes_more n ns (above_of ns s.0) v y s.2 e)

-- a way that leads to an end ends
ends_from : (n : ℕ) (ns : List Links) (u v : Option ℕ) → Passes n ns u v → Ends ns v → Ends ns u
ends_from zero ns u v s h = subst (Ends ns) (sym s) h
ends_from (suc n) ns u v s h = let rest = ends_from n ns (above_of ns s.0) v s.2 h in (suc rest.0, (s.0, s.1, rest.1))

same_node : (o : Option ℕ) (x y : ℕ) → o ≡ Some x → o ≡ Some y → x ≡ y
same_node o x y e f = cc

-- the end seen from further on
ends_on : (n m : ℕ) (ns : List Links) (u v : Option ℕ) → Passes n ns u v → EndsAfter m ns u → (k : ℕ) × (k + n ≡ m) × EndsAfter k ns v
ends_on zero m ns u v s h = (m, omega arith, subst (EndsAfter m ns) s h)
ends_on (suc n) zero ns u v s h = absurd (let e = s.1 in cc)
ends_on (suc n) (suc m) ns u v s h =
    let same = same_node u h.0 s.0 h.1 s.1 in
    let rest = ends_on n m ns (above_of ns s.0) v s.2 (subst (λ x. EndsAfter m ns (above_of ns x)) same h.2) in
    (rest.0, omega arith, rest.2)

-- a way that comes back does not end
endless_after : (fuel m n : ℕ) (ns : List Links) (u : Option ℕ) → m ≤ fuel → Passes (suc n) ns u u → EndsAfter m ns u → ⊥
endless_after zero m n ns u le s h = let r = ends_on (suc n) m ns u u s h in omega arith
endless_after (suc fuel) m n ns u le s h = let r = ends_on (suc n) m ns u u s h in endless_after fuel r.0 n ns u (omega arith) s r.2

endless : (n : ℕ) (ns : List Links) (u : Option ℕ) → Passes (suc n) ns u u → Ends ns u → ⊥
endless n ns u s h = endless_after h.0 h.0 n ns u (omega arith) s h.1

endless_from : (n : ℕ) (ns : List Links) (u v : Option ℕ) → Passes n ns u v → (Ends ns v → ⊥) → Ends ns u → ⊥
endless_from n ns u v s refuted h = let r = ends_on n h.0 ns u v s h.1 in refuted (r.0, r.2)

-- the meaning of a mark while the path up from a node is followed
abbrev pub IsMarked : List Links → ℕ → Option ℕ → ℕ → ℕ → Type 0
IsMarked ns from at i mark = ((mark ≤ from) × IsRooted ns i) ⊎ ((mark ≡ from + 1) × ((n : ℕ) × Passes (suc n) ns (Some i) at))

pub record IsFollowed (ns : List Links) (marks : List ℕ) (from : ℕ) (at : Option ℕ) : Type 0 where
  pub len : length marks ≡ length ns
  pub reached : (n : ℕ) × Passes n ns (Some from) at
  pub marked : (i : ℕ) → i < length marks → get_or marks i 0 ≢ 0 → IsMarked ns from at i (get_or marks i 0)

pub follow_begins : (ns : List Links) (marks : List ℕ) (from : ℕ) → length marks ≡ length ns → MarksEnd ns marks from → IsFollowed ns marks from (Some from)
follow_begins ns marks from len h = record { len = len; reached = (0, refl); marked = λ i lt some. inl (h i lt some) }

-- the step up
pub follow_goes_on : (ns : List Links) (marks : List ℕ) (from x : ℕ) (at : Option ℕ) → IsFollowed ns marks from at → at ≡ Some x → x < length ns → IsFollowed ns (set marks x (from + 1)) from (above_of ns x)
follow_goes_on ns marks from x at w is low = record {
  len = length-set marks x (from + 1) ∙ w.len;
  reached = (suc w.reached.0, passes_more w.reached.0 ns (Some from) at x w.reached.1 is);
  marked = λ i lt some. decide i (cases_eq i x) lt some;
}
  where
    moved : (i mark : ℕ) → IsMarked ns from at i mark → IsMarked ns from (above_of ns x) i mark
    moved i mark (inl old) = inl old
    moved i mark (inr now) = inr (now.0, (suc now.1.0, passes_more (suc now.1.0) ns (Some i) at x now.1.1 is))

    decide : (j : ℕ) → (j ≡ x) ⊎ (j ≡ x → ⊥) → j < length (set marks x (from + 1)) → get_or (set marks x (from + 1)) j 0 ≢ 0 → IsMarked ns from (above_of ns x) j (get_or (set marks x (from + 1)) j 0)
    decide j (inl same) lt some =
        let in_range : x < length marks = omega (arith, length-set marks x (from + 1)) in
        let mark : get_or (set marks x (from + 1)) j 0 ≡ from + 1 = ap (λ (k : ℕ). get_or (set marks x (from + 1)) k 0) same ∙ get_or-set_same marks x (from + 1) 0 in_range in
        inr (mark, (0, (x, ap (λ k. Some k) same, refl)))
    decide j (inr other) lt some =
        let mark : get_or (set marks x (from + 1)) j 0 ≡ get_or marks j 0 = get_or-set_other marks x j (from + 1) 0 other in
        subst (IsMarked ns from (above_of ns x) j) (sym mark) (moved j (get_or marks j 0) (w.marked j (omega (arith, length-set marks x (from + 1))) (λ e. some (mark ∙ e))))

follow_ends : (ns : List Links) (marks : List ℕ) (from : ℕ) (at : Option ℕ) → IsFollowed ns marks from at → Ends ns at → IsRooted ns from × MarksEnd ns marks (from + 1)
follow_ends ns marks from at w h = (rooted_of ns from (ends_from w.reached.0 ns (Some from) at w.reached.1 h), λ i lt some. each i (get_or marks i 0) (w.marked i lt some))
  where
    each : (i mark : ℕ) → IsMarked ns from at i mark → (mark ≤ from + 1) × IsRooted ns i
    each i mark (inl old) = (omega (arith, old.0), old.1)
    each i mark (inr now) = (omega (arith, now.0), rooted_of ns i (ends_from (suc now.1.0) ns (Some i) at now.1.1 h))

-- the way has come to its end
pub follow_at_end : (ns : List Links) (marks : List ℕ) (from : ℕ) (at : Option ℕ) → IsFollowed ns marks from at → ((x : ℕ) → at ≡ Some x → length ns ≤ x) → IsRooted ns from × MarksEnd ns marks (from + 1)
follow_at_end ns marks from at w out = follow_ends ns marks from at w (over at out)
  where
    over : (u : Option ℕ) → ((x : ℕ) → u ≡ Some x → length ns ≤ x) → Ends ns u
    over None h = (0, refl)
    over (Some x) h = ends_of ns x ([], ap (λ (n : Links). n.above) (get_or_past ns x alone (h x refl)))

-- the way has come to a mark of an earlier one
pub follow_joins : (ns : List Links) (marks : List ℕ) (from x : ℕ) (at : Option ℕ) → IsFollowed ns marks from at → at ≡ Some x → x < length ns → get_or marks x 0 ≢ from + 1 → get_or marks x 0 ≢ 0 → IsRooted ns from × MarksEnd ns marks (from + 1)
follow_joins ns marks from x at w is low other some = follow_ends ns marks from at w (subst (Ends ns) (sym is) (ends_of ns x (each (get_or marks x 0) other (w.marked x (omega (arith, w.len)) some))))
  where
    each : (mark : ℕ) → mark ≢ from + 1 → IsMarked ns from at x mark → IsRooted ns x
    each mark other (inl old) = old.1
    each mark other (inr now) = absurd (other now.0)

-- the way has come back to a mark of its own
pub follow_returns : (ns : List Links) (marks : List ℕ) (from x : ℕ) (at : Option ℕ) → IsFollowed ns marks from at → at ≡ Some x → x < length ns → get_or marks x 0 ≡ from + 1 → IsRooted ns from → ⊥
follow_returns ns marks from x at w is low mark r = each (w.marked x (omega (arith, w.len)) (λ e. omega arith))
  where
    each : IsMarked ns from at x (get_or marks x 0) → ⊥
    each (inl old) = omega (arith, old.0, mark)
    each (inr now) = endless_from w.reached.0 ns (Some from) at w.reached.1 (subst (λ u. Ends ns u → ⊥) (sym is) (endless now.1.0 ns (Some x) (subst (λ u. Passes (suc now.1.0) ns (Some x) u) is now.1.1))) (ends_of ns from r)

-- how many have no mark
abbrev pub unmarked : List ℕ → ℕ
unmarked [] = 0
unmarked (zero ∷ ms) = suc (unmarked ms)
unmarked (suc m ∷ ms) = unmarked ms

pub unmarked-set : (ms : List ℕ) (i from : ℕ) → i < length ms → get_or ms i 0 ≡ 0 → unmarked (set ms i (from + 1)) < unmarked ms
unmarked-set [] i from lt none = absurd (omega arith)
unmarked-set (zero ∷ ms) zero from lt none = marked (from + 1) (omega arith)
  where
    marked : (m : ℕ) → 0 < m → unmarked (m ∷ ms) < suc (unmarked ms)
    marked zero some = absurd (omega arith)
    marked (suc m) some = omega arith
unmarked-set (suc m ∷ ms) zero from lt none = absurd cc
unmarked-set (zero ∷ ms) (suc i) from lt none = let rest = unmarked-set ms i from (omega arith) none in omega arith
unmarked-set (suc m ∷ ms) (suc i) from lt none = unmarked-set ms i from (omega arith) none
