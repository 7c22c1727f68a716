-- The nodes after a move.
use Rattle.std.proofs.Common.{◌≡◌, ◌≢◌, ℕ, ◌<◌, ◌≤◌, List, [], ◌∷◌, ◌++◌, Option, Some, None, true, false, cond, eqb, refl, sym, ◌∙◌, ap, subst, ⊎_elim, arith, length, get_or, set, map}
use Rattle.std.specs.List.{count_by, list_any, range_with_len}
use Rattle.std.specs.Option.{option_eq}
use Rattle.std.proofs.lemmas.List.{get_or_read, get_or_past, get_or-set_same, get_or-set_other, length-set, append-nil}
use Rattle.std.proofs.lemmas.List.FromFn.{get_or-map-range_with_len, length-map-range_with_len, fill_by_all}
use Rattle.std.proofs.lemmas.List.Sums.{sum_by-append}
use Rattle.std.proofs.lemmas.Bool.{cases_Bool, eqb-true, eqb-false, eq-eqb, ne_eqb, or_parts, or_from, cases_lt, cases_eq, false≢true}
use Rattle.moo_world_tree.specs.Forest.{Links, alone, above_of, below_of, IsWayUp, ancestors, times_below, IsForest, without, newest_at, links_once_moved, moved, is_within}
use Rattle.moo_world_tree.specs.Steps.{with_newest, with_taken_out}
use Rattle.moo_world_tree.proofs.Counting.{count-cons, count_without_itself, count_without_other, without_absent}
use Rattle.moo_world_tree.proofs.Climbing.{way_up_is_ancestors, way_up_within, forest_added, links_added, above_within, IsExact, forest_from, way_up_along}

-- the nodes of a move that is one
abbrev pub relinked : List Links → ℕ → Option ℕ → List Links
relinked nodes x to = map (links_once_moved nodes x to) (range_with_len 0 (length nodes))

-- the new place is a node
abbrev pub IsPlace : List Links → Option ℕ → Type 0
IsPlace nodes to = (up : ℕ) → to ≡ Some up → up < length nodes

newest_elsewhere : (to : Option ℕ) (x y : ℕ) → ((up : ℕ) → to ≡ Some up → y ≢ up) → newest_at to x y ≡ []
newest_elsewhere None x y ne = refl
newest_elsewhere (Some up) x y ne = let e = ne_eqb y up (ne up refl) in rw e refl

relinked_past : (nodes : List Links) (x : ℕ) (to : Option ℕ) (y : ℕ) → length nodes ≤ y → length (relinked nodes x to) ≤ y
relinked_past nodes x to y past = let len = length-map-range_with_len (links_once_moved nodes x to) 0 (length nodes) in omega (arith, len)

pub above_moved : (nodes : List Links) (x : ℕ) (to : Option ℕ) (y : ℕ) → x < length nodes → above_of (relinked nodes x to) y ≡ cond (eqb y x) to (above_of nodes y)
above_moved nodes x to y node =
    ⊎_elim
    (λ h. ap (λ n. n.above) (get_or-map-range_with_len (links_once_moved nodes x to) 0 (length nodes) y y alone h (omega arith)))
    (λ past.
    let here : above_of nodes y ≡ None = ap (λ n. n.above) (get_or_past nodes y alone past) in
    let there : above_of (relinked nodes x to) y ≡ None = ap (λ n. n.above) (get_or_past (relinked nodes x to) y alone (relinked_past nodes x to y past)) in
    let other = ne_eqb y x (λ e. omega arith) in
    there ∙ (rw (other, here) refl))
    (cases_lt y (length nodes))

pub below_moved : (nodes : List Links) (x : ℕ) (to : Option ℕ) (y : ℕ) → IsPlace nodes to → below_of (relinked nodes x to) y ≡ without x (below_of nodes y) ++ newest_at to x y
below_moved nodes x to y place =
    ⊎_elim
    (λ h. ap (λ n. n.below) (get_or-map-range_with_len (links_once_moved nodes x to) 0 (length nodes) y y alone h (omega arith)))
    (λ past.
    let here : below_of nodes y ≡ [] = ap (λ n. n.below) (get_or_past nodes y alone past) in
    let there : below_of (relinked nodes x to) y ≡ [] = ap (λ n. n.below) (get_or_past (relinked nodes x to) y alone (relinked_past nodes x to y past)) in
    let other = newest_elsewhere to x y (λ up is e. omega (arith, place up is)) in
    there ∙ sym (ap (λ xs. without x xs ++ newest_at to x y) here ∙ other))
    (cases_lt y (length nodes))

count_newest_itself : (to : Option ℕ) (x y : ℕ) → count_by (eqb x) (newest_at to x y) ≡ times_below to y
count_newest_itself None x y = refl
count_newest_itself (Some up) x y =
    ⊎_elim
    (λ e. let same = eq-eqb x x refl in
    let one : count_by (eqb x) (x ∷ []) ≡ 1 = count-cons x x [] ∙ (rw same refl) in
    rw e one)
    (λ e. rw e refl) (cases_Bool (eqb y up))

count_newest_other : (to : Option ℕ) (x y z : ℕ) → eqb z x ≡ false → count_by (eqb z) (newest_at to x y) ≡ 0
count_newest_other None x y z ne = refl
count_newest_other (Some up) x y z ne =
    ⊎_elim
    (λ e. let none : count_by (eqb z) (x ∷ []) ≡ 0 = count-cons z x [] ∙ (rw ne refl) in rw e none)
    (λ e. rw e refl) (cases_Bool (eqb y up))

-- the lists stay exact
exact_moved : (nodes : List Links) (x : ℕ) (to : Option ℕ) → IsExact nodes → x < length nodes → IsPlace nodes to → IsExact (relinked nodes x to)
exact_moved nodes x to exact node place y z =
    let below = below_moved nodes x to y place in
    let above = above_moved nodes x to z node in
    let split = sum_by-append (λ k. cond (eqb z k) 1 0) (without x (below_of nodes y)) (newest_at to x y) in
    ap (count_by (eqb z)) below ∙ split ∙
    ⊎_elim
    (λ e. let same = eqb-true z x e in
    let gone : count_by (eqb z) (without x (below_of nodes y)) ≡ 0 = rw same (count_without_itself x (below_of nodes y)) in
    let new : count_by (eqb z) (newest_at to x y) ≡ times_below to y = rw same (count_newest_itself to x y) in
    rw (above, e) (omega (arith, gone, new)))
    (λ e.
    let kept = count_without_other x z (below_of nodes y) (ne_eqb x z (λ xz. eqb-false z x e (sym xz))) in
    let none = count_newest_other to x y z e in
    rw (above, e) (omega (arith, kept, none, exact y z)))
    (cases_Bool (eqb z x))

-- a way up that does not meet x stays one
way_up_apart : (nodes : List Links) (x : ℕ) (to : Option ℕ) (y : ℕ) (ys : List ℕ) → x < length nodes → list_any (eqb x) (y ∷ ys) ≡ false → IsWayUp nodes y ys → IsWayUp (relinked nodes x to) y ys
way_up_apart nodes x to y [] node apart way =
    let parts = or_parts (eqb x y) false apart in
    let other = ne_eqb y x (λ e. eqb-false x y parts.0 (sym e)) in
    above_moved nodes x to y node ∙ (rw other way)
way_up_apart nodes x to y (z ∷ zs) node apart way =
    let parts = or_parts (eqb x y) (list_any (eqb x) (z ∷ zs)) apart in
    let other = ne_eqb y x (λ e. eqb-false x y parts.0 (sym e)) in
    (above_moved nodes x to y node ∙ (rw other way.0), way_up_apart nodes x to z zs node parts.1 way.1)

-- the new place is not below x
abbrev pub IsApart : List Links → ℕ → Option ℕ → Type 0
IsApart nodes x to = (up : ℕ) → to ≡ Some up → is_within nodes up x ≡ false

way_up_of_moved : (nodes : List Links) (x : ℕ) (to : Option ℕ) → IsForest nodes → x < length nodes → IsApart nodes x to → (ys : List ℕ) × IsWayUp (relinked nodes x to) x ys
way_up_of_moved nodes x None f node apart =
    let same = eq-eqb x x refl in
    ([], above_moved nodes x None x node ∙ (rw same refl))
way_up_of_moved nodes x (Some up) f node apart =
    let same = eq-eqb x x refl in
    (up ∷ ancestors nodes up, (above_moved nodes x (Some up) x node ∙ (rw same refl), way_up_apart nodes x (Some up) up (ancestors nodes up) node (apart up refl) (f.rooted up)))

way_up_moved : (nodes : List Links) (x : ℕ) (to : Option ℕ) → IsForest nodes → x < length nodes → IsApart nodes x to → (y : ℕ) (ys : List ℕ) → IsWayUp nodes y ys → (zs : List ℕ) × IsWayUp (relinked nodes x to) y zs
way_up_moved nodes x to f node apart y [] way =
    ⊎_elim
    (λ e. rw e (way_up_of_moved nodes x to f node apart))
    (λ ne. let other = ne_eqb y x ne in ([], above_moved nodes x to y node ∙ (rw other way)))
    (cases_eq y x)
way_up_moved nodes x to f node apart y (z ∷ zs) way =
    ⊎_elim
    (λ e. rw e (way_up_of_moved nodes x to f node apart))
    (λ ne. let other = ne_eqb y x ne in
    let rest = way_up_moved nodes x to f node apart z zs way.1 in
    (z ∷ rest.0, (above_moved nodes x to y node ∙ (rw other way.0), rest.1)))
    (cases_eq y x)

pub forest_relinked : (nodes : List Links) (x : ℕ) (to : Option ℕ) → IsForest nodes → x < length nodes → IsPlace nodes to → IsApart nodes x to → IsForest (relinked nodes x to)
forest_relinked nodes x to f node place apart =
    forest_from (relinked nodes x to) (exact_moved nodes x to f.exact node place)
    (λ y. way_up_moved nodes x to f node apart y (ancestors nodes y) (f.rooted y))

-- the steps of the code

pub above_with : (nodes : List Links) (i : ℕ) (links : Links) (y : ℕ) → links.above ≡ above_of nodes i → above_of (set nodes i links) y ≡ above_of nodes y
above_with nodes i links y same =
    ⊎_elim
    (λ e. ⊎_elim
    (λ h. let there : above_of (set nodes i links) i ≡ links.above = ap (λ n. n.above) (get_or-set_same nodes i links alone h) in rw e (there ∙ same))
    (λ past.
    let here : above_of nodes i ≡ None = ap (λ n. n.above) (get_or_past nodes i alone past) in
    let there : above_of (set nodes i links) i ≡ None = ap (λ n. n.above) (get_or_past (set nodes i links) i alone (let len = length-set nodes i links in omega (arith, len))) in
    rw e (there ∙ sym here))
    (cases_lt i (length nodes)))
    (λ ne. ap (λ n. n.above) (get_or-set_other nodes i y links alone ne))
    (cases_eq y i)

pub below_with : (nodes : List Links) (i : ℕ) (links : Links) (y : ℕ) → i < length nodes → below_of (set nodes i links) y ≡ cond (eqb y i) links.below (below_of nodes y)
below_with nodes i links y h =
    ⊎_elim
    (λ e. let same = eqb-true y i e in
    let there : below_of (set nodes i links) i ≡ links.below = ap (λ n. n.below) (get_or-set_same nodes i links alone h) in
    rw e (ap (below_of (set nodes i links)) same ∙ there))
    (λ e. let ne = eqb-false y i e in rw e (ap (λ n. n.below) (get_or-set_other nodes i y links alone ne)))
    (cases_Bool (eqb y i))

pub length_newest : (nodes : List Links) (x : ℕ) (to : Option ℕ) → length (with_newest nodes x to) ≡ length nodes
length_newest nodes x None = refl
length_newest nodes x (Some up) = length-set nodes up _

pub length_taken_out : (nodes : List Links) (x : ℕ) (from : Option ℕ) → length (with_taken_out nodes x from) ≡ length nodes
length_taken_out nodes x None = refl
length_taken_out nodes x (Some up) = length-set nodes up _

above_newest : (nodes : List Links) (x : ℕ) (to : Option ℕ) (y : ℕ) → above_of (with_newest nodes x to) y ≡ above_of nodes y
above_newest nodes x None y = refl
above_newest nodes x (Some up) y = above_with nodes up _ y refl

pub above_taken_out : (nodes : List Links) (x : ℕ) (from : Option ℕ) (y : ℕ) → above_of (with_taken_out nodes x from) y ≡ above_of nodes y
above_taken_out nodes x None y = refl
above_taken_out nodes x (Some up) y = above_with nodes up _ y refl

below_newest : (nodes : List Links) (x : ℕ) (to : Option ℕ) (y : ℕ) → IsPlace nodes to → below_of (with_newest nodes x to) y ≡ below_of nodes y ++ newest_at to x y
below_newest nodes x None y place = sym (append-nil (below_of nodes y))
below_newest nodes x (Some up) y place =
    below_with nodes up _ y (place up refl) ∙
    ⊎_elim
    (λ e. let same = eqb-true y up e in rw e (ap (λ k. below_of nodes k ++ x ∷ []) (sym same)))
    (λ e. rw e (sym (append-nil (below_of nodes y))))
    (cases_Bool (eqb y up))

-- x is in no list but that of the node above it
pub absent_elsewhere : (nodes : List Links) (x y : ℕ) → IsExact nodes → times_below (above_of nodes x) y ≡ 0 → without x (below_of nodes y) ≡ below_of nodes y
absent_elsewhere nodes x y exact none = without_absent x (below_of nodes y) (exact y x ∙ none)

times_at_most : (above : Option ℕ) (x : ℕ) → times_below above x ≤ 1
times_at_most None x = omega arith
times_at_most (Some up) x = ⊎_elim (λ e. rw e (omega arith)) (λ e. rw e (omega arith)) (cases_Bool (eqb x up))

-- a node is in a list at most once
pub once_at_most : (nodes : List Links) → IsExact nodes → (x y : ℕ) → count_by (eqb y) (below_of nodes x) ≤ 1
once_at_most nodes exact x y = let most = times_at_most (above_of nodes y) x in omega (arith, exact x y, most)

-- also in that of its old place, after it is added to that of the new one
pub once_moved : (nodes put : List Links) (x : ℕ) (to from : Option ℕ) → IsExact nodes → IsPlace nodes to → option_eq eqb from to ≡ false → put ≡ with_newest nodes x to →
    (up : ℕ) → from ≡ Some up → count_by (eqb x) (below_of put up) ≤ 1
once_moved nodes put x to from exact place ne put_is up is =
    let none : newest_at to x up ≡ [] = newest_elsewhere to x up (λ q isq same. false≢true (sym ne ∙ (let at : eqb up q ≡ true = eq-eqb up q same in rw (is, isq, at) refl))) in
    let there : below_of put up ≡ below_of nodes up = ap (λ ns. below_of ns up) put_is ∙ below_newest nodes x to up place ∙ ap (λ xs. below_of nodes up ++ xs) none ∙ append-nil (below_of nodes up) in
    subst (λ ys. count_by (eqb x) ys ≤ 1) (sym there) (once_at_most nodes exact up x)

-- after both steps each list is as the move has it
below_steps : (nodes : List Links) (x : ℕ) (to from : Option ℕ) (y : ℕ) → IsExact nodes → IsPlace nodes to → IsPlace nodes from → from ≡ above_of nodes x → option_eq eqb from to ≡ false →
    below_of (with_taken_out (with_newest nodes x to) x from) y ≡ without x (below_of nodes y) ++ newest_at to x y
below_steps nodes x to None y exact place out is ne =
    below_newest nodes x to y place ∙
    ap (λ xs. xs ++ newest_at to x y) (sym (absent_elsewhere nodes x y exact (ap (λ u. times_below u y) (sym is))))
below_steps nodes x to (Some q) y exact place out is ne =
    below_with (with_newest nodes x to) q _ y (let len = length_newest nodes x to in omega (arith, out q refl, len)) ∙
    ⊎_elim
    (λ e.
    let same = eqb-true y q e in
    let none : newest_at to x y ≡ [] = newest_elsewhere to x y (λ up isup yup. false≢true (sym ne ∙ (let at : eqb q up ≡ true = eq-eqb q up (sym same ∙ yup) in rw (isup, at) refl))) in
    let there : below_of (with_newest nodes x to) y ≡ below_of nodes y = below_newest nodes x to y place ∙ ap (λ xs. below_of nodes y ++ xs) none ∙ append-nil (below_of nodes y) in
    rw e (ap (λ k. without x (below_of (with_newest nodes x to) k)) (sym same) ∙ ap (without x) there ∙ sym (ap (λ xs. without x (below_of nodes y) ++ xs) none ∙ append-nil (without x (below_of nodes y)))))
    (λ e.
    let zero : times_below (Some q) y ≡ 0 = rw e refl in
    let absent = absent_elsewhere nodes x y exact (ap (λ u. times_below u y) (sym is) ∙ zero) in
    rw e (below_newest nodes x to y place ∙ ap (λ xs. xs ++ newest_at to x y) (sym absent)))
    (cases_Bool (eqb y q))

pub joined : Option ℕ → List ℕ → Links
joined a b = record { above = a; below = b }

pub links_same : (a b : Links) → a.above ≡ b.above → a.below ≡ b.below → a ≡ b
unfolding joined
links_same a b p q = ap (λ u. joined u a.below) p ∙ ap (λ v. joined b.above v) q

pub above_set : (nodes : List Links) (i : ℕ) (links : Links) (y : ℕ) → i < length nodes → above_of (set nodes i links) y ≡ cond (eqb y i) links.above (above_of nodes y)
above_set nodes i links y h =
    ⊎_elim
    (λ e. let same = eqb-true y i e in
    let there : above_of (set nodes i links) i ≡ links.above = ap (λ n. n.above) (get_or-set_same nodes i links alone h) in
    rw e (ap (above_of (set nodes i links)) same ∙ there))
    (λ e. let ne = eqb-false y i e in rw e (ap (λ n. n.above) (get_or-set_other nodes i y links alone ne)))
    (cases_Bool (eqb y i))

pub length_steps : (nodes : List Links) (x : ℕ) (to from : Option ℕ) → length (with_taken_out (with_newest nodes x to) x from) ≡ length nodes
length_steps nodes x to from = length_taken_out (with_newest nodes x to) x from ∙ length_newest nodes x to

-- the steps come to what a move is
pub moved_by_steps : (nodes : List Links) (x : ℕ) (to : Option ℕ) → IsExact nodes → x < length nodes → IsPlace nodes to →
    (from : Option ℕ) → IsPlace nodes from → from ≡ above_of nodes x → option_eq eqb from to ≡ false →
    (last : Links) → last.above ≡ to → last.below ≡ below_of (with_taken_out (with_newest nodes x to) x from) x →
    set (with_taken_out (with_newest nodes x to) x from) x last ≡ relinked nodes x to
moved_by_steps nodes x to exact node place from out is ne last up down =
    let stepped = with_taken_out (with_newest nodes x to) x from in
    let len = length_steps nodes x to from in
    fill_by_all (links_once_moved nodes x to) (set stepped x last) (length nodes) alone (length-set stepped x last ∙ len)
    (λ k h. links_same (get_or (set stepped x last) k alone) (links_once_moved nodes x to k)
    (above_set stepped x last k (omega (arith, len)) ∙ ap (λ u. cond (eqb k x) u (above_of stepped k)) up
    ∙ ap (cond (eqb k x) to) (above_taken_out (with_newest nodes x to) x from k ∙ above_newest nodes x to k))
    (below_with stepped x last k (omega (arith, len)) ∙
    ⊎_elim
    (λ e. rw e (down ∙ ap (below_of stepped) (sym (eqb-true k x e)) ∙ below_steps nodes x to from k exact place out is ne))
    (λ e. rw e (below_steps nodes x to from k exact place out is ne))
    (cases_Bool (eqb k x))))

-- the nodes after a move, from what the contract of each step of the code says
pub moved_in_steps : (nodes put taken : List Links) (x : ℕ) (to from : Option ℕ) (read last : Links) → IsExact nodes → x < length nodes → IsPlace nodes to →
    from ≡ above_of nodes x → option_eq eqb from to ≡ false → put ≡ with_newest nodes x to → taken ≡ with_taken_out put x from →
    read ≡ get_or taken x read → last ≡ record { above = to; below = read.below } → set taken x last ≡ relinked nodes x to
moved_in_steps nodes put taken x to from read last exact node place is ne put_is taken_is read_is last_is =
    let stepped = with_taken_out (with_newest nodes x to) x from in
    let taken_so : taken ≡ stepped = taken_is ∙ ap (λ ns. with_taken_out ns x from) put_is in
    let len = length_steps nodes x to from in
    let read_so : read ≡ get_or stepped x alone = get_or_read stepped x read (omega (arith, len)) (read_is ∙ ap (λ ns. get_or ns x read) taken_so) alone in
    let out : IsPlace nodes from = λ up isup. above_within nodes exact x up (sym is ∙ isup) in
    ap (λ ns. set ns x last) taken_so ∙
    moved_by_steps nodes x to exact node place from out is ne last (ap (λ n. n.above) last_is) (ap (λ n. n.below) last_is ∙ ap (λ n. n.below) read_so)

-- the code's reading of the old place
pub above_read : (nodes : List Links) (x : ℕ) (read : Links) (from : Option ℕ) → x < length nodes → read ≡ get_or nodes x read → from ≡ read.above → from ≡ above_of nodes x
above_read nodes x read from h read_is from_is = from_is ∙ ap (λ n. n.above) (get_or_read nodes x read h read_is alone)

-- a move to another place
pub moved_elsewhere : (nodes : List Links) (x : ℕ) (to from : Option ℕ) → from ≡ above_of nodes x → option_eq eqb from to ≡ false → moved nodes x to ≡ relinked nodes x to
moved_elsewhere nodes x to from is ne =
    let other : option_eq eqb (above_of nodes x) to ≡ false = ap (λ u. option_eq eqb u to) (sym is) ∙ ne in
    rw other refl

same_option : (a b : Option ℕ) → option_eq eqb a b ≡ true → a ≡ b
same_option None None h = refl
same_option None (Some y) h = absurd (false≢true h)
same_option (Some x) None h = absurd (false≢true h)
same_option (Some x) (Some y) h = ap (λ z. Some z) (eqb-true x y h)

-- the node above each node after a move
pub above_of_moved : (nodes : List Links) (x : ℕ) (to : Option ℕ) (y : ℕ) → x < length nodes → above_of (moved nodes x to) y ≡ cond (eqb y x) to (above_of nodes y)
above_of_moved nodes x to y node =
    ⊎_elim
    (λ e. let same = same_option (above_of nodes x) to e in
    rw e (⊎_elim
    (λ at. let here = eqb-true y x at in rw at (ap (above_of nodes) here ∙ same))
    (λ at. rw at refl)
    (cases_Bool (eqb y x))))
    (λ e. rw e (above_moved nodes x to y node))
    (cases_Bool (option_eq eqb (above_of nodes x) to))

pub length_moved : (nodes : List Links) (x : ℕ) (to : Option ℕ) → length (moved nodes x to) ≡ length nodes
length_moved nodes x to =
    ⊎_elim (λ e. rw e refl) (λ e. rw e (length-map-range_with_len (links_once_moved nodes x to) 0 (length nodes)))
    (cases_Bool (option_eq eqb (above_of nodes x) to))

pub forest_moved : (nodes : List Links) (x : ℕ) (to : Option ℕ) → IsForest nodes → x < length nodes → IsPlace nodes to → IsApart nodes x to → IsForest (moved nodes x to)
forest_moved nodes x to f node place apart =
    ⊎_elim (λ e. rw e f) (λ e. rw e (forest_relinked nodes x to f node place apart))
    (cases_Bool (option_eq eqb (above_of nodes x) to))

-- a node that is not within the moved one keeps its ancestors
pub ancestors_elsewhere : (nodes : List Links) (x : ℕ) (to : Option ℕ) (y : ℕ) → IsForest nodes → x < length nodes → IsPlace nodes to → is_within nodes y x ≡ false → ancestors (moved nodes x to) y ≡ ancestors nodes y
ancestors_elsewhere nodes x to y f node place apart =
    ⊎_elim (λ e. rw e refl)
    (λ e. rw e (way_up_is_ancestors (relinked nodes x to) (exact_moved nodes x to f.exact node place) y (ancestors nodes y)
    (way_up_apart nodes x to y (ancestors nodes y) node apart (f.rooted y))))
    (cases_Bool (option_eq eqb (above_of nodes x) to))

-- where nothing is joined nothing comes to be, away from the node and its new place
pub alone_after_move : (nodes : List Links) (x : ℕ) (to : Option ℕ) (y : ℕ) → x < length nodes → IsPlace nodes to → y ≢ x → ((up : ℕ) → to ≡ Some up → y ≢ up) →
    get_or nodes y alone ≡ alone → get_or (moved nodes x to) y alone ≡ alone
alone_after_move nodes x to y node place other elsewhere free =
    ⊎_elim (λ e. rw e free)
    (λ e. rw e (links_same (get_or (relinked nodes x to) y alone) alone
    (above_moved nodes x to y node ∙ (let ne = ne_eqb y x other in rw ne (ap (λ n. n.above) free)))
    (below_moved nodes x to y place ∙ ap (λ xs. without x xs ++ newest_at to x y) (ap (λ n. n.below) free) ∙ newest_elsewhere to x y elsewhere)))
    (cases_Bool (option_eq eqb (above_of nodes x) to))

-- a new node changes no way up
pub ancestors_added : (nodes : List Links) → IsForest nodes → (y : ℕ) → ancestors (nodes ++ alone ∷ []) y ≡ ancestors nodes y
ancestors_added nodes f y =
    way_up_is_ancestors (nodes ++ alone ∷ []) (forest_added nodes f).exact y (ancestors nodes y)
    (way_up_along nodes (nodes ++ alone ∷ []) (λ x. ap (λ n. n.above) (links_added nodes x)) y (ancestors nodes y) (f.rooted y))

-- the new node is on no other node's way up
pub new_is_on_no_way : (nodes : List Links) → IsForest nodes → (y : ℕ) → (y ≡ length nodes → ⊥) → is_within (nodes ++ alone ∷ []) y (length nodes) ≡ false
new_is_on_no_way nodes f y other =
    or_from (eqb (length nodes) y) (list_any (eqb (length nodes)) (ancestors (nodes ++ alone ∷ []) y)) (ne_eqb (length nodes) y (λ e. other (sym e)))
    (ap (list_any (eqb (length nodes))) (ancestors_added nodes f y) ∙
    ⊎_elim (λ e. absurd (let low = way_up_within nodes f.exact y (ancestors nodes y) (f.rooted y) (length nodes) e in omega arith)) (λ e. e) (cases_Bool (list_any (eqb (length nodes)) (ancestors nodes y))))

-- the moved node's ancestors are its new place and what is above that
pub ancestors_of_moved : (nodes : List Links) (x up : ℕ) → IsForest nodes → x < length nodes → up < length nodes → is_within nodes up x ≡ false → ancestors (moved nodes x (Some up)) x ≡ up ∷ ancestors nodes up
ancestors_of_moved nodes x up f node within apart =
    let place : IsPlace nodes (Some up) = λ q is. (let same : up ≡ q = cc in rw (← same) within) in
    let apart_all : IsApart nodes x (Some up) = λ q is. (let same : up ≡ q = cc in ap (λ z. is_within nodes z x) (sym same) ∙ apart) in
    let tree = forest_moved nodes x (Some up) f node place apart_all in
    let top = above_of_moved nodes x (Some up) x node ∙ (let same = eq-eqb x x refl in rw same refl) in
    way_up_is_ancestors (moved nodes x (Some up)) tree.exact x (up ∷ ancestors (moved nodes x (Some up)) up) (top, tree.rooted up)
    ∙ ap (λ ys. up ∷ ys) (ancestors_elsewhere nodes x (Some up) up f node place apart)

pub ancestors_of_root : (nodes : List Links) (x : ℕ) → IsForest nodes → x < length nodes → ancestors (moved nodes x None) x ≡ []
ancestors_of_root nodes x f node =
    let tree = forest_moved nodes x None f node (λ q is. cc) (λ q is. cc) in
    let top = above_of_moved nodes x None x node ∙ (let same = eq-eqb x x refl in rw same refl) in
    way_up_is_ancestors (moved nodes x None) tree.exact x [] top

same_itself : (a : Option ℕ) → option_eq eqb a a ≡ true
same_itself None = refl
same_itself (Some x) = eq-eqb x x refl

-- a move to where the node is changes nothing
pub moved_nowhere : (nodes : List Links) (x : ℕ) → moved nodes x (above_of nodes x) ≡ nodes
moved_nowhere nodes x = let same = same_itself (above_of nodes x) in rw same refl
