-- Names that clash once an object has another parent: those defined on it or below it against those of the parent.
use Rattle.std.proofs.Common.{◌≡◌, ℕ, ◌<◌, List, [], ◌∷◌, ◌++◌, Option, Some, Bool, true, false, ◌||◌, cond, eqb, refl, sym, ◌∙◌, ap, ⊎_elim, arith, length, map}
use Rattle.std.specs.List.{list_any, range_with_len}
use Rattle.std.proofs.lemmas.List.{map-append, append_assoc}
use Rattle.std.proofs.lemmas.List.FromFn.{get_or-range_with_len, length-range_with_len}
use Rattle.std.proofs.lemmas.List.Folds.{list_any_at, list_any-append}
use Rattle.std.proofs.lemmas.Bool.{cases_Bool, eqb-true, eqb-false, or_parts, or_from, or_left, or_cases, false≢true}
use Rattle.moo_value.specs.Compare.{folded}
use Rattle.moo_world_tree.specs.Forest.{Links, above_of, ancestors, IsForest, IsWayUp, is_within}
use Rattle.moo_world_tree.specs.Walk.{met, IsWalkDown}
use Rattle.moo_world_tree.specs.declared.walk.Step.{Step}
use Rattle.moo_world_tree.proofs.Climbing.{way_up_is_ancestors}
use Rattle.moo_world_object.specs.Names.{same_name}
use Rattle.moo_world_object.specs.Objects.{Object}
use Rattle.moo_world_object.specs.Cells.{Cell, Key, key_of, is_named}
use Rattle.moo_world_object.proofs.Names.{same_name-true, same_name-false, eq-same_name, ne-same_name}
use Rattle.moo_world_table.specs.World.{thing_of, keys_defined_on, keys_along, has_twice, has_clash, clashes}
use Rattle.moo_world_table.specs.Steps.{own_clash}
use Rattle.moo_world_table.proofs.Refitting.{all_fail, passes, fails}
use Rattle.moo_world_table.proofs.Rowing.{IsRejoined, walk_lists}

either_way : (a b : List ℕ) → same_name a b ≡ same_name b a
either_way a b = ⊎_elim
    (λ e. e ∙ sym (eq-same_name b a (sym (same_name-true a b e))))
    (λ e. e ∙ sym (ne-same_name b a (λ h. same_name-false a b e (sym h))))
    (cases_Bool (same_name a b))

any_alike : {X : Type 0} (s t : X → Bool) → ((x : X) → s x ≡ t x) → (xs : List X) → list_any s xs ≡ list_any t xs
any_alike s t same [] = refl
any_alike s t same (x ∷ xs) = ap (λ b. b || list_any s xs) (same x) ∙ ap (λ b. t x || b) (any_alike s t same xs)

abbrev names : List Key → List (List ℕ)
names ks = map (λ (k : Key). k.1) ks

-- of two lists without a name twice, one after the other
twice_across : (ns ms : List (List ℕ)) → has_twice ns ≡ false → has_twice ms ≡ false → has_twice (ns ++ ms) ≡ list_any (λ a. list_any (same_name a) ms) ns
twice_across [] ms one two = two
twice_across (a ∷ ns) ms one two =
    let parts = or_parts (list_any (same_name a) ns) (has_twice ns) one in
    let head : list_any (same_name a) (ns ++ ms) ≡ list_any (same_name a) ms = list_any-append (same_name a) ns ms ∙ (let off = parts.0 in rw off refl) in
    ap (λ b. b || has_twice (ns ++ ms)) head ∙ ap (λ b. list_any (same_name a) ms || b) (twice_across ns ms parts.1 two)

once_front : (ns ms : List (List ℕ)) → has_twice (ns ++ ms) ≡ false → has_twice ns ≡ false
once_front [] ms h = refl
once_front (a ∷ ns) ms h =
    let parts = or_parts (list_any (same_name a) (ns ++ ms)) (has_twice (ns ++ ms)) h in
    or_from (list_any (same_name a) ns) (has_twice ns)
    (or_parts (list_any (same_name a) ns) (list_any (same_name a) ms) (sym (list_any-append (same_name a) ns ms) ∙ parts.0)).0
    (once_front ns ms parts.1)

keys_parted : (objects : List (Option Object)) (way more : List ℕ) → keys_along objects (way ++ more) ≡ keys_along objects way ++ keys_along objects more
keys_parted objects [] more = refl
keys_parted objects (y ∷ way) more =
    ap (λ ks. keys_defined_on objects y ++ ks) (keys_parted objects way more) ∙ sym (append_assoc (keys_defined_on objects y) (keys_along objects way) (keys_along objects more))

any_own : (t : List ℕ → Bool) (y : ℕ) (ns : List (List ℕ)) → list_any t (names (map (λ n. (y, folded n)) ns)) ≡ list_any (λ n. t (folded n)) ns
any_own t y [] = refl
any_own t y (n ∷ ns) = ap (λ b. t (folded n) || b) (any_own t y ns)

any_along : (t : List ℕ → Bool) (objects : List (Option Object)) (ys : List ℕ) → list_any t (names (keys_along objects ys)) ≡ list_any (λ z. list_any (λ n. t (folded n)) (thing_of objects z).defined) ys
any_along t objects [] = refl
any_along t objects (y ∷ ys) =
    ap (list_any t) (map-append (λ (k : Key). k.1) (keys_defined_on objects y) (keys_along objects ys)) ∙
    list_any-append t (names (keys_defined_on objects y)) (names (keys_along objects ys)) ∙
    ap (λ b. b || list_any t (names (keys_along objects ys))) (any_own t y (thing_of objects y).defined) ∙
    ap (λ b. list_any (λ n. t (folded n)) (thing_of objects y).defined || b) (any_along t objects ys)

any_cell : (name : List ℕ) (cells : List Cell) → list_any (same_name name) (names (map key_of cells)) ≡ list_any (is_named name) cells
any_cell name [] = refl
any_cell name (c ∷ cs) = ap (λ b. b || list_any (same_name name) (names (map key_of cs))) (either_way name c.name) ∙ ap (λ b. same_name c.name name || b) (any_cell name cs)

-- a way up ns far ns x
abbrev up_to : ℕ → List ℕ → List ℕ
up_to x [] = []
up_to x (y ∷ ys) = cond (eqb x y) (y ∷ []) (y ∷ up_to x ys)

begins_there : (t : ℕ → Bool) (x y : ℕ) (ys : List ℕ) → t y ≡ true → list_any t (up_to x (y ∷ ys)) ≡ true
begins_there t x y ys h = ⊎_elim (λ e. rw e (or_left (t y) false h)) (λ e. rw e (or_left (t y) (list_any t (up_to x ys)) h)) (cases_Bool (eqb x y))

module _ (objects : List (Option Object)) (tree other : List Links) (x : ℕ) (f : IsForest tree) (r : IsRejoined tree other x) where
  -- up to x a way is the same in both trees
  parted : (y : ℕ) (ys : List ℕ) → IsWayUp tree y ys → list_any (eqb x) (y ∷ ys) ≡ true →
      (y ∷ ancestors other y ≡ up_to x (y ∷ ys) ++ ancestors other x) × (y ∷ ys ≡ up_to x (y ∷ ys) ++ ancestors tree x)
  parted y [] way on =
      ⊎_elim
      (λ e.
      let same = eqb-true x y e in
      rw e (ap (λ z. y ∷ ancestors other z) (sym same), ap (λ zs. y ∷ zs) (sym (way_up_is_ancestors tree f.exact y [] way) ∙ ap (ancestors tree) (sym same))))
      (λ no. absurd (false≢true no))
      (or_cases (eqb x y) false on)
  parted y (z ∷ zs) way on =
      ⊎_elim
      (λ e.
      let same = eqb-true x y e in
      rw e (ap (λ z. y ∷ ancestors other z) (sym same), ap (λ ks. y ∷ ks) (sym (way_up_is_ancestors tree f.exact y (z ∷ zs) way) ∙ ap (ancestors tree) (sym same))))
      (λ e.
      let later : list_any (eqb x) (z ∷ zs) ≡ true = ⊎_elim (λ here. absurd (false≢true (sym e ∙ here))) (λ l. l) (or_cases (eqb x y) (list_any (eqb x) (z ∷ zs)) on) in
      let rest = parted z zs way.1 later in
      let up : above_of other y ≡ Some z = r.above y (λ h. eqb-false x y e (sym h)) ∙ way.0 in
      let whole = way_up_is_ancestors other r.forest.exact y (z ∷ ancestors other z) (up, r.forest.rooted z) in
      rw e (ap (λ ks. y ∷ ks) whole ∙ ap (λ ks. y ∷ ks) rest.0, ap (λ ks. y ∷ ks) rest.1))
      (cases_Bool (eqb x y))

  stands_within : (y : ℕ) (ys : List ℕ) → IsWayUp tree y ys → list_any (eqb x) (y ∷ ys) ≡ true → (z : ℕ) → z ≡ y → is_within tree z x ≡ true
  stands_within y ys way on z same = ap (λ k. is_within tree k x) same ∙ ap (λ ks. list_any (eqb x) (y ∷ ks)) (way_up_is_ancestors tree f.exact y ys way) ∙ on

  -- and what it meets is within x
  all_within : (y : ℕ) (ys : List ℕ) → IsWayUp tree y ys → list_any (eqb x) (y ∷ ys) ≡ true → (z : ℕ) → list_any (eqb z) (up_to x (y ∷ ys)) ≡ true → is_within tree z x ≡ true
  all_within y [] way on z here =
      let alone : list_any (eqb z) (y ∷ []) ≡ true = ⊎_elim (λ e. (rw e at here)) (λ e. (rw e at here)) (cases_Bool (eqb x y)) in
      ⊎_elim (λ e. stands_within y [] way on z (eqb-true z y e)) (λ no. absurd (false≢true no)) (or_cases (eqb z y) false alone)
  all_within y (k ∷ ks) way on z here =
      ⊎_elim
      (λ e.
      let alone : list_any (eqb z) (y ∷ []) ≡ true = (rw e at here) in
      ⊎_elim (λ same. stands_within y (k ∷ ks) way on z (eqb-true z y same)) (λ no. absurd (false≢true no)) (or_cases (eqb z y) false alone))
      (λ e.
      let more : list_any (eqb z) (y ∷ up_to x (k ∷ ks)) ≡ true = (rw e at here) in
      let later : list_any (eqb x) (k ∷ ks) ≡ true = ⊎_elim (λ at. absurd (false≢true (sym e ∙ at))) (λ l. l) (or_cases (eqb x y) (list_any (eqb x) (k ∷ ks)) on) in
      ⊎_elim (λ same. stands_within y (k ∷ ks) way on z (eqb-true z y same)) (λ rest. all_within k ks way.1 later z rest) (or_cases (eqb z y) (list_any (eqb z) (up_to x (k ∷ ks))) more))
      (cases_Bool (eqb x y))

  module _ (cells : List Cell) (keys : map key_of cells ≡ keys_along objects (ancestors other x)) (once_above : has_twice (names (map key_of cells)) ≡ false) (once : (y : ℕ) → has_clash objects tree y ≡ false) where
    clash_within : (y : ℕ) → is_within tree y x ≡ true → has_clash objects other y ≡ list_any (own_clash objects cells) (up_to x (y ∷ ancestors tree y))
    clash_within y on =
        let part = up_to x (y ∷ ancestors tree y) in
        let both = parted y (ancestors tree y) (f.rooted y) on in
        let front : has_twice (names (keys_along objects part)) ≡ false =
        once_front (names (keys_along objects part)) (names (keys_along objects (ancestors tree x)))
        (sym (ap has_twice (map-append (λ (k : Key). k.1) (keys_along objects part) (keys_along objects (ancestors tree x)))) ∙
        sym (ap (λ ks. has_twice (names ks)) (keys_parted objects part (ancestors tree x))) ∙
        sym (ap (λ ys. has_twice (names (keys_along objects ys))) both.1) ∙ once y) in
        ap (λ ys. has_twice (names (keys_along objects ys))) both.0 ∙
        ap (λ ks. has_twice (names ks)) (keys_parted objects part (ancestors other x) ∙ ap (λ ks. keys_along objects part ++ ks) (sym keys)) ∙
        ap has_twice (map-append (λ (k : Key). k.1) (keys_along objects part) (map key_of cells)) ∙
        twice_across (names (keys_along objects part)) (names (map key_of cells)) front once_above ∙
        any_along (λ a. list_any (same_name a) (names (map key_of cells))) objects part ∙
        any_alike (λ z. list_any (λ n. list_any (same_name (folded n)) (names (map key_of cells))) (thing_of objects z).defined) (own_clash objects cells)
        (λ z. any_alike (λ n. list_any (same_name (folded n)) (names (map key_of cells))) (λ n. list_any (is_named (folded n)) cells) (λ n. any_cell (folded n) cells) (thing_of objects z).defined) part

    pub clash_tested : (walk : List Step) → IsWalkDown tree x walk → ((y : ℕ) → is_within tree y x ≡ true → y < length objects) → ((y : ℕ) → is_within tree y x ≡ false → has_clash objects other y ≡ false) →
        list_any (own_clash objects cells) (met walk) ≡ clashes objects other
    clash_tested walk d inside outside = ⊎_elim
        (λ e.
        let found = passes (own_clash objects cells) (met walk) e in
        let within = sym (walk_lists tree x walk d found.0) ∙ found.1 in
        let low = inside found.0 within in
        let len = length-range_with_len 0 (length objects) in
        e ∙ sym (list_any_at (has_clash objects other) (range_with_len 0 (length objects)) found.0 0 (omega (arith, len))
        (let at = get_or-range_with_len 0 (length objects) found.0 0 low in ap (has_clash objects other) (at ∙ omega arith) ∙
        clash_within found.0 within ∙ begins_there (own_clash objects cells) x found.0 (ancestors tree found.0) found.2)))
        (λ e. e ∙ sym (all_fail (has_clash objects other) (range_with_len 0 (length objects)) (λ y here. ⊎_elim
        (λ on. clash_within y on ∙ all_fail (own_clash objects cells) (up_to x (y ∷ ancestors tree y))
        (λ z there. fails (own_clash objects cells) (met walk) z e (walk_lists tree x walk d z ∙ all_within y (ancestors tree y) (f.rooted y) on z there)))
        (outside y)
        (cases_Bool (is_within tree y x)))))
        (cases_Bool (list_any (own_clash objects cells) (met walk)))
