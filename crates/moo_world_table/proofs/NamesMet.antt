-- Names that are looked for among those of a parent's cells.
use Rattle.std.proofs.Common.{◌≡◌, ℕ, ◌+◌, ◌<◌, List, [], ◌∷◌, ◌++◌, Option, Some, is_some, Bool, true, false, ◌||◌, cond, refl, sym, ◌∙◌, ap, arith, get_or, length, map, take, Result, Ok, Err}
use Rattle.std.specs.Prelude.{IfOk}
use Rattle.std.specs.List.{list_any}
use Rattle.std.specs.BTreeMap as tree
use Rattle.std.specs.BTreeMap.{BTreeMap}
use Rattle.std.specs.Ordering.{nat_cmp}
use Rattle.std.specs.Cmp.Lexicographic.{slice_cmp}
use Rattle.std.proofs.lemmas.Map.Text.{btree_map_updates_str}
use Rattle.std.proofs.lemmas.List.{take_more}
use Rattle.std.proofs.lemmas.List.Folds.{list_any-append}
use denote.Ref.{Bor}
use Rattle.moo_value.specs.Compare.{folded}
use Rattle.moo_world_object.specs.Names.{same_name}
use Rattle.moo_world_object.specs.Objects.{Object}
use Rattle.moo_world_object.specs.Cells.{Cell, is_named}
use Rattle.moo_world_table.specs.World.{thing_of}
use Rattle.moo_world_table.specs.Steps.{own_clash, own_names, HasJust}

some_or : {X : Type 0} (c : Bool) (v : X) (o : Option X) → is_some (cond c (Some v) o) ≡ (c || is_some o)
some_or true v o = refl
some_or false v o = refl

last_first : (a b : Bool) → (a || b) ≡ (b || (a || false))
last_first true true = refl
last_first true false = refl
last_first false true = refl
last_first false false = refl

-- one more name put into a map
pub one_more : {X : Type 0} (m n : BTreeMap (Bor (List ℕ)) X) (v : X) (names : List (List ℕ)) (i : ℕ) (x : List ℕ) (d : List ℕ) → HasJust m (take i names) →
    tree.UpdatesBy (λ x y. slice_cmp nat_cmp x.now y.now) (λ k. slice_cmp nat_cmp x k.now) m n (Some v) → i < length names → x ≡ get_or names i d → HasJust n (take (i + 1) names)
one_more m n v names i x d has u low is y =
    let old = tree.get_by (λ k. slice_cmp nat_cmp y k.now) m in
    let more : take (i + 1) names ≡ take i names ++ x ∷ [] = take_more names i d low ∙ ap (λ z. take i names ++ z ∷ []) (sym is) in
    let all : list_any (λ z. same_name z y) (take (i + 1) names) ≡ (list_any (λ z. same_name z y) (take i names) || (same_name x y || false)) =
    ap (list_any (λ z. same_name z y)) more ∙ list_any-append (λ z. same_name z y) (take i names) (x ∷ []) in
    ap is_some (btree_map_updates_str x m n (Some v) u y) ∙ some_or (same_name x y) v old ∙ ap (λ b. same_name x y || b) (has y)
    ∙ last_first (same_name x y) (list_any (λ z. same_name z y) (take i names)) ∙ sym all

named : (n : List ℕ) (cells : List Cell) → list_any (λ m. same_name m n) (map (λ (c : Cell). c.name) cells) ≡ list_any (is_named n) cells
named n [] = refl
named n (c ∷ cells) = ap (λ b. same_name c.name n || b) (named n cells)

all_named : (cells : List Cell) (ns : List (List ℕ)) →
    list_any (λ n. list_any (λ m. same_name m n) (map (λ (c : Cell). c.name) cells)) (map folded ns) ≡ list_any (λ n. list_any (is_named (folded n)) cells) ns
all_named cells [] = refl
all_named cells (n ∷ ns) =
    ap (λ b. b || list_any (λ k. list_any (λ m. same_name m k) (map (λ (c : Cell). c.name) cells)) (map folded ns)) (named (folded n) cells)
    ∙ ap (λ b. list_any (is_named (folded n)) cells || b) (all_named cells ns)

-- a name that objects define is among those of the cells
pub clash_named : (objects : List (Option Object)) (cells : List Cell) (ys : List ℕ) →
    list_any (λ n. list_any (λ m. same_name m n) (map (λ (c : Cell). c.name) cells)) (own_names objects ys) ≡ list_any (own_clash objects cells) ys
clash_named objects cells [] = refl
clash_named objects cells (y ∷ ys) =
    let p = λ (n : List ℕ). list_any (λ (m : List ℕ). same_name m n) (map (λ (c : Cell). c.name) cells) in
    list_any-append p (map folded (thing_of objects y).defined) (own_names objects ys)
    ∙ ap (λ b. b || list_any p (own_names objects ys)) (all_named cells (thing_of objects y).defined)
    ∙ ap (λ b. own_clash objects cells y || b) (clash_named objects cells ys)

-- if they define none, none clashes
pub none_named : (objects : List (Option Object)) (cells : List Cell) (ys : List ℕ) (own : List (List ℕ)) → own ≡ own_names objects ys → length own ≡ 0 → false ≡ list_any (own_clash objects cells) ys
none_named objects cells ys [] is empty = ap (list_any (λ n. list_any (λ m. same_name m n) (map (λ (c : Cell). c.name) cells))) is ∙ clash_named objects cells ys
none_named objects cells ys (n ∷ own) is empty = absurd (omega arith)

-- what is found of the names is what clashes
pub clash_found : {E : Type 0} (r : Result Bool E) (objects : List (Option Object)) (cells : List Cell) (ys : List ℕ) (names others : List (List ℕ)) → names ≡ map (λ (c : Cell). c.name) cells → others ≡ own_names objects ys →
    IfOk r (λ found. found ≡ list_any (λ n. list_any (λ m. same_name m n) names) others) → IfOk r (λ clash. clash ≡ list_any (own_clash objects cells) ys)
clash_found (Ok b) objects cells ys names others names_is others_is found =
    found ∙ ap (λ (ns : List (List ℕ)). list_any (λ n. list_any (λ m. same_name m n) ns) others) names_is ∙
    ap (list_any (λ n. list_any (λ m. same_name m n) (map (λ (c : Cell). c.name) cells))) others_is ∙ clash_named objects cells ys
clash_found (Err e) objects cells ys names others names_is others_is found = tt
