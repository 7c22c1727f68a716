-- Look-ups once an object has a value of its own.
use Rattle.std.proofs.Common.{◌≡◌, ◌≢◌, ◌⊎◌, inl, inr, ℕ, List, [], ◌∷◌, ◌++◌, Option, Some, None, true, eqb, refl, sym, ◌∙◌, ap, subst, ⊎_elim, map, IsSome, is_some}
use Rattle.std.specs.List.{find, filter_map, cons_option, list_any}
use Rattle.std.specs.Option.{unwrap_or, option_map, option_and_then}
use Rattle.std.specs.Prelude.{slice_get}
use Rattle.std.proofs.lemmas.List.{get_or-set_same, get_or-set_other}
use Rattle.std.proofs.lemmas.Bool.{cases_Bool, cases_eq, eqb-false, eq-eqb, or_parts, and_from, false≢true}
use Rattle.moo_value.specs.Compare.{folded}
use Rattle.moo_value.specs.Tree.{Tree}
use Rattle.moo_world_tree.specs.Forest.{ancestors}
use Rattle.moo_world_object.specs.Names.{same_name}
use Rattle.moo_world_object.specs.Cells.{Cell, Key, key_of, is_key, cell_at, with_value}
use Rattle.moo_world_object.specs.Objects.{Object}
use Rattle.moo_world_object.proofs.Names.{same_name-true, eq-same_name}
use Rattle.moo_world_table.specs.World.{World, nothing, object_of, thing_of, keys_defined_on, keys_along, definitions, IsWellFormed}
use Rattle.moo_world_table.specs.Changes.{with_object, with_value_of}
use Rattle.moo_world_table.specs.Properties.{definition_named, read, value_at}
use Rattle.moo_world_table.proofs.Changing.{valid_within}
use Rattle.moo_world.specs.Lookups.{IsSet}
use Rattle.moo_world.proofs.Fitted.{same_outside}
use Rattle.moo_world.proofs.Lost.{key_is}

-- what is found by a name has the name
pub found_named : (name : List ℕ) (ks : List Key) (k : Key) → find (λ (j : Key). same_name j.1 name) ks ≡ Some k → k.1 ≡ name
found_named name [] k h = cc
found_named name (j ∷ js) k h =
    ⊎_elim
    (λ e.
    let s : Some j ≡ Some k = (rw e at h) in
    let same : j ≡ k = cc in
    sym (ap (λ (q : Key). q.1) same) ∙ same_name-true j.1 name e)
    (λ e. found_named name js k (rw e at h))
    (cases_Bool (same_name j.1 name))

for_key : (k : Key) (c : Cell) → key_of c ≡ k → is_key k c ≡ true
for_key k c same = and_from (eqb c.definer k.0) (same_name c.name k.1) (eq-eqb c.definer k.0 (ap (λ (q : Key). q.0) same)) (eq-same_name c.name k.1 (ap (λ (q : Key). q.1) same))

-- the first cell of a name is the one for its own definition
found_first : (name : List ℕ) (d : Cell) (ks : List Key) (k : Key) → find (λ (j : Key). same_name j.1 name) (key_of d ∷ ks) ≡ Some k → same_name d.name name ≡ true → key_of d ≡ k
found_first name d ks k h e = let s : Some (key_of d) ≡ Some k = (rw e at h) in cc

pub found_cell : (name : List ℕ) (cells : List Cell) (k : Key) → find (λ (j : Key). same_name j.1 name) (map key_of cells) ≡ Some k → (c : Cell) × (cell_at cells k ≡ Some c)
found_cell name [] k h = cc
found_cell name (d ∷ ds) k h =
    ⊎_elim
    (λ on. (d, (rw on refl)))
    (λ off. ⊎_elim
    (λ e. absurd (false≢true (sym off ∙ for_key k d (found_first name d (map key_of ds) k h e))))
    (λ e. let rest = found_cell name ds k (rw e at h) in (rest.0, (rw off rest.1)))
    (cases_Bool (same_name d.name name)))
    (cases_Bool (is_key k d))

-- the cell of the name has the value
value_given : (name : List ℕ) (v : Tree) (cells : List Cell) (k : Key) (c : Cell) → find (λ (j : Key). same_name j.1 name) (map key_of cells) ≡ Some k → cell_at cells k ≡ Some c →
    cell_at (with_value name v cells) k ≡ Some (record c { value = Some v })
value_given name v [] k c h at = cc
value_given name v (d ∷ ds) k c h at =
    ⊎_elim
    (λ e.
    let on = for_key k d (found_first name d (map key_of ds) k h e) in
    let s : Some d ≡ Some c = (rw on at at) in
    let same : d ≡ c = cc in
    rw e (rw on (ap (λ (q : Cell). Some (let r : Cell = record q { value = Some v } in r)) same)))
    (λ e. ⊎_elim
    (λ on. absurd (false≢true (sym e ∙ eq-same_name d.name name (ap (λ (q : Key). q.1) (key_is k d on) ∙ found_named name (key_of d ∷ map key_of ds) k h))))
    (λ off. rw e (rw off (value_given name v ds k c (rw e at h) (rw off at at))))
    (cases_Bool (is_key k d)))
    (cases_Bool (same_name d.name name))

-- and every other cell stays
value_kept : (name : List ℕ) (v : Tree) (cells : List Cell) (k j : Key) → find (λ (i : Key). same_name i.1 name) (map key_of cells) ≡ Some k → j ≢ k → cell_at (with_value name v cells) j ≡ cell_at cells j
value_kept name v [] k j h ne = refl
value_kept name v (d ∷ ds) k j h ne =
    ⊎_elim
    (λ e. ⊎_elim
    (λ on. absurd (ne (sym (key_is j d on) ∙ found_first name d (map key_of ds) k h e)))
    (λ off. rw e (rw off refl))
    (cases_Bool (is_key j d)))
    (λ e. ⊎_elim
    (λ on. rw e (rw on refl))
    (λ off. rw e (rw off (value_kept name v ds k j (rw e at h) ne)))
    (cases_Bool (is_key j d)))
    (cases_Bool (same_name d.name name))

-- definitions, if each object defines what it did
pub keys_alike : (old new : List (Option Object)) → ((z : ℕ) → (thing_of new z).defined ≡ (thing_of old z).defined) → (way : List ℕ) → keys_along new way ≡ keys_along old way
keys_alike old new same [] = refl
keys_alike old new same (z ∷ way) =
    ap (λ ns. map (λ n. (let k : Key = (z, folded n) in k)) ns ++ keys_along new way) (same z) ∙ ap (λ ks. keys_defined_on old z ++ ks) (keys_alike old new same way)

-- what is found along a way, if each object gives what another does
pub gives_alike : (f g : ℕ → Option Tree) → ((z : ℕ) → f z ≡ g z) → (way : List ℕ) → filter_map f way ≡ filter_map g way
gives_alike f g same [] = refl
gives_alike f g same (z ∷ way) = ap (λ r. cons_option r (filter_map f way)) (same z) ∙ ap (cons_option (g z)) (gives_alike f g same way)

valued_defined : (name : List ℕ) (v : Tree) (o : Option Object) → (unwrap_or (option_map (with_value_of name v) o) nothing).defined ≡ (unwrap_or o nothing).defined
valued_defined name v None = refl
valued_defined name v (Some o) = refl

valued_cells : (name : List ℕ) (v : Tree) (o : Option Object) → IsSome o → (unwrap_or (option_map (with_value_of name v) o) nothing).cells ≡ with_value name v (unwrap_or o nothing).cells
valued_cells name v None valid = absurd (false≢true valid)
valued_cells name v (Some o) valid = refl

module _ (w : World) (x : ℕ) (name : List ℕ) (v : Tree) (f : IsWellFormed w) (valid : IsSome (object_of w.objects x)) (k : Key) (is : definition_named w x name ≡ Some k) where
  abbrev after : World
  after = with_object w x (with_value_of name v)

  here : object_of after.objects x ≡ option_map (with_value_of name v) (object_of w.objects x)
  here = get_or-set_same w.objects x (option_map (with_value_of name v) (object_of w.objects x)) None (valid_within w.objects x valid)

  there : (y : ℕ) → y ≢ x → object_of after.objects y ≡ object_of w.objects y
  there y ne = get_or-set_other w.objects x y (option_map (with_value_of name v) (object_of w.objects x)) None ne

  cells_here : (thing_of after.objects x).cells ≡ with_value name v (thing_of w.objects x).cells
  cells_here = ap (λ o. (unwrap_or o nothing).cells) here ∙ valued_cells name v (object_of w.objects x) valid

  same_names : (z : ℕ) → (thing_of after.objects z).defined ≡ (thing_of w.objects z).defined
  same_names z = ⊎_elim
      (λ e. rw e (ap (λ o. (unwrap_or o nothing).defined) here ∙ valued_defined name v (object_of w.objects x)))
      (λ ne. ap (λ o. (unwrap_or o nothing).defined) (there z ne))
      (cases_eq z x)

  found_there : (y : ℕ) (n : List ℕ) → definition_named after y n ≡ definition_named w y n
  found_there y n = ap (find (λ (j : Key). same_name j.1 n)) (keys_alike w.objects after.objects same_names (y ∷ ancestors w.inheritance y))

  among : find (λ (j : Key). same_name j.1 name) (map key_of (thing_of w.objects x).cells) ≡ Some k
  among = ap (find (λ (j : Key). same_name j.1 name)) (f.stocked.exact_cells x) ∙ is

  given_here : (c : Cell) → cell_at (thing_of w.objects x).cells k ≡ Some c → cell_at (thing_of after.objects x).cells k ≡ Some (record c { value = Some v })
  given_here c at = ap (λ cs. cell_at cs k) cells_here ∙ value_given name v (thing_of w.objects x).cells k c among at

  kept_at : (y : ℕ) (j : Key) → (y ≢ x) ⊎ (j ≢ k) → cell_at (thing_of after.objects y).cells j ≡ cell_at (thing_of w.objects y).cells j
  kept_at y j apart = ⊎_elim
      (λ e. ⊎_elim
      (λ ne. absurd (ne e))
      (λ other. rw e (ap (λ cs. cell_at cs j) cells_here ∙ value_kept name v (thing_of w.objects x).cells k j among other))
      apart)
      (λ ne. ap (λ o. cell_at (unwrap_or o nothing).cells j) (there y ne))
      (cases_eq y x)

  read_here : read after x name ≡ Some v
  read_here =
      let found = found_cell name (thing_of w.objects x).cells k among in
      let at : value_at after.objects k x ≡ Some v = ap (option_and_then (λ (c : Cell). c.value)) (given_here found.0 found.1) in
      let named = found_there x name ∙ is in
      rw named (rw at refl)

  -- a look-up of another definition
  other_definition : (y : ℕ) (n : List ℕ) → n ≢ name → read after y n ≡ read w y n
  other_definition y n ne = over (definition_named w y n) refl
    where
      over : (d : Option Key) → definition_named w y n ≡ d → read after y n ≡ read w y n
      over None e = let now = found_there y n ∙ e in rw (now, e) refl
      over (Some j) e =
          let now = found_there y n ∙ e in
          let other : j ≢ k = λ same. ne (sym (found_named n (definitions w.objects w.inheritance y) j e) ∙ ap (λ (q : Key). q.1) same ∙ found_named name (definitions w.objects w.inheritance x) k is) in
          let values = gives_alike (value_at after.objects j) (value_at w.objects j) (λ z. ap (option_and_then (λ (c : Cell). c.value)) (kept_at z j (inr other))) (y ∷ ancestors w.inheritance y) in
          rw (now, e) (ap (λ vs. slice_get vs 0) values)

  pub value_set : IsSet w after x name v
  value_set = record {
    given = λ j c named at.
        let s : Some j ≡ Some k = sym named ∙ is in
        let same : j ≡ k = cc in
        subst (λ q. cell_at (thing_of after.objects x).cells q ≡ Some (record c { value = Some v })) (sym same) (given_here c (subst (λ q. cell_at (thing_of w.objects x).cells q ≡ Some c) same at));
    kept = λ y j apart. kept_at y j (⊎_elim (λ ne. inl ne) (λ ne. inr (λ same. ne (is ∙ ap (λ q. Some q) (sym same)))) apart);
    found = found_there;
    reads = read_here;
    others = λ y n apart. ⊎_elim
        (λ off. (same_outside w after x f.parents.forest (λ z h. refl) (λ z h. there z (λ e. eqb-false x z (or_parts (eqb x z) (list_any (eqb x) (ancestors w.inheritance z)) h).0 (sym e)))).reads y n off)
        (λ ne. other_definition y n ne)
        apart;
  }

pub value_set_where : (w : World) (x : ℕ) (name : List ℕ) (v : Tree) → IsWellFormed w → IsSome (object_of w.objects x) → is_some (definition_named w x name) ≡ true → IsSet w (with_object w x (with_value_of name v)) x name v
value_set_where w x name v f valid defined = over (definition_named w x name) refl defined
  where
    over : (d : Option Key) → definition_named w x name ≡ d → is_some d ≡ true → IsSet w (with_object w x (with_value_of name v)) x name v
    over None e some = absurd (false≢true some)
    over (Some k) e some = value_set w x name v f valid k e
