-- Look-ups once a definition has another name.
use Rattle.std.proofs.Common.{◌≡◌, ◌≢◌, ◌⊎◌, inl, inr, ℕ, List, [], ◌∷◌, Option, Some, None, Bool, true, false, ◌&&◌, eqb, refl, sym, ◌∙◌, ap, ⊎_elim, map, cond, IsSome, is_some, length}
use Rattle.std.specs.List.{find, list_any}
use Rattle.std.specs.Option.{option_map, option_or, option_and_then}
use Rattle.std.specs.Prelude.{slice_get}
use Rattle.std.proofs.lemmas.List.Folds.{find-append}
use Rattle.std.proofs.lemmas.Bool.{cases_Bool, eq-eqb, or_parts, or_left, or_right, and_from, and_right, false≢true}
use Rattle.moo_value.specs.Compare.{folded}
use Rattle.moo_value.specs.declared.error_code.ErrorCode.{ErrorCode}
use Rattle.moo_value.specs.declared.error_code.ErrorCode.TheVariants.{InvalidArgument}
use Rattle.moo_world_tree.specs.Forest.{ancestors, is_within}
use Rattle.moo_world_object.specs.BuiltIn.{built_in_of}
use Rattle.moo_world_object.specs.Names.{same_name}
use Rattle.moo_world_object.specs.Cells.{Cell, Key, is_key, cell_at, at_key, renamed}
use Rattle.moo_world_object.specs.Objects.{Object}
use Rattle.moo_world_object.proofs.Names.{same_name-true, eq-same_name, ne-same_name}
use Rattle.moo_world_table.specs.World.{World, object_of, thing_of, keys_defined_on, keys_along, definitions, IsWellFormed}
use Rattle.moo_world_table.specs.Properties.{definition_named, read, value_at, has_name, is_taken}
use Rattle.moo_world_table.specs.Renames.{after_rename}
use Rattle.moo_world_table.specs.Steps.{IsRenamable}
use Rattle.moo_world_table.proofs.FittedRows.{unnamed_key}
use Rattle.moo_world_table.proofs.Joining.{within_low}
use Rattle.moo_world_table.proofs.Refitting.{definer_elsewhere, key_within, none_passes}
use Rattle.moo_world_table.proofs.Renamed.{cells_at, keys_on, is_that, renamed_key}
use Rattle.moo_world.specs.InfoCalls.{rename_raises}
use Rattle.moo_world.specs.Lookups.{IsRenamed}
use Rattle.moo_world.proofs.Fitted.{elsewhere_none}
use Rattle.moo_world.proofs.Lost.{key_is}
use Rattle.moo_world.proofs.Values.{gives_alike}

pair_is : (k : Key) (a : ℕ) (o : List ℕ) → a ≡ k.0 → ◌≡◌ {A = Key} (a, o) (k.0, o)
pair_is k a o e = cc

-- a cell that is renamed as it is named
as_named : (k : Key) (o : List ℕ) (c : Cell) → o ≡ k.1 → is_key k c ≡ true → renamed o c ≡ c
as_named k o c same on = ap (λ n. (let d : Cell = record { definer = c.definer; name = n; owner = c.owner; perms = c.perms; value = c.value } in d)) (same ∙ sym (ap (λ (q : Key). q.1) (key_is k c on)))

all_as_named : (k : Key) (o : List ℕ) (cells : List Cell) → o ≡ k.1 → map (at_key k (renamed o)) cells ≡ cells
all_as_named k o [] same = refl
all_as_named k o (c ∷ cs) same =
    ⊎_elim
    (λ on. rw on (ap (λ d. d ∷ map (at_key k (renamed o)) cs) (as_named k o c same on) ∙ ap (λ ds. c ∷ ds) (all_as_named k o cs same)))
    (λ off. rw off (ap (λ ds. c ∷ ds) (all_as_named k o cs same)))
    (cases_Bool (is_key k c))

found_as_named : (k : Key) (o : List ℕ) (cells : List Cell) → o ≡ k.1 → cell_at cells k ≡ option_map (renamed o) (cell_at cells k)
found_as_named k o [] same = refl
found_as_named k o (c ∷ cs) same =
    ⊎_elim
    (λ on. rw on (ap (λ d. Some d) (sym (as_named k o c same on))))
    (λ off. rw off (found_as_named k o cs same))
    (cases_Bool (is_key k c))

-- the cell for the definition has the other name
moved_free : (k : Key) (o : List ℕ) (cells : List Cell) → cell_at cells (k.0, o) ≡ None → cell_at (map (at_key k (renamed o)) cells) (k.0, o) ≡ option_map (renamed o) (cell_at cells k)
moved_free k o [] none = refl
moved_free k o (c ∷ cs) none =
    ⊎_elim
    (λ other. absurd (let some : Some c ≡ None = (rw other at none) in cc))
    (λ apart. ⊎_elim
    (λ on.
    let mine : is_key (k.0, o) (renamed o c) ≡ true = and_from (eqb c.definer k.0) (same_name o o) (eq-eqb c.definer k.0 (ap (λ (q : Key). q.0) (key_is k c on))) (eq-same_name o o refl) in
    rw on (rw mine refl))
    (λ off. rw off (rw apart (moved_free k o cs (rw apart at none))))
    (cases_Bool (is_key k c)))
    (cases_Bool (is_key (k.0, o) c))

moved_cell : (k : Key) (o : List ℕ) (cells : List Cell) → (o ≡ k.1) ⊎ (cell_at cells (k.0, o) ≡ None) → cell_at (map (at_key k (renamed o)) cells) (k.0, o) ≡ option_map (renamed o) (cell_at cells k)
moved_cell k o cells free = ⊎_elim
    (λ same. ap (λ cs. cell_at cs (k.0, o)) (all_as_named k o cells same) ∙ ap (λ n. cell_at cells (k.0, n)) same ∙ found_as_named k o cells same)
    (λ none. moved_free k o cells none)
    free

lost_cell : (k : Key) (o : List ℕ) (cells : List Cell) → o ≢ k.1 → cell_at (map (at_key k (renamed o)) cells) k ≡ None
lost_cell k o [] ne = refl
lost_cell k o (c ∷ cs) ne =
    ⊎_elim
    (λ on.
    let gone : is_key k (renamed o c) ≡ false = and_right (eqb c.definer k.0) (same_name o k.1) (ne-same_name o k.1 ne) in
    rw on (rw gone (lost_cell k o cs ne)))
    (λ off. rw off (rw off (lost_cell k o cs ne)))
    (cases_Bool (is_key k c))

other_cell : (k j : Key) (o : List ℕ) (cells : List Cell) → j ≢ k → j ≢ (k.0, o) → cell_at (map (at_key k (renamed o)) cells) j ≡ cell_at cells j
other_cell k j o [] ne apart = refl
other_cell k j o (c ∷ cs) ne apart =
    ⊎_elim
    (λ on. ⊎_elim
    (λ new. absurd (apart (sym (key_is j (renamed o c) new) ∙ pair_is k c.definer o (ap (λ (q : Key). q.0) (key_is k c on)))))
    (λ old. ⊎_elim
    (λ was. absurd (ne (sym (key_is j c was) ∙ key_is k c on)))
    (λ not_it. rw on (rw old (rw not_it (other_cell k j o cs ne apart))))
    (cases_Bool (is_key j c)))
    (cases_Bool (is_key j (renamed o c))))
    (λ off. ⊎_elim
    (λ was. rw off (rw was refl))
    (λ not_it. rw off (rw not_it (other_cell k j o cs ne apart)))
    (cases_Bool (is_key j c)))
    (cases_Bool (is_key k c))

-- the definition that is found, by its new name
found_renamed : (k : Key) (o : List ℕ) (ks : List Key) → (o ≡ k.1) ⊎ (list_any (λ (j : Key). same_name j.1 o) ks ≡ false) → find (λ (j : Key). same_name j.1 k.1) ks ≡ Some k →
    find (λ (j : Key). same_name j.1 o) (map (renamed_key k o) ks) ≡ Some (k.0, o)
found_renamed k o [] free h = cc
found_renamed k o (j ∷ js) free h =
    ⊎_elim
    (λ named.
    let s : Some j ≡ Some k = (rw named at h) in
    let same : j ≡ k = cc in
    let on : is_that k j ≡ true = and_from (eqb j.0 k.0) (same_name j.1 k.1) (eq-eqb j.0 k.0 (ap (λ (q : Key). q.0) same)) named in
    let mine = eq-same_name o o refl in
    rw on (rw mine (ap (λ n. Some (let q : Key = (n, o) in q)) (ap (λ (q : Key). q.0) same))))
    (λ other.
    let off : is_that k j ≡ false = and_right (eqb j.0 k.0) (same_name j.1 k.1) other in
    let unnamed : same_name j.1 o ≡ false = ⊎_elim (λ same. ap (same_name j.1) same ∙ other) (λ none. (or_parts (same_name j.1 o) (list_any (λ (q : Key). same_name q.1 o) js) none).0) free in
    let rest = ⊎_elim (λ same. inl same) (λ none. inr (or_parts (same_name j.1 o) (list_any (λ (q : Key). same_name q.1 o) js) none).1) free in
    rw off (rw unnamed (found_renamed k o js rest (rw other at h))))
    (cases_Bool (same_name j.1 k.1))

-- what is found along a way is on an object of it
own_key : (t : Key → Bool) (z : ℕ) (ns : List (List ℕ)) (j : Key) → find t (map (λ n. (let k : Key = (z, folded n) in k)) ns) ≡ Some j → j.0 ≡ z
own_key t z [] j h = cc
own_key t z (n ∷ ns) j h =
    ⊎_elim
    (λ e.
    let s : Some (let k : Key = (z, folded n) in k) ≡ Some j = (rw e at h) in
    let same : (let k : Key = (z, folded n) in k) ≡ j = cc in
    ap (λ (q : Key). q.0) (sym same))
    (λ e. own_key t z ns j (rw e at h))
    (cases_Bool (t (z, folded n)))

on_way : (t : Key → Bool) (objects : List (Option Object)) (k : Key) (way : List ℕ) → find t (keys_along objects way) ≡ Some k → list_any (eqb k.0) way ≡ true
on_way t objects k [] h = cc
on_way t objects k (z ∷ way) h = over (find t (keys_defined_on objects z)) refl (on_way t objects k way)
  where
    parted : option_or (find t (keys_defined_on objects z)) (find t (keys_along objects way)) ≡ Some k
    parted = sym (find-append t (keys_defined_on objects z) (keys_along objects way)) ∙ h

    over : (r : Option Key) → find t (keys_defined_on objects z) ≡ r → (find t (keys_along objects way) ≡ Some k → list_any (eqb k.0) way ≡ true) → list_any (eqb k.0) (z ∷ way) ≡ true
    over (Some j) e later =
        let s : Some j ≡ Some k = ap (λ r. option_or r (find t (keys_along objects way))) (sym e) ∙ parted in
        let same : j ≡ k = cc in
        or_left (eqb k.0 z) (list_any (eqb k.0) way) (eq-eqb k.0 z (ap (λ (q : Key). q.0) (sym same) ∙ own_key t z (thing_of objects z).defined j e))
    over None e later = or_right (eqb k.0 z) (list_any (eqb k.0) way) (later (ap (λ r. option_or r (find t (keys_along objects way))) (sym e) ∙ parted))

same_value : (o : List ℕ) (r : Option Cell) → option_and_then (λ (c : Cell). c.value) (option_map (renamed o) r) ≡ option_and_then (λ (c : Cell). c.value) r
same_value o None = refl
same_value o (Some c) = refl

module _ (w : World) (x : ℕ) (name n : List ℕ) (f : IsWellFormed w) (valid : IsSome (object_of w.objects x)) (r : IsRenamable w x name n) where
  abbrev after : World
  after = after_rename w x name n

  abbrev key : Key
  key = (x, name)

  free_at : (y : ℕ) → is_within w.inheritance y x ≡ true → (folded n ≡ name) ⊎ (has_name w.objects w.inheritance (folded n) y ≡ false)
  free_at y on = ⊎_elim
      (λ same. inl same)
      (λ free. inr (right_of (is_within w.inheritance y x) (has_name w.objects w.inheritance (folded n) y)
      (none_passes (λ z. is_within w.inheritance z x && has_name w.objects w.inheritance (folded n) z) (length w.objects) free y (within_low w.objects w.inheritance f.parents x valid y on)) on))
      r.free
    where
      right_of : (a b : Bool) → (a && b) ≡ false → a ≡ true → b ≡ false
      right_of true b h e = h
      right_of false b h e = absurd (false≢true e)

  -- no cell is for the new name yet
  unheld : (y : ℕ) → (folded n ≡ name) ⊎ (cell_at (thing_of w.objects y).cells (x, folded n) ≡ None)
  unheld y = ⊎_elim
      (λ on. ⊎_elim
      (λ same. inl same)
      (λ free. inr (unnamed_key (thing_of w.objects y).cells (x, folded n) (ap (list_any (λ (k : Key). same_name k.1 (folded n))) (f.stocked.exact_cells y) ∙ free)))
      (free_at y on))
      (λ off. inr (elsewhere_none x (x, folded n) (thing_of w.objects y).cells
      (key_within (λ (k : Key). eqb k.0 x ≡ false) (thing_of w.objects y).cells (let keys = f.stocked.exact_cells y in rw keys (definer_elsewhere w.objects x (y ∷ ancestors w.inheritance y) off))) refl))
      (cases_Bool (is_within w.inheritance y x))

  moved_at : (y : ℕ) → cell_at (thing_of after.objects y).cells (x, folded n) ≡ option_map (renamed (folded n)) (cell_at (thing_of w.objects y).cells key)
  moved_at y = ap (λ cs. cell_at cs (x, folded n)) (cells_at w x name n f valid y) ∙ moved_cell key (folded n) (thing_of w.objects y).cells (unheld y)

  reads_at : (y : ℕ) → definition_named w y name ≡ Some key → read after y (folded n) ≡ read w y name
  reads_at y is =
      let way = y ∷ ancestors w.inheritance y in
      let on = on_way (λ (j : Key). same_name j.1 name) w.objects key way is in
      let now : definition_named after y (folded n) ≡ Some (let k : Key = (x, folded n) in k) =
      ap (find (λ (j : Key). same_name j.1 (folded n))) (keys_on w x name n f valid way) ∙
      found_renamed key (folded n) (definitions w.objects w.inheritance y) (free_at y on) is in
      let values = gives_alike (value_at after.objects (x, folded n)) (value_at w.objects key)
      (λ z. ap (option_and_then (λ (c : Cell). c.value)) (moved_at z) ∙ same_value (folded n) (cell_at (thing_of w.objects z).cells key)) way in
      rw (now, is) (ap (λ vs. slice_get vs 0) values)

  pub spelled_anew : IsRenamed w after x name (folded n)
  spelled_anew = record {
    moved = moved_at;
    lost = λ y ne. ap (λ cs. cell_at cs key) (cells_at w x name n f valid y) ∙ lost_cell key (folded n) (thing_of w.objects y).cells ne;
    kept = λ y k ne apart. ap (λ cs. cell_at cs k) (cells_at w x name n f valid y) ∙ other_cell key k (folded n) (thing_of w.objects y).cells ne apart;
    reads = reads_at;
  }

rename_free : (own same built taken : Bool) → ◌≡◌ {A = Option ErrorCode} (cond own (cond same None (cond built (Some InvalidArgument) (cond taken (Some InvalidArgument) None))) (Some InvalidArgument)) None → (same ≡ true) ⊎ (taken ≡ false)
rename_free false same built taken h = cc
rename_free true true built taken h = inl refl
rename_free true false true taken h = cc
rename_free true false false true h = cc
rename_free true false false false h = inr refl

-- a name that may be given
pub rename_allowed : (w : World) (x : ℕ) (name other : List ℕ) → rename_raises w x (x, name) other ≡ None → (other ≡ name) ⊎ (is_taken w.objects w.inheritance x other ≡ false)
rename_allowed w x name other h = ⊎_elim
    (λ same. inl (same_name-true other name same))
    (λ free. inr free)
    (rename_free (eqb x x) (same_name other name) (is_some (built_in_of other)) (is_taken w.objects w.inheritance x other) h)
