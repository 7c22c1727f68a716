-- Cells that are lost with an object, or with a definition.
use Rattle.std.proofs.Common.{◌≡◌, ◌≢◌, ℕ, zero, suc, List, [], ◌∷◌, Option, Some, None, true, not, eqb, refl, sym, ◌∙◌, ap, ⊎_elim, map, set, IsSome}
use Rattle.std.specs.List.{filter}
use Rattle.std.specs.Option.{unwrap_or}
use Rattle.std.proofs.lemmas.List.{get_or-set_same, get_or-set_other}
use Rattle.std.proofs.lemmas.Bool.{cases_Bool, cases_eq, eqb-true, eqb-false, and_parts}
use Rattle.moo_world_object.specs.Names.{same_name}
use Rattle.moo_world_object.proofs.Names.{same_name-true}
use Rattle.moo_world_object.specs.Cells.{Cell, Key, key_of, is_key, cell_at}
use Rattle.moo_world_object.specs.Objects.{Object}
use Rattle.moo_world_table.specs.World.{World, nothing, object_of, thing_of}
use Rattle.moo_world_table.specs.Changes.{without_cell, without_name, after_undefine}
use Rattle.moo_world_table.specs.Recycling.{without_cells_of, after_recycle}
use Rattle.moo_world_table.proofs.Changing.{valid_within}
use Rattle.moo_world.specs.Lookups.{IsWithout, IsUndefined}

-- what is at a number once each object was changed
mapped_at : (g : Option Object → Option Object) → g None ≡ None → (objects : List (Option Object)) (y : ℕ) → object_of (map g objects) y ≡ g (object_of objects y)
mapped_at g none [] y = sym none
mapped_at g none (o ∷ os) zero = refl
mapped_at g none (o ∷ os) (suc y) = mapped_at g none os y

pair_same : (a b : ℕ) (c d : List ℕ) → a ≡ b → c ≡ d → ◌≡◌ {A = Key} (a, c) (b, d)
pair_same a b c d p q = cc

pub key_is : (k : Key) (c : Cell) → is_key k c ≡ true → key_of c ≡ k
key_is k c on =
    let parts = and_parts (eqb c.definer k.0) (same_name c.name k.1) on in
    pair_same c.definer k.0 c.name k.1 (eqb-true c.definer k.0 parts.0) (same_name-true c.name k.1 parts.1)

of_definer_lost : (x : ℕ) (k : Key) (cells : List Cell) → k.0 ≡ x → cell_at (filter (λ c. not (eqb c.definer x)) cells) k ≡ None
of_definer_lost x k [] e = refl
of_definer_lost x k (c ∷ cs) e =
    ⊎_elim
    (λ mine. rw mine (of_definer_lost x k cs e))
    (λ other. ⊎_elim
    (λ on. absurd (eqb-false c.definer x other (ap (λ (q : Key). q.0) (key_is k c on) ∙ e)))
    (λ off. rw other (rw off (of_definer_lost x k cs e)))
    (cases_Bool (is_key k c)))
    (cases_Bool (eqb c.definer x))

of_others_kept : (x : ℕ) (k : Key) (cells : List Cell) → k.0 ≢ x → cell_at (filter (λ c. not (eqb c.definer x)) cells) k ≡ cell_at cells k
of_others_kept x k [] ne = refl
of_others_kept x k (c ∷ cs) ne =
    ⊎_elim
    (λ mine. ⊎_elim
    (λ on. absurd (ne (sym (ap (λ (q : Key). q.0) (key_is k c on)) ∙ eqb-true c.definer x mine)))
    (λ off. rw mine (rw off (of_others_kept x k cs ne)))
    (cases_Bool (is_key k c)))
    (λ other. ⊎_elim
    (λ on. rw other (rw on refl))
    (λ off. rw other (rw off (of_others_kept x k cs ne)))
    (cases_Bool (is_key k c)))
    (cases_Bool (eqb c.definer x))

one_lost : (k : Key) (cells : List Cell) → cell_at (filter (λ c. not (is_key k c)) cells) k ≡ None
one_lost k [] = refl
one_lost k (c ∷ cs) = ⊎_elim (λ on. rw on (one_lost k cs)) (λ off. rw off (rw off (one_lost k cs))) (cases_Bool (is_key k c))

others_kept : (gone k : Key) (cells : List Cell) → k ≢ gone → cell_at (filter (λ c. not (is_key gone c)) cells) k ≡ cell_at cells k
others_kept gone k [] ne = refl
others_kept gone k (c ∷ cs) ne =
    ⊎_elim
    (λ mine. ⊎_elim
    (λ on. absurd (ne (sym (key_is k c on) ∙ key_is gone c mine)))
    (λ off. rw mine (rw off (others_kept gone k cs ne)))
    (cases_Bool (is_key k c)))
    (λ other. ⊎_elim
    (λ on. rw other (rw on refl))
    (λ off. rw other (rw off (others_kept gone k cs ne)))
    (cases_Bool (is_key k c)))
    (cases_Bool (is_key gone c))

cells_of_others : (x : ℕ) (o : Option Object) → (unwrap_or (without_cells_of x o) nothing).cells ≡ filter (λ c. not (eqb c.definer x)) (unwrap_or o nothing).cells
cells_of_others x None = refl
cells_of_others x (Some o) = refl

cells_without : (k : Key) (o : Option Object) → (unwrap_or (without_cell k o) nothing).cells ≡ filter (λ c. not (is_key k c)) (unwrap_or o nothing).cells
cells_without k None = refl
cells_without k (Some o) = refl

cells_unnamed : (name : List ℕ) (o : Option Object) → (unwrap_or (without_name name o) nothing).cells ≡ (unwrap_or o nothing).cells
cells_unnamed name None = refl
cells_unnamed name (Some o) = refl

module _ (w : World) (x : ℕ) (valid : IsSome (object_of w.objects x)) where
  cells_then : (y : ℕ) → (thing_of (after_recycle w x).objects y).cells ≡ filter (λ c. not (eqb c.definer x)) (thing_of (set w.objects x None) y).cells
  cells_then y =
      ap (λ o. (unwrap_or o nothing).cells) (mapped_at (without_cells_of x) refl (set w.objects x None) y) ∙ cells_of_others x (object_of (set w.objects x None) y)

  pub without : IsWithout w (after_recycle w x) x
  without = record {
    gone = mapped_at (without_cells_of x) refl (set w.objects x None) x ∙ ap (without_cells_of x) (get_or-set_same w.objects x None None (valid_within w.objects x valid));
    lost = λ y k e. ap (λ cs. cell_at cs k) (cells_then y) ∙ of_definer_lost x k (thing_of (set w.objects x None) y).cells e;
    kept = λ y k ne other.
        ap (λ cs. cell_at cs k) (cells_then y) ∙ of_others_kept x k (thing_of (set w.objects x None) y).cells other ∙
        ap (λ o. cell_at (unwrap_or o nothing).cells k) (get_or-set_other w.objects x y None None ne);
  }

  cells_undefined : (name : List ℕ) (y : ℕ) → (thing_of (after_undefine w x name).objects y).cells ≡ filter (λ c. not (is_key (x, name) c)) (thing_of w.objects y).cells
  cells_undefined name y =
      let start = set w.objects x (without_name name (object_of w.objects x)) in
      ap (λ o. (unwrap_or o nothing).cells) (mapped_at (without_cell (x, name)) refl start y) ∙ cells_without (x, name) (object_of start y) ∙
      ap (filter (λ c. not (is_key (x, name) c))) (⊎_elim
      (λ e. ap (λ n. (thing_of start n).cells) e ∙
      ap (λ o. (unwrap_or o nothing).cells) (get_or-set_same w.objects x (without_name name (object_of w.objects x)) None (valid_within w.objects x valid)) ∙
      cells_unnamed name (object_of w.objects x) ∙ ap (λ n. (thing_of w.objects n).cells) (sym e))
      (λ ne. ap (λ o. (unwrap_or o nothing).cells) (get_or-set_other w.objects x y (without_name name (object_of w.objects x)) None ne))
      (cases_eq y x))

  pub undefined : (name : List ℕ) → IsUndefined w (after_undefine w x name) (x, name)
  undefined name = record {
    lost = λ y. ap (λ cs. cell_at cs (x, name)) (cells_undefined name y) ∙ one_lost (x, name) (thing_of w.objects y).cells;
    kept = λ y k ne. ap (λ cs. cell_at cs k) (cells_undefined name y) ∙ others_kept (x, name) k (thing_of w.objects y).cells ne;
  }
