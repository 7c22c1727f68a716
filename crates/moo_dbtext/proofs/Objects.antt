-- The record of an object of a world may be written.
use Rattle.std.proofs.Common.{◌≡◌, ℕ, ◌+◌, ◌≤◌, List, [], ◌∷◌, ◌++◌, length, map, Option, Some, None, true, false, FitsSigned, w32, refl, ap, subst, arith}
use Rattle.std.specs.List.{All, AllByRecursion, range_with_len}
use Rattle.std.specs.Option.{is_some, unwrap_or, option_map}
use Rattle.std.proofs.lemmas.List.{length-map, length-append}
use Rattle.std.proofs.lemmas.List.Elements.{recursion_from_All}
use Rattle.moo_value.specs.Compare.{folded}
use Rattle.moo_value.specs.Size.{IsString}
use Rattle.moo_value.specs.Tree.{Tree}
use Rattle.moo_world_object.specs.Cells.{Cell, Key, key_of}
use Rattle.moo_world_object.specs.Objects.{Object}
use Rattle.moo_world_object.specs.declared.verb.Verb.{Verb}
use Rattle.moo_world_table.specs.World.{World, nothing, object_of, thing_of, keys_along, most, HasStored, IsFilled, IsFine, IsWellFormed}
use Rattle.moo_world_tree.specs.Forest.{ancestors}
use Rattle.moo_dbtext_object.specs.Lines.{Line, Sizes, IsStringOf}
use Rattle.moo_dbtext_object.specs.Objects as recorded
use Rattle.moo_dbtext_record.specs.Texts.{IsEntry}
use Rattle.moo_dbtext_restore.specs.declared.link.Link.{Link}
use Rattle.moo_dbtext_restore.specs.Says.{recorded_verb, recorded_cell}
use Rattle.moo_dbtext_restore.specs.Recorded.{link_in, body_with, recorded_object, recorded_at, records_of}
use Rattle.moo_dbtext.proofs.Links.{AreLinks, links_fit, flags_fit, cell_perms_fit, verb_bits_fit, preposition_fits}
use Rattle.moo_dbtext.proofs.Values.{cell_value_written, string_written, count_written}

-- what holds of each of a list holds of what each is mapped to
pub all_mapped : {X Y : Type 0} (P : X → Type 0) (Q : Y → Type 0) (f : X → Y) → ((x : X) → P x → Q (f x)) → (xs : List X) → AllByRecursion P xs → AllByRecursion Q (map f xs)
all_mapped P Q f step [] h = tt
all_mapped P Q f step (x ∷ xs) h = (step x h.0, all_mapped P Q f step xs h.1)

pub all_of : {X : Type 0} (P : X → Type 0) (Q : X → Type 0) → ((x : X) → P x → Q x) → (xs : List X) → AllByRecursion P xs → AllByRecursion Q xs
all_of P Q step [] h = tt
all_of P Q step (x ∷ xs) h = (step x h.0, all_of P Q step xs h.1)

both : {X : Type 0} (P Q : X → Type 0) (xs : List X) → AllByRecursion P xs → AllByRecursion Q xs → AllByRecursion (λ x. P x × Q x) xs
both P Q [] h k = tt
both P Q (x ∷ xs) h k = ((h.0, k.0), both P Q xs h.1 k.1)

-- ---- the values of an object's own definitions

own_past : (own i : ℕ) (cells : List recorded.Cell) → own ≤ i → recorded.OwnHaveValues own i cells
own_past own i [] h = tt
own_past own i (c ∷ cells) h = ((λ none. h), own_past own (i + 1) cells (omega (arith, h)))

same_key : (a b : Key) (ks ls : List Key) → a ∷ ks ≡ b ∷ ls → a ≡ b
same_key a b ks ls e = cc

same_keys : (a b : Key) (ks ls : List Key) → a ∷ ks ≡ b ∷ ls → ks ≡ ls
same_keys a b ks ls e = cc

has_value : (v : Option Tree) → is_some v ≡ true → v ≡ None → ⊥
has_value None h e = absurd (let no : ◌≡◌ false true = h in cc)
has_value (Some t) h e = cc

own_filled : (x own i : ℕ) (names : List Line) (rest : List Key) (cells : List Cell) → map key_of cells ≡ map (λ name. (let k : Key = (x, folded name) in k)) names ++ rest → own ≤ i + length names
    → AllByRecursion (IsFilled x) cells → recorded.OwnHaveValues own i (map recorded_cell cells)
own_filled x own i [] rest cells keys h filled = own_past own i (map recorded_cell cells) (omega (arith, h))
own_filled x own i (n ∷ names) rest [] keys h filled = tt
own_filled x own i (n ∷ names) rest (c ∷ cells) keys h filled = (
  (λ none. absurd (has_value c.value (filled.0 (ap (λ (k : Key). k.0) (same_key (key_of c) (x, folded n) (map key_of cells) (map (λ name. (let k : Key = (x, folded name) in k)) names ++ rest) keys))) none)),
  own_filled x own (i + 1) names rest cells (same_keys (key_of c) (x, folded n) (map key_of cells) (map (λ name. (let k : Key = (x, folded name) in k)) names ++ rest) keys) (omega (arith, h)) filled.1,
)

-- ---- an object

module _ (s : Sizes) where
  verb_written : (v : Verb) → IsString v.names × FitsSigned w32 v.owner → recorded.IsVerb s (recorded_verb v)
  verb_written v h = record {
    names = string_written s v.names h.0;
    owner = h.1;
    perms = verb_bits_fit v.perms v.args.direct v.args.indirect;
    preposition = preposition_fits v.args.preposition;
  }

  cell_written : (c : Cell) → HasStored c.value × FitsSigned w32 c.owner → recorded.IsCell s (recorded_cell c)
  cell_written c h = record { value = cell_value_written s c.value h.0; owner = h.1; perms = cell_perms_fit c.perms }

  object_written : (x : ℕ) (o : Object) (rest : List Key) (parent place : Link) → IsFine o → All (IsFilled x) o.cells
      → map key_of o.cells ≡ map (λ name. (let k : Key = (x, folded name) in k)) o.defined ++ rest → AreLinks parent → AreLinks place
      → recorded.IsObject s (record { name = o.name; body = body_with o parent place })
  object_written x o rest parent place fine filled keys up around = record {
    name = string_written s o.name fine.name;
    numbers = record {
      flags = flags_fit o.flags;
      owner = fine.numbers.owner;
      location = around.above;
      contents = around.first;
      next = around.next;
      parent = up.above;
      child = up.first;
      sibling = up.next;
    };
    verbs = all_mapped (λ (v : Verb). IsString v.names × FitsSigned w32 v.owner) (recorded.IsVerb s) recorded_verb verb_written o.verbs
        (both (λ (v : Verb). IsString v.names) (λ (v : Verb). FitsSigned w32 v.owner) o.verbs (recursion_from_All (λ (v : Verb). IsString v.names) o.verbs fine.verb_names) (recursion_from_All (λ (v : Verb). FitsSigned w32 v.owner) o.verbs fine.numbers.verbs));
    names = all_of IsString (IsStringOf s) (string_written s) o.defined (recursion_from_All IsString o.defined fine.names);
    cells = all_mapped (λ (c : Cell). HasStored c.value × FitsSigned w32 c.owner) (recorded.IsCell s) recorded_cell cell_written o.cells
        (both (λ (c : Cell). HasStored c.value) (λ (c : Cell). FitsSigned w32 c.owner) o.cells (recursion_from_All (λ (c : Cell). HasStored c.value) o.cells fine.values) (recursion_from_All (λ (c : Cell). FitsSigned w32 c.owner) o.cells fine.numbers.cells));
    own = own_filled x (length o.defined) 0 o.defined rest o.cells keys (omega arith) (recursion_from_All (IsFilled x) o.cells filled);
    verb_count = count_written s (length (map recorded_verb o.verbs)) (let same = length-map o.verbs recorded_verb in let few = fine.few_verbs in omega (arith, same, few));
    name_count = count_written s (length o.defined) few_names;
    cell_count = count_written s (length (map recorded_cell o.cells)) (let same = length-map o.cells recorded_cell in let few = fine.few_cells in omega (arith, same, few));
  }
    where
      few_names : length o.defined ≤ most
      few_names =
          let whole = ap length keys in
          let cells = length-map o.cells key_of in
          let parts = length-append (map (λ name. (let k : Key = (x, folded name) in k)) o.defined) rest in
          let names = length-map o.defined (λ name. (let k : Key = (x, folded name) in k)) in
          let few = fine.few_cells in
          omega (arith, whole, cells, parts, names, few)

  module _ (w : World) (f : IsWellFormed w) where
    forest_few : length w.inheritance ≤ most
    forest_few = let same = f.parents.many in let few = f.few in omega (arith, same, few)

    places_few : length w.containment ≤ most
    places_few = let same = f.places.many in let few = f.few in omega (arith, same, few)

    entry_of : (x : ℕ) (o : Option Object) → object_of w.objects x ≡ o → IsEntry s (option_map (recorded_object w x) o)
    entry_of x None e = tt
    entry_of x (Some o) e =
        let same : thing_of w.objects x ≡ o = ap (λ (p : Option Object). unwrap_or p nothing) e in
        object_written x o (keys_along w.objects (ancestors w.inheritance x)) (link_in w.inheritance x) (link_in w.containment x)
        (subst IsFine same (f.stocked.fine x))
        (subst (λ (p : Object). All (IsFilled x) p.cells) same (f.stocked.own_filled x))
        (subst (λ (p : Object). map key_of p.cells ≡ map (λ name. (let k : Key = (x, folded name) in k)) p.defined ++ keys_along w.objects (ancestors w.inheritance x)) same (f.stocked.exact_cells x))
        (links_fit w.inheritance f.parents.forest forest_few x)
        (links_fit w.containment f.places.forest places_few x)

    entries_of : (xs : List ℕ) → AllByRecursion (IsEntry s) (map (recorded_at w) xs)
    entries_of [] = tt
    entries_of (x ∷ xs) = (entry_of x (object_of w.objects x) refl, entries_of xs)

    pub objects_written : AllByRecursion (IsEntry s) (records_of w).objects
    objects_written = entries_of (range_with_len 0 (length w.objects))
