-- Plain objects of records within the limits are made of these.
use Rattle.std.proofs.Common.{◌≡◌, ℕ, zero, suc, ◌+◌, ◌<◌, ◌≤◌, ℤ, List, [], ◌∷◌, length, map, take, Option, Some, None, is_some, true, cond, refl, sym, ap, subst, ◌∙◌, arith, get_or, FitsSigned, w32}
use Rattle.std.specs.List.{All, AllByRecursion, count_by, sum_by}
use Rattle.std.specs.Option.{option_map, unwrap_or}
use Rattle.std.proofs.lemmas.List.{length-map, length-take, get_or-take}
use Rattle.std.proofs.lemmas.List.Sums.{sum_by-cons}
use Rattle.moo_value.specs.Tree.{Tree, Elements, integer, object, error, string, list, no_elements, element, IsValue, AreValues}
use Rattle.moo_value.specs.View.{tree}
use Rattle.moo_value.specs.Size.{IsString}
use Rattle.moo_syntax_ast.specs.Tree.{Block}
use Rattle.moo_world_object.specs.Cells.{Cell}
use Rattle.moo_world_object.specs.Objects.{Object}
use Rattle.moo_world_object.specs.declared.verb.Verb.{Verb}
use Rattle.moo_world_table.specs.World.{nothing, object_of, programs_of, programs_in, HasStored, IsFine}
use Rattle.moo_world_table.proofs.WellFormed.{fine_nothing}
use Rattle.moo_dbtext_object.specs.Lines.{limited, IsStringOf}
use Rattle.moo_dbtext_object.specs.ValueLines.{IsWritable, AreWritable}
use Rattle.moo_dbtext_object.specs.Objects as recorded
use Rattle.moo_dbtext_object.specs.declared.object_record.VerbRecord.{VerbRecord}
use Rattle.moo_dbtext_object.specs.declared.object_record.PropertyRecord.{PropertyRecord}
use Rattle.moo_dbtext_object.specs.declared.object_record.ObjectRecord.{ObjectRecord}
use Rattle.moo_dbtext_restore.specs.Records.{Records}
use Rattle.moo_dbtext_restore.specs.Says.{recorded_verb, recorded_cell, program_of, SaysAt}
use Rattle.moo_dbtext_restore.specs.Made.{AreMade}
use Rattle.moo_dbtext_restore.specs.Plain.{plain_verb, plain_verbs, plain_cell, plain_object, plain_at, plain_objects}
use Rattle.moo_dbtext_restore.specs.Restoring.{IsEntryWithin, AreWithinLimits}
use Rattle.moo_dbtext_restore.proofs.Counting.{object_read}
use Rattle.moo_dbtext_restore.proofs.Keying.{plain_read, many_plain}

all_at : {X : Type 0} (P : X → Type 0) (x : X) (xs : List X) → P x → All P xs → All P (x ∷ xs)
all_at {X = X} P x xs first rest = λ k d low. over k d low
  where
    over : (k : ℕ) (d : X) → k < suc (length xs) → P (get_or (x ∷ xs) k d)
    over zero d low = first
    over (suc k) d low = rest k d (omega (arith, low))

all_from : {X : Type 0} (P : X → Type 0) (xs : List X) → AllByRecursion P xs → All P xs
all_from P [] a = λ k d low. absurd (omega (arith, low))
all_from P (x ∷ xs) a = all_at P x xs a.0 (all_from P xs a.1)

-- consequences of what records describe

verbs_said : (vs : List VerbRecord) (ps : List (Option Block)) → map recorded_verb (plain_verbs vs ps) ≡ map recorded.verb_of vs
verbs_said [] ps = refl
verbs_said (v ∷ vs) [] = ap (λ l. recorded.verb_of v ∷ l) (verbs_said vs [])
verbs_said (v ∷ vs) (p ∷ ps) = ap (λ l. recorded.verb_of v ∷ l) (verbs_said vs ps)

programs_said : (vs : List VerbRecord) (ps : List (Option Block)) (v : ℕ) → v < length (plain_verbs vs ps) → get_or (map program_of (plain_verbs vs ps)) v None ≡ get_or ps v None
programs_said [] ps v low = absurd (omega (arith, low))
programs_said (u ∷ vs) [] zero low = refl
programs_said (u ∷ vs) [] (suc v) low = programs_said vs [] v (omega (arith, low))
programs_said (u ∷ vs) (p ∷ ps) zero low = refl
programs_said (u ∷ vs) (p ∷ ps) (suc v) low = programs_said vs ps v (omega (arith, low))

cells_said : (cs : List PropertyRecord) → map recorded_cell (map plain_cell cs) ≡ map recorded.cell_of cs
cells_said [] = refl
cells_said (c ∷ cs) = ap (λ l. recorded.cell_of c ∷ l) (cells_said cs)

-- what is within the limits

mutual
  value_of_lines : (t : Tree) → IsWritable t → IsValue t
  value_of_lines (integer z) w = w
  value_of_lines (object z) w = w
  value_of_lines (error e) w = tt
  value_of_lines (string s) w = w
  value_of_lines (list es) w = values_of_lines es w.1

  values_of_lines : (es : Elements) → AreWritable es → AreValues es
  values_of_lines no_elements w = tt
  values_of_lines (element t es) w = (value_of_lines t w.0, values_of_lines es w.1)

stored_value : (v : Option Tree) → recorded.IsCellValue limited v → HasStored v
stored_value None h = tt
stored_value (Some t) h = (value_of_lines t h.0, h.1)

values_stored : (cs : List PropertyRecord) → AllByRecursion (recorded.IsCell limited) (map recorded.cell_of cs) → AllByRecursion (λ (c : Cell). HasStored c.value) (map plain_cell cs)
values_stored [] h = tt
values_stored (c ∷ cs) h = (stored_value (option_map tree c.value) h.0.value, values_stored cs h.1)

verb_names_kept : (vs : List VerbRecord) (ps : List (Option Block)) → AllByRecursion (recorded.IsVerb limited) (map recorded.verb_of vs) → AllByRecursion (λ (v : Verb). IsString v.names) (plain_verbs vs ps)
verb_names_kept [] ps h = tt
verb_names_kept (v ∷ vs) [] h = (h.0.names, verb_names_kept vs [] h.1)
verb_names_kept (v ∷ vs) (p ∷ ps) h = (h.0.names, verb_names_kept vs ps h.1)

cell_owners : (cs : List PropertyRecord) → AllByRecursion (recorded.IsCell limited) (map recorded.cell_of cs) → AllByRecursion (λ (c : Cell). FitsSigned w32 c.owner) (map plain_cell cs)
cell_owners [] h = tt
cell_owners (c ∷ cs) h = (h.0.owner, cell_owners cs h.1)

verb_owners : (vs : List VerbRecord) (ps : List (Option Block)) → AllByRecursion (recorded.IsVerb limited) (map recorded.verb_of vs) → AllByRecursion (λ (v : Verb). FitsSigned w32 v.owner) (plain_verbs vs ps)
verb_owners [] ps h = tt
verb_owners (v ∷ vs) [] h = (h.0.owner, verb_owners vs [] h.1)
verb_owners (v ∷ vs) (p ∷ ps) h = (h.0.owner, verb_owners vs ps h.1)

many_verbs : (vs : List VerbRecord) (ps : List (Option Block)) → length (plain_verbs vs ps) ≡ length vs
many_verbs [] ps = refl
many_verbs (v ∷ vs) [] = ap suc (many_verbs vs [])
many_verbs (v ∷ vs) (p ∷ ps) = ap suc (many_verbs vs ps)

filled_at : (own i : ℕ) (cs : List PropertyRecord) (k : ℕ) (d : Cell) → recorded.OwnHaveValues own i (map recorded.cell_of cs) → k < length (map plain_cell cs) → i + k < own →
    is_some (get_or (map plain_cell cs) k d).value ≡ true
filled_at own i [] k d h low before = absurd (omega (arith, low))
filled_at own i (c ∷ cs) zero d h low before = over (option_map tree c.value) h.0
  where
    over : (v : Option Tree) → (v ≡ None → own ≤ i) → is_some v ≡ true
    over None past = absurd (let over = past refl in omega (arith, over, before))
    over (Some t) past = refl
filled_at own i (c ∷ cs) (suc k) d h low before = filled_at own (i + 1) cs k d h.1 (omega (arith, low)) (omega (arith, before))

own_filled : (o : ObjectRecord) → recorded.IsObject limited (recorded.object_of o) → All (λ (c : Cell). is_some c.value ≡ true) (take (length o.names.items) (map plain_cell o.cells.items))
own_filled o h = λ k d low.
    let cells = map plain_cell o.cells.items in
    let own = length o.names.items in
    let many = length-take own cells in
    let first : k < own = omega (arith, low, many) in
    let inside : k < length cells = omega (arith, low, many) in
    ap (λ (c : Cell). is_some c.value) (get_or-take own cells k d first) ∙ filled_at own 0 o.cells.items k d h.own inside (omega (arith, first))

fine_object : (o : ObjectRecord) (ps : List (Option Block)) → recorded.IsObject limited (recorded.object_of o) → IsFine (plain_object o ps)
fine_object o ps h = record {
  name = h.name;
  names = λ k d low. all_from (IsStringOf limited) o.names.items h.names k d low;
  values = all_from (λ (c : Cell). HasStored c.value) (map plain_cell o.cells.items) (values_stored o.cells.items h.cells);
  few_cells = let one = length-map o.cells.items plain_cell in let two = length-map o.cells.items recorded.cell_of in let few = h.cell_count in omega (arith, one, two, few);
  verb_names = all_from (λ (v : Verb). IsString v.names) (plain_verbs o.verbs.items ps) (verb_names_kept o.verbs.items ps h.verbs);
  few_verbs = let one = many_verbs o.verbs.items ps in let two = length-map o.verbs.items recorded.verb_of in let few = h.verb_count in omega (arith, one, two, few);
  numbers = record {
    owner = h.numbers.owner;
    cells = all_from (λ (c : Cell). FitsSigned w32 c.owner) (map plain_cell o.cells.items) (cell_owners o.cells.items h.cells);
    verbs = all_from (λ (v : Verb). FitsSigned w32 v.owner) (plain_verbs o.verbs.items ps) (verb_owners o.verbs.items ps h.verbs);
  };
}

-- programs

few_programs_of : (vs : List VerbRecord) (ps : List (Option Block)) → programs_of (plain_verbs vs ps) ≤ count_by is_some ps
few_programs_of [] ps = omega arith
few_programs_of (v ∷ vs) [] =
    let parts = sum_by-cons (λ (u : Verb). cond (is_some u.program) 1 0) (plain_verb v None) (plain_verbs vs []) in
    let rest = few_programs_of vs [] in
    omega (arith, parts, rest)
few_programs_of (v ∷ vs) (p ∷ ps) =
    let parts = sum_by-cons (λ (u : Verb). cond (is_some u.program) 1 0) (plain_verb v p) (plain_verbs vs ps) in
    let other = sum_by-cons (λ (q : Option Block). cond (is_some q) 1 0) p ps in
    let rest = few_programs_of vs ps in
    omega (arith, parts, other, rest)

few_programs_at : (o : Option ObjectRecord) (ps : List (Option Block)) → programs_of (unwrap_or (plain_at o ps) nothing).verbs ≤ count_by is_some ps
few_programs_at None ps = omega arith
few_programs_at (Some o) ps = few_programs_of o.verbs.items ps

few_programs_in : (os : List (Option ObjectRecord)) (rows : List (List (Option Block))) → programs_in (plain_objects os rows) ≤ sum_by (count_by is_some) rows
few_programs_in [] rows = omega arith
few_programs_in (o ∷ os) [] =
    let parts = sum_by-cons (λ (p : Option Object). programs_of (unwrap_or p nothing).verbs) (plain_at o []) (plain_objects os []) in
    let here = few_programs_at o [] in
    let rest = few_programs_in os [] in
    omega (arith, parts, here, rest)
few_programs_in (o ∷ os) (row ∷ rows) =
    let parts = sum_by-cons (λ (p : Option Object). programs_of (unwrap_or p nothing).verbs) (plain_at o row) (plain_objects os rows) in
    let other = sum_by-cons (λ (r : List (Option Block)). count_by is_some r) row rows in
    let here = few_programs_at o row in
    let rest = few_programs_in os rows in
    omega (arith, parts, other, here, rest)

entry_at : (os : List (Option ObjectRecord)) (x : ℕ) → AllByRecursion IsEntryWithin (map (option_map recorded.object_of) os) → IsEntryWithin (option_map recorded.object_of (get_or os x None))
entry_at [] x a = tt
entry_at (o ∷ os) zero a = a.0
entry_at (o ∷ os) (suc x) a = entry_at os x a.1

module _ (os : List (Option ObjectRecord)) (rows : List (List (Option Block))) (players : List ℤ) where
  abbrev whole : Records
  whole = record { objects = map (option_map recorded.object_of) os; programs = rows; players = players }

  said_at : (x : ℕ) (o : Option ObjectRecord) → SaysAt whole x (option_map recorded.object_of o) (plain_at o (get_or rows x []))
  said_at x None = tt
  said_at x (Some o) =
      let ps = get_or rows x [] in
      record {
        name = refl;
        owner = refl;
        flags = refl;
        verbs = verbs_said o.verbs.items ps;
        programs = λ v low. programs_said o.verbs.items ps v low;
        names = refl;
        cells = cells_said o.cells.items;
      }

  module _ (w : AreWithinLimits whole) where
    filled_there : (o : Option ObjectRecord) (ps : List (Option Block)) → IsEntryWithin (option_map recorded.object_of o) →
        (let p = unwrap_or (plain_at o ps) nothing in All (λ (c : Cell). is_some c.value ≡ true) (take (length p.defined) p.cells))
    filled_there None ps h = λ k d low. absurd (omega (arith, low))
    filled_there (Some o) ps h = own_filled o h

    fine_there : (o : Option ObjectRecord) (ps : List (Option Block)) → IsEntryWithin (option_map recorded.object_of o) → IsFine (unwrap_or (plain_at o ps) nothing)
    fine_there None ps h = fine_nothing
    fine_there (Some o) ps h = fine_object o ps h

    pub plain_are_made : AreMade whole (plain_objects os rows)
    plain_are_made = record {
      many = many_plain os rows ∙ sym (length-map os (option_map recorded.object_of));
      objects = λ x. subst (λ b. SaysAt whole x b (object_of (plain_objects os rows) x)) (sym (object_read os x))
          (subst (λ o. SaysAt whole x (option_map recorded.object_of (get_or os x None)) o) (sym (plain_read os rows x)) (said_at x (get_or os x None)));
      own_filled = λ x. subst (λ (o : Option Object). All (λ (c : Cell). is_some c.value ≡ true) (take (length (unwrap_or o nothing).defined) (unwrap_or o nothing).cells)) (sym (plain_read os rows x))
          (filled_there (get_or os x None) (get_or rows x []) (entry_at os x w.objects));
      fine = λ x. subst (λ (o : Option Object). IsFine (unwrap_or o nothing)) (sym (plain_read os rows x)) (fine_there (get_or os x None) (get_or rows x []) (entry_at os x w.objects));
      few_programs = let few = few_programs_in os rows in let most_of = w.program_count in omega (arith, few, most_of);
    }
