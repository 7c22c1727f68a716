-- The cells of objects, made on a walk.
use Rattle.std.proofs.Common.{◌≡◌, ℕ, zero, suc, ◌+◌, ◌-◌, ◌<◌, ◌≤◌, List, [], ◌∷◌, ◌++◌, length, reverse, map, take, drop, set, Option, Some, None, IsSome, option_to_list, refl, sym, ap, subst, ◌∙◌, ⊎_elim, arith, get_or}
use Rattle.std.specs.Option.{option_map, unwrap_or}
use Rattle.std.proofs.lemmas.List.{length-map, length-append, length-reverse, length-set, map-append, reverse-append, drop_more, take_more, get_or_past, get_or-reverse, get_or-set_same, get_or-set_other, length-take-le}
use Rattle.std.proofs.lemmas.List.FromFn.{fill_by_all}
use Rattle.std.proofs.lemmas.Bool.{cases_eq, cases_lt}
use Rattle.moo_value.specs.Compare.{folded}
use Rattle.moo_syntax_ast.specs.Tree.{Block}
use Rattle.moo_world_tree.specs.Forest.{Links, ancestors, IsForest}
use Rattle.moo_world_object.specs.Cells.{Cell, Key}
use Rattle.moo_world_object.specs.Objects.{Object}
use Rattle.moo_world_table.specs.World.{nothing, object_of, thing_of, keys_defined_on, keys_along, with_cells}
use Rattle.moo_world_table.specs.Restoring.{rekeyed, restored_object, restored}
use Rattle.moo_dbtext_object.specs.Objects as recorded
use Rattle.moo_dbtext_object.specs.declared.object_record.VerbRecord.{VerbRecord}
use Rattle.moo_dbtext_object.specs.declared.object_record.PropertyRecord.{PropertyRecord}
use Rattle.moo_dbtext_object.specs.declared.object_record.ObjectRecord.{ObjectRecord}
use Rattle.moo_dbtext_restore.specs.declared.link.Link.{Link}
use Rattle.moo_dbtext_restore.specs.declared.tour.Visit.{Visit}
use Rattle.moo_dbtext_restore.specs.declared.tour.Visit.TheVariants.{Enter, Leave}
use Rattle.moo_dbtext_restore.specs.First.{IsFirst}
use Rattle.moo_dbtext_restore.specs.Links.{IsLineage, IsTreeOf}
use Rattle.moo_dbtext_restore.specs.Records.{parent_link, parent_links, record_at, names_in, cells_in, names_at, names_along}
use Rattle.moo_dbtext_restore.specs.Faults.{HasItsCells}
use Rattle.moo_dbtext_restore.specs.Names.{with_objects}
use Rattle.moo_dbtext_restore.specs.Plain.{plain_verb, plain_verbs, plain_cell, plain_at, plain_objects, keys_on}
use Rattle.moo_dbtext_restore.specs.Keyed.{AreKeyed}
use Rattle.moo_dbtext_restore.specs.Tours.{times_entered, Leads, IsTour}
use Rattle.moo_dbtext_restore.proofs.Counting.{object_read, its_cells_past}
use Rattle.moo_dbtext_restore.proofs.Passing.{entered_before, entered_still}
use Rattle.moo_dbtext_restore.proofs.Trees.{lineage_is_ancestors}
use Rattle.moo_dbtext_restore.proofs.Worlds.{one_lineage}

-- verbs and cells

verbs_suc : (vs : List VerbRecord) (ps : List (Option Block)) (i : ℕ) (d : VerbRecord) → i < length vs → plain_verbs (take (suc i) vs) ps ≡ plain_verbs (take i vs) ps ++ plain_verb (get_or vs i d) (get_or ps i None) ∷ []
verbs_suc [] ps i d low = absurd (omega arith)
verbs_suc (v ∷ vs) [] zero d low = refl
verbs_suc (v ∷ vs) (p ∷ ps) zero d low = refl
verbs_suc (v ∷ vs) [] (suc i) d low = ap (λ l. plain_verb v None ∷ l) (verbs_suc vs [] i d (omega arith))
verbs_suc (v ∷ vs) (p ∷ ps) (suc i) d low = ap (λ l. plain_verb v p ∷ l) (verbs_suc vs ps i d (omega arith))

pub verbs_more : (vs : List VerbRecord) (ps : List (Option Block)) (i : ℕ) (d : VerbRecord) → i < length vs → plain_verbs (take (i + 1) vs) ps ≡ plain_verbs (take i vs) ps ++ plain_verb (get_or vs i d) (get_or ps i None) ∷ []
verbs_more vs ps i d low = ap (λ n. plain_verbs (take n vs) ps) (let next : i + 1 ≡ suc i = omega arith in next) ∙ verbs_suc vs ps i d low

abbrev pub key_on : ℕ × List ℕ → Key
key_on d = (d.0, folded d.1)

abbrev pub keyed_cell : Key → Cell → Cell
keyed_cell k c = record { definer = k.0; name = k.1; owner = c.owner; perms = c.perms; value = c.value }

rekeyed_more : (ks : List Key) (cs : List Cell) (k : Key) (c : Cell) → length ks ≡ length cs → rekeyed (ks ++ k ∷ []) (cs ++ c ∷ []) ≡ rekeyed ks cs ++ keyed_cell k c ∷ []
rekeyed_more [] [] k c e = refl
rekeyed_more [] (d ∷ cs) k c e = absurd (omega (arith, e))
rekeyed_more (j ∷ ks) [] k c e = absurd (omega (arith, e))
rekeyed_more (j ∷ ks) (d ∷ cs) k c e = ap (λ l. keyed_cell j d ∷ l) (rekeyed_more ks cs k c (omega (arith, e)))

key_read : (way : List (ℕ × List ℕ)) (j : ℕ) (d : ℕ × List ℕ) → get_or (map key_on way) j (key_on d) ≡ key_on (get_or way j d)
key_read [] j d = refl
key_read (e ∷ way) zero d = refl
key_read (e ∷ way) (suc j) d = key_read way j d

pub many_keys : (way : List (ℕ × List ℕ)) → length (keys_on way) ≡ length way
many_keys way = length-reverse (map key_on way) ∙ length-map way key_on

keys_push : (way : List (ℕ × List ℕ)) (d : ℕ × List ℕ) → keys_on (way ++ d ∷ []) ≡ key_on d ∷ keys_on way
keys_push way d = ap reverse (map-append key_on way (d ∷ [])) ∙ reverse-append (map key_on way) (key_on d ∷ [])

pub row_more : (way : List (ℕ × List ℕ)) (cells : List PropertyRecord) (row : List Cell) (i : ℕ) (d e : ℕ × List ℕ) (c z : PropertyRecord) → length way ≡ length cells → i < length cells →
    d ≡ get_or way (length way - 1 - i) e → c ≡ get_or cells i z → row ≡ rekeyed (take i (keys_on way)) (map plain_cell (take i cells)) →
    row ++ keyed_cell (key_on d) (plain_cell c) ∷ [] ≡ rekeyed (take (i + 1) (keys_on way)) (map plain_cell (take (i + 1) cells))
row_more way cells row i d e c z same low is_d is_c is_row =
    let keys = keys_on way in
    let many = many_keys way in
    let mapped = length-map way key_on in
    let key : get_or keys i (key_on e) ≡ key_on d =
    get_or-reverse (map key_on way) i (key_on e) (omega (arith, mapped, same, low))
    ∙ (ap (λ n. get_or (map key_on way) (n - 1 - i) (key_on e)) mapped ∙ (key_read way (length way - 1 - i) e ∙ ap key_on (sym is_d))) in
    let keys_after : take (i + 1) keys ≡ take i keys ++ key_on d ∷ [] = take_more keys i (key_on e) (omega (arith, many, same, low)) ∙ ap (λ k. take i keys ++ k ∷ []) key in
    let cells_after : map plain_cell (take (i + 1) cells) ≡ map plain_cell (take i cells) ++ plain_cell c ∷ [] =
    ap (map plain_cell) (take_more cells i z low ∙ ap (λ k. take i cells ++ k ∷ []) (sym is_c)) ∙ map-append plain_cell (take i cells) (c ∷ []) in
    let keys_before = length-take-le i keys (omega (arith, many, same, low)) in
    let cells_before = length-map (take i cells) plain_cell ∙ length-take-le i cells (omega (arith, low)) in
    ap (λ l. l ++ keyed_cell (key_on d) (plain_cell c) ∷ []) is_row
    ∙ (sym (rekeyed_more (take i keys) (map plain_cell (take i cells)) (key_on d) (plain_cell c) (keys_before ∙ sym cells_before))
    ∙ (ap (λ l. rekeyed l (map plain_cell (take i cells) ++ plain_cell c ∷ [])) (sym keys_after) ∙ ap (rekeyed (take (i + 1) keys)) (sym cells_after)))

-- definitions on the way

module _ (x : ℕ) (names : List (List ℕ)) where
  abbrev own_keys : List (List ℕ) → List Key
  own_keys ns = map (λ name. (x, folded name)) ns

  pub definition_more : (way begun : List (ℕ × List ℕ)) (name : List ℕ) (i : ℕ) → 0 < i → i ≤ length names → name ≡ get_or names (i - 1) [] →
      keys_on way ≡ own_keys (drop i names) ++ keys_on begun → keys_on (way ++ (x, name) ∷ []) ≡ own_keys (drop (i - 1) names) ++ keys_on begun
  definition_more way begun name i some most is e =
      let next : i - 1 + 1 ≡ i = omega (arith, some) in
      let here : drop (i - 1) names ≡ name ∷ drop i names =
      drop_more names (i - 1) [] (omega (arith, some, most)) ∙ (ap (λ v. v ∷ drop (i - 1 + 1) names) (sym is) ∙ ap (λ n. name ∷ drop n names) next) in
      keys_push way (x, name) ∙ (ap (λ l. (x, folded name) ∷ l) e ∙ ap (λ l. own_keys l ++ keys_on begun) (sym here))

  pub definition_gone : (way new : List (ℕ × List ℕ)) (above : List Key) (i : ℕ) (o : Option (ℕ × List ℕ)) → i < length names → keys_on way ≡ own_keys (drop i names) ++ above →
      way ≡ new ++ option_to_list o → (0 < length way → IsSome o) → keys_on new ≡ own_keys (drop (i + 1) names) ++ above
  definition_gone way new above i o low e popped some = over o popped some
    where
      here : keys_on way ≡ (x, folded (get_or names i [])) ∷ (own_keys (drop (i + 1) names) ++ above)
      here = e ∙ ap (λ l. own_keys l ++ above) (drop_more names i [] low)

      over : (o : Option (ℕ × List ℕ)) → way ≡ new ++ option_to_list o → (0 < length way → IsSome o) → keys_on new ≡ own_keys (drop (i + 1) names) ++ above
      over None popped some = absurd (let many = sym (many_keys way) ∙ ap length here in let on = some (omega (arith, many)) in cc)
      over (Some d) popped some =
          let both : key_on d ∷ keys_on new ≡ (x, folded (get_or names i [])) ∷ (own_keys (drop (i + 1) names) ++ above) = sym (keys_push new d) ∙ (ap keys_on (sym popped) ∙ here) in
          cc

-- plain objects

pub plain_read : (os : List (Option ObjectRecord)) (rows : List (List (Option Block))) (x : ℕ) → object_of (plain_objects os rows) x ≡ plain_at (get_or os x None) (get_or rows x [])
plain_read [] rows x = refl
plain_read (o ∷ os) [] zero = refl
plain_read (o ∷ os) (row ∷ rows) zero = refl
plain_read (o ∷ os) [] (suc x) = plain_read os [] x
plain_read (o ∷ os) (row ∷ rows) (suc x) = plain_read os rows x

pub many_plain : (os : List (Option ObjectRecord)) (rows : List (List (Option Block))) → length (plain_objects os rows) ≡ length os
many_plain [] rows = refl
many_plain (o ∷ os) [] = ap suc (many_plain os [])
many_plain (o ∷ os) (row ∷ rows) = ap suc (many_plain os rows)

plain_names : (o : Option ObjectRecord) (ps : List (Option Block)) → (unwrap_or (plain_at o ps) nothing).defined ≡ names_in (option_map recorded.object_of o)
plain_names None ps = refl
plain_names (Some o) ps = refl

-- an object of the plain ones, with the cells for the definitions on a way up
abbrev pub keyed_at : List (Option Object) → ℕ → List ℕ → Option Object
keyed_at plain x ys = with_cells (object_of plain x) (rekeyed (keys_along plain (x ∷ ys)) (thing_of plain x).cells)

module _ (os : List (Option ObjectRecord)) (rows : List (List (Option Block))) where
  abbrev plain : List (Option Object)
  plain = plain_objects os rows

  abbrev links : List (Option Link)
  links = parent_links (with_objects os)

  pub own_keys_are : (x : ℕ) (names : List (List ℕ)) → names ≡ names_in (option_map recorded.object_of (get_or os x None)) → map (λ name. (x, folded name)) names ≡ keys_defined_on plain x
  own_keys_are x names e =
      ap (map (λ name. (x, folded name)))
      (e ∙ (sym (plain_names (get_or os x None) (get_or rows x [])) ∙ ap (λ (o : Option Object). (unwrap_or o nothing).defined) (sym (plain_read os rows x))))

  many_along : (ys : List ℕ) → length (keys_along plain ys) ≡ length (names_along (with_objects os) ys)
  many_along [] = refl
  many_along (y ∷ ys) =
      let r = with_objects os in
      let names = names_in (record_at r y) in
      let rest = many_along ys in
      let one = length-append (keys_defined_on plain y) (keys_along plain ys) in
      let two = length-append (names_at r y) (names_along r ys) in
      let own : length (keys_defined_on plain y) ≡ length names = ap length (sym (own_keys_are y names (ap names_in (object_read os y)))) ∙ length-map names (λ name. (y, folded name)) in
      let other = length-map names folded in
      omega (arith, rest, one, two, own, other)

  none_past : (x : ℕ) → length os ≤ x → object_of plain x ≡ None
  none_past x past = get_or_past plain x None (let many = many_plain os rows in omega (arith, many, past))

  -- the way and the objects made after i visits
  pub record IsKeying (tour : List Visit) (i : ℕ) (way : List (ℕ × List ℕ)) (made : List (Option Object)) : Type 0 where
    pub path : List ℕ
    pub end : List ℕ
    pub ahead : Leads links path (drop i tour) end
    pub many : length made ≡ length os
    pub keys : keys_on way ≡ keys_along plain path
    pub each : (y : ℕ) → 0 < times_entered y (take i tour) → (ys : List ℕ) → IsLineage links y ys → object_of made y ≡ keyed_at plain y ys

  module _ (tour : List Visit) (i : ℕ) (old new : List (ℕ × List ℕ)) (made : List (Option Object)) (x : ℕ) (low : i < length tour) (d : Visit)
      (names : List (List ℕ)) (names_are : names ≡ names_in (option_map recorded.object_of (get_or os x None))) (s : IsKeying tour i old made) where
    module _ (is : get_or tour i d ≡ Enter x) (added : keys_on new ≡ map (λ name. (x, folded name)) names ++ keys_on old) where
      ahead_in : Leads links s.path (Enter x ∷ drop (i + 1) tour) s.end
      ahead_in = subst (λ l. Leads links s.path l s.end) (drop_more tour i d low ∙ ap (λ v. v ∷ drop (i + 1) tour) is) s.ahead

      keys_in : keys_on new ≡ keys_along plain (x ∷ s.path)
      keys_in = added ∙ (ap (λ l. l ++ keys_on old) (own_keys_are x names names_are) ∙ ap (λ l. keys_defined_on plain x ++ l) s.keys)

      -- it has as many cells as there are definitions on the way
      pub cells_there : IsFirst (HasItsCells (with_objects os)) (length os) None → length (cells_in (option_map recorded.object_of (get_or os x None))) ≡ length new
      cells_there counts =
          let r = with_objects os in
          let h : HasItsCells r x = ⊎_elim (λ inside. counts x inside) (λ past. its_cells_past r x (let many = length-map os (option_map recorded.object_of) in omega (arith, many, past))) (cases_lt x (length os)) in
          ap (λ b. length (cells_in b)) (sym (object_read os x))
          ∙ (h.count
          ∙ (ap (λ ys. length (names_along r (x ∷ ys))) (one_lineage links x h.lineage s.path h.is ahead_in.0)
          ∙ (sym (many_along (x ∷ s.path)) ∙ (ap length (sym keys_in) ∙ many_keys new))))

      pub keying_enters : (o : Option Object) → (let p = plain_at (get_or os x None) (get_or rows x []) in o ≡ with_cells p (rekeyed (keys_on new) (unwrap_or p nothing).cells)) →
          IsKeying tour (i + 1) new (set made x o)
      keying_enters o o_is = record {
        path = x ∷ s.path;
        end = s.end;
        ahead = ahead_in.1;
        many = length-set made x o ∙ s.many;
        keys = keys_in;
        each = λ y some ys way. ⊎_elim
            (λ same. subst (λ k. IsLineage links k ys → object_of (set made x o) k ≡ keyed_at plain k ys) (sym same) (here ys) way)
            (λ ne. get_or-set_other made x y o None ne ∙ s.each y (entered_before (take i tour) x y ne (subst (λ l. 0 < times_entered y l) done_in some)) ys way)
            (cases_eq y x);
      }
        where
          done_in : take (i + 1) tour ≡ take i tour ++ Enter x ∷ []
          done_in = take_more tour i d low ∙ ap (λ v. take i tour ++ v ∷ []) is

          made_is : o ≡ keyed_at plain x s.path
          made_is =
              o_is
              ∙ (ap (λ p. with_cells p (rekeyed (keys_on new) (unwrap_or p nothing).cells)) (sym (plain_read os rows x))
              ∙ ap (λ ks. with_cells (object_of plain x) (rekeyed ks (thing_of plain x).cells)) keys_in)

          here : (ys : List ℕ) → IsLineage links x ys → object_of (set made x o) x ≡ keyed_at plain x ys
          here ys way = ⊎_elim
              (λ inside. get_or-set_same made x o None (let many = s.many in omega (arith, many, inside)) ∙ (made_is ∙ ap (keyed_at plain x) (one_lineage links x s.path ys ahead_in.0 way)))
              (λ past.
              let many = length-set made x o ∙ s.many in
              get_or_past (set made x o) x None (omega (arith, many, past)) ∙ sym (ap (λ p. with_cells p (rekeyed (keys_along plain (x ∷ ys)) (thing_of plain x).cells)) (none_past x past)))
              (cases_lt x (length os))

    pub keying_leaves : get_or tour i d ≡ Leave x → ((above : List Key) → keys_on old ≡ map (λ name. (x, folded name)) names ++ above → keys_on new ≡ above) → IsKeying tour (i + 1) new made
    keying_leaves is dropped =
        over s.path s.keys (subst (λ l. Leads links s.path l s.end) (drop_more tour i d low ∙ ap (λ v. v ∷ drop (i + 1) tour) is) s.ahead)
      where
        done : take (i + 1) tour ≡ take i tour ++ Leave x ∷ []
        done = take_more tour i d low ∙ ap (λ v. take i tour ++ v ∷ []) is

        over : (path : List ℕ) → keys_on old ≡ keys_along plain path → Leads links path (Leave x ∷ drop (i + 1) tour) s.end → IsKeying tour (i + 1) new made
        over [] keys ahead = absurd ahead
        over (p ∷ path) keys ahead = record {
          path = path;
          end = s.end;
          ahead = ahead.1;
          many = s.many;
          keys = dropped (keys_along plain path) (keys ∙ ap (λ l. l ++ keys_along plain path) (ap (keys_defined_on plain) ahead.0 ∙ sym (own_keys_are x names names_are)));
          each = λ y some ys way. s.each y (entered_still (take i tour) x y (subst (λ l. 0 < times_entered y l) done some)) ys way;
        }

  pub all_keyed : (tour : List Visit) (i : ℕ) (way : List (ℕ × List ℕ)) (made : List (Option Object)) → IsTour links tour → take i tour ≡ tour → IsKeying tour i way made → AreKeyed links plain made
  all_keyed tour i way made t whole s = record {
    many = s.many ∙ sym (many_plain os rows);
    each = λ x ys up. ⊎_elim
        (λ inside. s.each x (subst (λ l. 0 < times_entered x l) (sym whole) (t.whole x (let many = length-map os (option_map recorded.object_of) in let more = length-map (with_objects os).objects (option_map parent_link) in omega (arith, many, more, inside)) ys up)) ys up)
        (λ past.
        let many = s.many in
        get_or_past made x None (omega (arith, many, past)) ∙ sym (ap (λ p. with_cells p (rekeyed (keys_along plain (x ∷ ys)) (thing_of plain x).cells)) (none_past x past)))
        (cases_lt x (length os));
  }

-- under the forest of the links these are the objects of a restored world
pub keyed_is_restored : (links : List (Option Link)) (plain made : List (Option Object)) (tree : List Links) → AreKeyed links plain made → IsForest tree → IsTreeOf links tree → made ≡ restored plain tree
keyed_is_restored links plain made tree k forest says =
    fill_by_all (restored_object plain tree) made (length plain) None k.many (λ x low. k.each x (ancestors tree x) (lineage_is_ancestors links tree forest says x))
