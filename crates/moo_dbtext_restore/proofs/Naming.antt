-- The names of properties on a walk.
use Rattle.std.proofs.Common.{◌≡◌, ℕ, zero, suc, ◌+◌, ◌<◌, ◌≤◌, List, [], ◌∷◌, ◌++◌, length, reverse, map, take, drop, Option, Some, None, is_some, IsSome, option_to_list, Bool, true, false, not, ◌||◌, cond, refl, sym, ap, subst, ◌∙◌, ⊎_elim, arith, get_or}
use Rattle.std.specs.List.{list_any}
use Rattle.std.specs.BTreeMap as tree
use Rattle.std.specs.BTreeMap.{BTreeMap}
use Rattle.std.specs.Ordering.{nat_cmp}
use Rattle.std.specs.Cmp as cmp
use Rattle.std.specs.Cmp.Lexicographic.{slice_cmp}
use Rattle.std.specs.Str.{bytes_eq}
use Rattle.std.proofs.lemmas.Map.Text.{btree_map_updates_str}
use Rattle.std.proofs.lemmas.Slice.Eq.{bytes_eq-Decides}
use Rattle.std.proofs.lemmas.List.{reverse-append, length-reverse, drop_more, take_more, get_or_past}
use Rattle.std.proofs.lemmas.List.Folds.{list_any-append}
use Rattle.std.proofs.lemmas.Bool.{cases_Bool, both_ways, or_parts, or_from}
use denote.Ref.{Bor}
use Rattle.moo_value.specs.Compare.{folded}
use Rattle.moo_world_object.specs.Names.{same_name}
use Rattle.moo_world_table.specs.World.{has_twice}
use Rattle.moo_dbtext_object.specs.Objects as recorded
use Rattle.moo_dbtext_restore.specs.declared.tour.Visit.{Visit}
use Rattle.moo_dbtext_restore.specs.declared.tour.Visit.TheVariants.{Enter, Leave}
use Rattle.moo_dbtext_restore.specs.First.{least_of}
use Rattle.moo_dbtext_restore.specs.Links.{IsLineage}
use Rattle.moo_dbtext_restore.specs.Records.{Records, parent_links, names_in, names_at, names_along}
use Rattle.moo_dbtext_restore.specs.Faults.{HasOwnNames}
use Rattle.moo_dbtext_restore.specs.Names.{freshness, clashes_with, AreMet}
use Rattle.moo_dbtext_restore.specs.Tours.{Leads}
use Rattle.moo_dbtext_restore.proofs.Worlds.{one_lineage}
use Rattle.moo_dbtext_restore.proofs.Passing.{IsFoundAmong, found_right, found_wrong, found_on}

flip : (x y : List ℕ) → bytes_eq x y ≡ bytes_eq y x
flip x y = cmp.both_ways (bytes_eq x y) (bytes_eq y x)
    (λ e. (bytes_eq-Decides y x).1 (sym ((bytes_eq-Decides x y).0 e)))
    (λ e. (bytes_eq-Decides x y).1 (sym ((bytes_eq-Decides y x).0 e)))

module _ {X : Type 0} where
  abbrev has : BTreeMap (Bor (List ℕ)) X → List ℕ → Bool
  has m y = is_some (tree.get_by (λ k. slice_cmp nat_cmp y k.now) m)

  some_or : (c : Bool) (v : X) (o : Option X) → is_some (cond c (Some v) o) ≡ (c || is_some o)
  some_or true v o = refl
  some_or false v o = refl

  module _ (m : BTreeMap (Bor (List ℕ)) X) (fresh : List Bool) (x : List ℕ) (names : List (List ℕ)) where
    -- a name that was met before
    pub meet_known : AreMet m fresh names → list_any (same_name x) names ≡ true → AreMet m (fresh ++ false ∷ []) (x ∷ names)
    meet_known a known = record {
      has = λ y. a.has y ∙ ⊎_elim
          (λ same.
          let y_is = (bytes_eq-Decides y x).0 same in
          let here : list_any (same_name y) names ≡ true = ap (λ n. list_any (same_name n) names) y_is ∙ known in
          rw (same, here) refl)
          (λ other. rw other refl)
          (cases_Bool (bytes_eq y x));
      flags = reverse-append fresh (false ∷ []) ∙ (ap (λ l. false ∷ l) a.flags ∙ ap (λ b. not b ∷ freshness names) (sym known));
    }

    -- one that was not
    pub meet_new : (n : BTreeMap (Bor (List ℕ)) X) (v : X) → AreMet m fresh names → list_any (same_name x) names ≡ false →
        tree.UpdatesBy (λ x y. slice_cmp nat_cmp x.now y.now) (λ k. slice_cmp nat_cmp x k.now) m n (Some v) → AreMet n (fresh ++ true ∷ []) (x ∷ names)
    meet_new n v a new u = record {
      has = λ y. ap is_some (btree_map_updates_str x m n (Some v) u y)
          ∙ (some_or (bytes_eq x y) v (tree.get_by (λ k. slice_cmp nat_cmp y k.now) m)
          ∙ (ap (λ b. b || has m y) (flip x y) ∙ ap (λ b. bytes_eq y x || b) (a.has y)));
      flags = reverse-append fresh (true ∷ []) ∙ (ap (λ l. true ∷ l) a.flags ∙ ap (λ b. not b ∷ freshness names) (sym new));
    }

    flags_split : (b : Bool) → AreMet m (fresh ++ b ∷ []) (x ∷ names) → (b ≡ not (list_any (same_name x) names)) × (reverse fresh ≡ freshness names)
    flags_split b a =
        let whole : b ∷ reverse fresh ≡ not (list_any (same_name x) names) ∷ freshness names = sym (reverse-append fresh (b ∷ [])) ∙ a.flags in
        (cc, cc)

    pub forget_known : AreMet m (fresh ++ false ∷ []) (x ∷ names) → AreMet m fresh names
    forget_known a =
        let parts = flags_split false a in
        let known : list_any (same_name x) names ≡ true = ⊎_elim (λ e. e) (λ e. absurd (let off = parts.0 ∙ ap not e in cc)) (cases_Bool (list_any (same_name x) names)) in
        record {
          has = λ y. a.has y ∙ ⊎_elim
              (λ same.
              let y_is = (bytes_eq-Decides y x).0 same in
              let here : list_any (same_name y) names ≡ true = ap (λ n. list_any (same_name n) names) y_is ∙ known in
              rw (same, here) refl)
              (λ other. rw other refl)
              (cases_Bool (bytes_eq y x));
          flags = parts.1;
        }

    pub forget_new : (n : BTreeMap (Bor (List ℕ)) X) → AreMet m (fresh ++ true ∷ []) (x ∷ names) →
        tree.UpdatesBy (λ x y. slice_cmp nat_cmp x.now y.now) (λ k. slice_cmp nat_cmp x k.now) m n None → AreMet n fresh names
    forget_new n a u =
        let parts = flags_split true a in
        let new : list_any (same_name x) names ≡ false = ⊎_elim (λ e. absurd (let off = parts.0 ∙ ap not e in cc)) (λ e. e) (cases_Bool (list_any (same_name x) names)) in
        record {
          has = λ y. ap is_some (btree_map_updates_str x m n None u y) ∙ ⊎_elim
              (λ same.
              let y_is = sym ((bytes_eq-Decides x y).0 same) in
              let here : list_any (same_name y) names ≡ false = ap (λ n. list_any (same_name n) names) y_is ∙ new in
              rw (same, here) refl)
              (λ other.
              let old : has m y ≡ (bytes_eq y x || list_any (same_name y) names) = a.has y in
              let apart : bytes_eq y x ≡ false = flip y x ∙ other in
              ap is_some (ap (λ b. cond b None (tree.get_by (λ k. slice_cmp nat_cmp y k.now) m)) other) ∙ (old ∙ ap (λ b. b || list_any (same_name y) names) apart))
              (cases_Bool (bytes_eq x y));
          flags = parts.1;
        }

  pub popped : (m : BTreeMap (Bor (List ℕ)) X) (old new : List Bool) (x : List ℕ) (names : List (List ℕ)) (o : Option Bool) → (0 < length old → IsSome o) → old ≡ new ++ option_to_list o →
      AreMet m old (x ∷ names) → (b : Bool) × (o ≡ Some b) × AreMet m (new ++ b ∷ []) (x ∷ names)
  popped m old new x names None some e a =
      let many = sym (length-reverse old) ∙ ap length a.flags in
      absurd (let on = some (omega (arith, many)) in cc)
  popped m old new x names (Some b) some e a = (b, refl, subst (λ l. AreMet m l (x ∷ names)) e a)

-- clashes

pub clash_parts : (ns above : List (List ℕ)) → clashes_with ns above ≡ false → (has_twice ns ≡ false) × (list_any (λ n. list_any (same_name n) above) ns ≡ false)
clash_parts [] above h = (refl, refl)
clash_parts (n ∷ ns) above h =
    let parts = or_parts (list_any (same_name n) (ns ++ above)) (clashes_with ns above) h in
    let both = or_parts (list_any (same_name n) ns) (list_any (same_name n) above) (sym (list_any-append (same_name n) ns above) ∙ parts.0) in
    let rest = clash_parts ns above parts.1 in
    (or_from (list_any (same_name n) ns) (has_twice ns) both.0 rest.0, or_from (list_any (same_name n) above) (list_any (λ m. list_any (same_name m) above) ns) both.1 rest.1)

pub clash_from : (ns above : List (List ℕ)) → has_twice ns ≡ false → list_any (λ n. list_any (same_name n) above) ns ≡ false → clashes_with ns above ≡ false
clash_from [] above once apart = refl
clash_from (n ∷ ns) above once apart =
    let one = or_parts (list_any (same_name n) ns) (has_twice ns) once in
    let two = or_parts (list_any (same_name n) above) (list_any (λ m. list_any (same_name m) above) ns) apart in
    or_from (list_any (same_name n) (ns ++ above)) (clashes_with ns above)
    (list_any-append (same_name n) ns above ∙ or_from (list_any (same_name n) ns) (list_any (same_name n) above) one.0 two.0)
    (clash_from ns above one.1 two.1)

pub row_read : (os : List (Option recorded.Object)) (x : ℕ) → get_or (map (λ o. map folded (names_in o)) os) x [] ≡ map folded (names_in (get_or os x None))
row_read [] x = refl
row_read (o ∷ os) zero = refl
row_read (o ∷ os) (suc x) = row_read os x

module _ (r : Records) where
  own_names_where : (x : ℕ) (path : List ℕ) → IsLineage (parent_links r) x path → clashes_with (names_at r x) (names_along r path) ≡ false → HasOwnNames r x
  own_names_where x path way h =
      let parts = clash_parts (names_at r x) (names_along r path) h in
      record {
        once = parts.0;
        apart = λ ys other. subst (λ l. list_any (λ n. list_any (same_name n) (names_along r l)) (names_at r x) ≡ false) (one_lineage (parent_links r) x path ys way other) parts.1;
      }

  no_own_names_where : (x : ℕ) (path : List ℕ) → IsLineage (parent_links r) x path → clashes_with (names_at r x) (names_along r path) ≡ true → ¬ (HasOwnNames r x)
  no_own_names_where x path way h own = both_ways (clashes_with (names_at r x) (names_along r path)) (clash_from (names_at r x) (names_along r path) own.once (own.apart path way)) h

  pub own_names_past : (x : ℕ) → length r.objects ≤ x → HasOwnNames r x
  own_names_past x past =
      let none = get_or_past r.objects x None past in
      record {
        once = ap (λ b. has_twice (map folded (names_in b))) none;
        apart = λ ys way. ap (λ b. list_any (λ n. list_any (same_name n) (names_along r ys)) (map folded (names_in b))) none;
      }

  -- the names met after i visits, and the first object at fault so far
  pub record IsNaming {X : Type 0} (tour : List Visit) (i : ℕ) (met : BTreeMap (Bor (List ℕ)) X) (fresh : List Bool) (first : Option ℕ) : Type 0 where
    pub path : List ℕ
    pub end : List ℕ
    pub ahead : Leads (parent_links r) path (drop i tour) end
    pub names : AreMet met fresh (names_along r path)
    pub found : IsFoundAmong (parent_links r) (HasOwnNames r) (take i tour) first

  module _ {X : Type 0} (tour : List Visit) (i : ℕ) (met new : BTreeMap (Bor (List ℕ)) X) (fresh flags : List Bool) (first : Option ℕ) (x : ℕ) (row : List (List ℕ)) where
    module _ (low : i < length tour) (d : Visit) (is : get_or tour i d ≡ Enter x) (row_is : row ≡ names_at r x) (clash : Bool)
        (meets : (above : List (List ℕ)) → AreMet met fresh above → (clash ≡ clashes_with row above) × AreMet new flags (row ++ above))
        (s : IsNaming tour i met fresh first) where
      ahead_in : Leads (parent_links r) s.path (Enter x ∷ drop (i + 1) tour) s.end
      ahead_in = subst (λ l. Leads (parent_links r) s.path l s.end) (drop_more tour i d low ∙ ap (λ v. v ∷ drop (i + 1) tour) is) s.ahead

      done_in : take (i + 1) tour ≡ take i tour ++ Enter x ∷ []
      done_in = take_more tour i d low ∙ ap (λ v. take i tour ++ v ∷ []) is

      met_in : (clash ≡ clashes_with (names_at r x) (names_along r s.path)) × AreMet new flags (names_along r (x ∷ s.path))
      met_in = let m = meets (names_along r s.path) s.names in
          (m.0 ∙ ap (λ l. clashes_with l (names_along r s.path)) row_is, subst (λ l. AreMet new flags (l ++ names_along r s.path)) row_is m.1)

      pub naming_enters_wrong : clash ≡ true → IsNaming tour (i + 1) new flags (least_of first (Some x))
      naming_enters_wrong on = record {
        path = x ∷ s.path;
        end = s.end;
        ahead = ahead_in.1;
        names = met_in.1;
        found = subst (λ l. IsFoundAmong (parent_links r) (HasOwnNames r) l (least_of first (Some x))) (sym done_in)
            (found_wrong (parent_links r) (HasOwnNames r) (take i tour) x first s.path ahead_in.0 (no_own_names_where x s.path ahead_in.0 (sym met_in.0 ∙ on)) s.found);
      }

      pub naming_enters_right : clash ≡ false → IsNaming tour (i + 1) new flags first
      naming_enters_right off = record {
        path = x ∷ s.path;
        end = s.end;
        ahead = ahead_in.1;
        names = met_in.1;
        found = subst (λ l. IsFoundAmong (parent_links r) (HasOwnNames r) l first) (sym done_in)
            (found_right (parent_links r) (HasOwnNames r) (take i tour) x first (own_names_where x s.path ahead_in.0 (sym met_in.0 ∙ off)) s.found);
      }

    pub naming_leaves : i < length tour → (d : Visit) → get_or tour i d ≡ Leave x → row ≡ names_at r x →
        ((above : List (List ℕ)) → AreMet met fresh (row ++ above) → AreMet new flags above) → IsNaming tour i met fresh first → IsNaming tour (i + 1) new flags first
    naming_leaves low d is row_is forgets s =
        over s.path s.names (subst (λ l. Leads (parent_links r) s.path l s.end) (drop_more tour i d low ∙ ap (λ v. v ∷ drop (i + 1) tour) is) s.ahead)
      where
        done : take (i + 1) tour ≡ take i tour ++ Leave x ∷ []
        done = take_more tour i d low ∙ ap (λ v. take i tour ++ v ∷ []) is

        over : (path : List ℕ) → AreMet met fresh (names_along r path) → Leads (parent_links r) path (Leave x ∷ drop (i + 1) tour) s.end → IsNaming tour (i + 1) new flags first
        over [] names ahead = absurd ahead
        over (p ∷ path) names ahead = record {
          path = path;
          end = s.end;
          ahead = ahead.1;
          names = forgets (names_along r path) (subst (λ l. AreMet met fresh (l ++ names_along r path)) (ap (names_at r) ahead.0 ∙ sym row_is) names);
          found = subst (λ l. IsFoundAmong (parent_links r) (HasOwnNames r) l first) (sym done) (found_on (parent_links r) (HasOwnNames r) (take i tour) x first s.found);
        }
