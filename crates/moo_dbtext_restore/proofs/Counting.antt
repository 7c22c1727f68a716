-- The numbers of definitions on a walk.
use Rattle.std.proofs.Common.{◌≡◌, ◌≢◌, ℕ, zero, suc, ◌+◌, ◌-◌, ◌*◌, ◌^◌, ◌<◌, ◌≤◌, List, [], ◌∷◌, ◌++◌, length, map, take, drop, Option, Some, None, refl, sym, ap, subst, ◌∙◌, arith, get_or}
use Rattle.std.specs.Option.{option_map}
use Rattle.std.proofs.lemmas.List.{length-map, length-append, drop_more, take_more, get_or_past}
use Rattle.moo_value.specs.Compare.{folded}
use Rattle.moo_dbtext_object.specs.Objects as recorded
use Rattle.moo_dbtext_object.specs.declared.object_record.ObjectRecord.{ObjectRecord}
use Rattle.moo_dbtext_restore.specs.declared.link.Link.{Link}
use Rattle.moo_dbtext_restore.specs.declared.tour.Visit.{Visit}
use Rattle.moo_dbtext_restore.specs.declared.tour.Visit.TheVariants.{Enter, Leave}
use Rattle.moo_dbtext_restore.specs.First.{least_of}
use Rattle.moo_dbtext_restore.specs.Links.{IsLineage, numbered}
use Rattle.moo_dbtext_restore.specs.Records.{Records, record_at, parent_link, parent_links, names_in, cells_in, names_at, names_along}
use Rattle.moo_dbtext_restore.specs.Faults.{HasItsCells}
use Rattle.moo_dbtext_restore.specs.Tours.{Leads}
use Rattle.moo_dbtext_restore.proofs.Noded.{no_link_past}
use Rattle.moo_dbtext_restore.proofs.Worlds.{one_lineage}
use Rattle.moo_dbtext_restore.proofs.Passing.{IsFoundAmong, found_right, found_wrong, found_on}

pub object_read : (os : List (Option ObjectRecord)) (x : ℕ) → get_or (map (option_map recorded.object_of) os) x None ≡ option_map recorded.object_of (get_or os x None)
object_read [] x = refl
object_read (o ∷ os) zero = refl
object_read (o ∷ os) (suc x) = object_read os x

module _ (r : Records) where
  own_count : (x many : ℕ) → many ≡ length (names_in (record_at r x)) → length (names_at r x) ≡ many
  own_count x many e = length-map (names_in (record_at r x)) folded ∙ sym e

  count_along : (x : ℕ) (path : List ℕ) (many : ℕ) → many ≡ length (names_in (record_at r x)) → length (names_along r (x ∷ path)) ≡ many + length (names_along r path)
  count_along x path many e = let parts = length-append (names_at r x) (names_along r path) in let own = own_count x many e in omega (arith, parts, own)

  no_cells_where : (x : ℕ) (path : List ℕ) → IsLineage (parent_links r) x path → length (cells_in (record_at r x)) ≢ length (names_along r (x ∷ path)) → ¬ (HasItsCells r x)
  no_cells_where x path way ne h = ne (h.count ∙ ap (λ ys. length (names_along r (x ∷ ys))) (one_lineage (parent_links r) x h.lineage path h.is way))

  pub its_cells_past : (x : ℕ) → length r.objects ≤ x → HasItsCells r x
  its_cells_past x past =
      let none = get_or_past r.objects x None past in
      record {
        lineage = [];
        is = ap (λ (l : Link). numbered (parent_links r) l.above) (no_link_past (parent_links r) x (let len = length-map r.objects (option_map parent_link) in omega (arith, len, past)));
        count = ap (λ b. length (cells_in b)) none ∙ sym (ap (λ b. length (map folded (names_in b) ++ [])) none);
      }

  -- so many definitions are on the way after i visits, and this is the first object at fault so far
  pub record IsCounting (tour : List Visit) (i : ℕ) (definitions : ℕ) (first : Option ℕ) : Type 0 where
    pub path : List ℕ
    pub end : List ℕ
    pub ahead : Leads (parent_links r) path (drop i tour) end
    pub many : definitions ≡ length (names_along r path)
    pub most : definitions ≤ i * 2 ^ 64
    pub found : IsFoundAmong (parent_links r) (HasItsCells r) (take i tour) first

  module _ (tour : List Visit) (i : ℕ) (old new : ℕ) (first : Option ℕ) (x own : ℕ) (low : i < length tour) (d : Visit)
      (own_is : own ≡ length (names_in (record_at r x))) (s : IsCounting tour i old first) where
    module _ (is : get_or tour i d ≡ Enter x) (cells : ℕ) (cells_is : cells ≡ length (cells_in (record_at r x))) (added : new ≡ old + own) (fits : own < 2 ^ 64) where
      ahead_in : Leads (parent_links r) s.path (Enter x ∷ drop (i + 1) tour) s.end
      ahead_in = subst (λ l. Leads (parent_links r) s.path l s.end) (drop_more tour i d low ∙ ap (λ v. v ∷ drop (i + 1) tour) is) s.ahead

      done_in : take (i + 1) tour ≡ take i tour ++ Enter x ∷ []
      done_in = take_more tour i d low ∙ ap (λ v. take i tour ++ v ∷ []) is

      many_in : new ≡ length (names_along r (x ∷ s.path))
      many_in = let along = count_along x s.path own own_is in let many = s.many in omega (arith, along, many, added)

      most_in : new ≤ (i + 1) * 2 ^ 64
      most_in = let most = s.most in omega (arith, most, added, fits)

      pub counting_enters_wrong : new ≢ cells → IsCounting tour (i + 1) new (least_of first (Some x))
      counting_enters_wrong ne = record {
        path = x ∷ s.path;
        end = s.end;
        ahead = ahead_in.1;
        many = many_in;
        most = most_in;
        found = subst (λ l. IsFoundAmong (parent_links r) (HasItsCells r) l (least_of first (Some x))) (sym done_in)
            (found_wrong (parent_links r) (HasItsCells r) (take i tour) x first s.path ahead_in.0
            (no_cells_where x s.path ahead_in.0 (λ e. ne (many_in ∙ sym (cells_is ∙ e)))) s.found);
      }

      pub counting_enters_right : new ≡ cells → IsCounting tour (i + 1) new first
      counting_enters_right same = record {
        path = x ∷ s.path;
        end = s.end;
        ahead = ahead_in.1;
        many = many_in;
        most = most_in;
        found = subst (λ l. IsFoundAmong (parent_links r) (HasItsCells r) l first) (sym done_in)
            (found_right (parent_links r) (HasItsCells r) (take i tour) x first
            (record { lineage = s.path; is = ahead_in.0; count = sym cells_is ∙ (sym same ∙ many_in) }) s.found);
      }

    -- the definitions of an object are counted when it is left
    pub leaves_counted : get_or tour i d ≡ Leave x → own ≤ old
    leaves_counted is = over s.path s.many (subst (λ l. Leads (parent_links r) s.path l s.end) (drop_more tour i d low ∙ ap (λ v. v ∷ drop (i + 1) tour) is) s.ahead)
      where
        over : (path : List ℕ) → old ≡ length (names_along r path) → Leads (parent_links r) path (Leave x ∷ drop (i + 1) tour) s.end → own ≤ old
        over [] many ahead = absurd ahead
        over (p ∷ path) many ahead = let along = count_along p path own (own_is ∙ ap (λ y. length (names_in (record_at r y))) (sym ahead.0)) in omega (arith, along, many)

    pub counting_leaves : get_or tour i d ≡ Leave x → new ≡ old - own → IsCounting tour (i + 1) new first
    counting_leaves is dropped =
        over s.path s.many (subst (λ l. Leads (parent_links r) s.path l s.end) (drop_more tour i d low ∙ ap (λ v. v ∷ drop (i + 1) tour) is) s.ahead)
      where
        done : take (i + 1) tour ≡ take i tour ++ Leave x ∷ []
        done = take_more tour i d low ∙ ap (λ v. take i tour ++ v ∷ []) is

        over : (path : List ℕ) → old ≡ length (names_along r path) → Leads (parent_links r) path (Leave x ∷ drop (i + 1) tour) s.end → IsCounting tour (i + 1) new first
        over [] many ahead = absurd ahead
        over (p ∷ path) many ahead = record {
          path = path;
          end = s.end;
          ahead = ahead.1;
          many = let along = count_along p path own (own_is ∙ ap (λ y. length (names_in (record_at r y))) (sym ahead.0)) in omega (arith, along, many, dropped);
          most = let most = s.most in omega (arith, most, dropped);
          found = subst (λ l. IsFoundAmong (parent_links r) (HasItsCells r) l first) (sym done) (found_on (parent_links r) (HasItsCells r) (take i tour) x first s.found);
        }
