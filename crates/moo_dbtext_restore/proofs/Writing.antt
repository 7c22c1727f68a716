-- The records of a world describe it.
use Rattle.std.proofs.Common.{◌≡◌, ℕ, zero, suc, ◌+◌, ◌<◌, ◌≤◌, List, [], ◌∷◌, ◌++◌, length, Option, Some, None, cond, eqb, refl, sym, ap, subst, ◌∙◌, ⊎_elim, arith, map, get_or, append_assoc}
use Rattle.std.specs.List.{range_with_len, count_by}
use Rattle.std.specs.Option.{unwrap_or, option_map}
use Rattle.std.proofs.lemmas.List.{length-map, get_or_past}
use Rattle.std.proofs.lemmas.List.Sums.{sum_by-append}
use Rattle.std.proofs.lemmas.List.FromFn.{get_or-map-range_with_len, length-map-range_with_len}
use Rattle.std.proofs.lemmas.Bool.{cases_Bool, cases_lt, eqb-true, eq-eqb}
use Rattle.moo_syntax_ast.specs.Tree.{Block}
use Rattle.moo_world_tree.specs.Forest.{Links, alone, above_of, below_of, times_below}
use Rattle.moo_world_object.specs.Objects.{Object}
use Rattle.moo_world_table.specs.World.{World, nothing, object_of, IsJoined, IsWellFormed}
use Rattle.moo_dbtext_object.specs.Objects as recorded
use Rattle.moo_dbtext_restore.specs.declared.link.Link.{Link}
use Rattle.moo_dbtext_restore.specs.Links.{no_link, place_number, link_at, link_of, IsChain, IsTreeOf}
use Rattle.moo_dbtext_restore.specs.Records.{record_at, program_at, parent_link, place_link, parent_links, place_links}
use Rattle.moo_dbtext_restore.specs.Says.{program_of, SaysAt, Says}
use Rattle.moo_dbtext_restore.specs.Recorded.{first_in, next_in, next_below, link_in, recorded_object, recorded_at, programs_at, records_of}

count_parts : (y : ℕ) (xs ys : List ℕ) → count_by (eqb y) (xs ++ ys) ≡ count_by (eqb y) xs + count_by (eqb y) ys
count_parts y xs ys = sum_by-append (λ k. cond (eqb y k) 1 0) xs ys

count_itself : (y : ℕ) (ys : List ℕ) → 0 < count_by (eqb y) (y ∷ ys)
count_itself y ys =
    let parts = count_parts y (y ∷ []) ys in
    let one : count_by (eqb y) (y ∷ []) ≡ 1 = (let same = eq-eqb y y refl in rw same refl) in
    omega (arith, parts, one)

-- the next number after one that occurs in a list once
next_found : (y : ℕ) (front rest : List ℕ) → count_by (eqb y) (front ++ y ∷ rest) ≤ 1 → next_in y (front ++ y ∷ rest) ≡ first_in rest
next_found y [] rest few = let same = eq-eqb y y refl in rw same refl
next_found y (z ∷ front) rest few = ⊎_elim
    (λ e.
    let same = eqb-true z y e in
    let twice = count_parts y (z ∷ front) (y ∷ rest) in
    let here : 0 < count_by (eqb y) (z ∷ front) = subst (λ k. 0 < count_by (eqb y) (k ∷ front)) (sym same) (count_itself y front) in
    let there = count_itself y rest in
    absurd (omega (arith, twice, here, there, few)))
    (λ e.
    let parts = count_parts y (z ∷ []) (front ++ y ∷ rest) in
    rw e (next_found y front rest (omega (arith, parts, few))))
    (cases_Bool (eqb z y))

above_then : (u : Option ℕ) (x : ℕ) → 0 < times_below u x → u ≡ Some x
above_then None x h = absurd (omega arith)
above_then (Some up) x h = ⊎_elim
    (λ e. ap (λ k. Some k) (sym (eqb-true x up e)))
    (λ e. absurd (let none : times_below (Some up) x ≡ 0 = (rw e refl) in omega (arith, none)))
    (cases_Bool (eqb x up))

once_at_most : (u : Option ℕ) (x : ℕ) → times_below u x ≤ 1
once_at_most None x = omega arith
once_at_most (Some up) x = ⊎_elim (λ e. rw e (omega arith)) (λ e. rw e (omega arith)) (cases_Bool (eqb x up))

-- a tree whose links are those of its nodes, wherever an object is
module _ (objects : List (Option Object)) (tree : List Links) (links : List (Option Link)) (joined : IsJoined objects tree) (many : length links ≡ length objects)
    (read : (x : ℕ) → link_at links x ≡ option_map (λ (o : Object). link_in tree x) (object_of objects x)) where
  link_read : (x : ℕ) (o : Option Object) → object_of objects x ≡ o → link_of links x ≡ link_in tree x
  link_read x None e =
      let none : link_at links x ≡ None = read x ∙ ap (option_map (λ (o : Object). link_in tree x)) e in
      let free = joined.free x e in
      ap (λ (l : Option Link). unwrap_or l no_link) none
      ∙ sym (ap (λ (n : Links). (let l : Link = record { above = place_number n.above; first = place_number (first_in n.below); next = place_number (next_below tree n.above x) } in l)) free)
  link_read x (Some o) e = ap (λ (l : Option Link). unwrap_or l no_link) (read x ∙ ap (option_map (λ (p : Object). link_in tree x)) e)

  linked : (x : ℕ) → link_of links x ≡ link_in tree x
  linked x = link_read x (object_of objects x) refl

  next_of : (x y : ℕ) (front rest : List ℕ) → below_of tree x ≡ front ++ y ∷ rest → (link_of links y).next ≡ place_number (first_in rest)
  next_of x y front rest whole =
      let count = joined.forest.exact x y in
      let same : count_by (eqb y) (below_of tree x) ≡ count_by (eqb y) (front ++ y ∷ rest) = ap (count_by (eqb y)) whole in
      let parts = count_parts y front (y ∷ rest) in
      let some = count_itself y rest in
      let most = once_at_most (above_of tree y) x in
      let above = above_then (above_of tree y) x (omega (arith, count, same, parts, some)) in
      ap (λ (l : Link). l.next) (linked y)
      ∙ (ap (λ u. place_number (next_below tree u y)) above
      ∙ (ap (λ l. place_number (next_in y l)) whole
      ∙ ap place_number (next_found y front rest (omega (arith, count, same, most)))))

  chain_from : (x : ℕ) (front rest : List ℕ) → below_of tree x ≡ front ++ rest → IsChain links (place_number (first_in rest)) rest
  chain_from x front [] whole = refl
  chain_from x front (y ∷ rest) whole = (
    refl,
    subst (λ z. IsChain links z rest) (sym (next_of x y front rest whole))
        (chain_from x (front ++ y ∷ []) rest (whole ∙ sym (append_assoc front (y ∷ []) rest))),
  )

  tree_read : IsTreeOf links tree
  tree_read = record {
    many = joined.many ∙ sym many;
    joined = λ x. record {
      above = sym (ap (λ (l : Link). l.above) (linked x));
      below = subst (λ z. IsChain links z (below_of tree x)) (sym (ap (λ (l : Link). l.first) (linked x))) (chain_from x [] (below_of tree x) refl);
    };
    free = λ x none. over x (object_of objects x) refl none;
  }
    where
      over : (x : ℕ) (o : Option Object) → object_of objects x ≡ o → link_at links x ≡ None → get_or tree x alone ≡ alone
      over x None e none = joined.free x e
      over x (Some o) e none = absurd (let some : link_at links x ≡ Some (link_in tree x) = read x ∙ ap (option_map (λ (p : Object). link_in tree x)) e in cc)

pub link_mapped : (g : recorded.Object → Link) (os : List (Option recorded.Object)) (x : ℕ) → get_or (map (option_map g) os) x None ≡ option_map g (get_or os x None)
link_mapped g [] x = refl
link_mapped g (o ∷ os) zero = refl
link_mapped g (o ∷ os) (suc x) = link_mapped g os x

module _ (w : World) (f : IsWellFormed w) where
  recorded_read : (x : ℕ) → record_at (records_of w) x ≡ recorded_at w x
  recorded_read x = ⊎_elim
      (λ low. get_or-map-range_with_len (recorded_at w) 0 (length w.objects) x x None low (omega arith))
      (λ past.
      let len = length-map-range_with_len (recorded_at w) 0 (length w.objects) in
      let here : object_of w.objects x ≡ None = get_or_past w.objects x None past in
      get_or_past (map (recorded_at w) (range_with_len 0 (length w.objects))) x None (omega (arith, len, past)) ∙ sym (ap (option_map (recorded_object w x)) here))
      (cases_lt x (length w.objects))

  many_links : (g : recorded.Object → Link) → length (map (option_map g) (records_of w).objects) ≡ length w.objects
  many_links g = length-map (records_of w).objects (option_map g) ∙ length-map-range_with_len (recorded_at w) 0 (length w.objects)

  parent_of : (x : ℕ) (o : Option Object) → option_map parent_link (option_map (recorded_object w x) o) ≡ option_map (λ (p : Object). link_in w.inheritance x) o
  parent_of x None = refl
  parent_of x (Some o) = refl

  place_of : (x : ℕ) (o : Option Object) → option_map place_link (option_map (recorded_object w x) o) ≡ option_map (λ (p : Object). link_in w.containment x) o
  place_of x None = refl
  place_of x (Some o) = refl

  programs_read : (x : ℕ) → x < length w.objects → (v : ℕ) → program_at (records_of w) x v ≡ get_or (programs_at w x) v None
  programs_read x low v = ap (λ (row : List (Option Block)). get_or row v None) (get_or-map-range_with_len (programs_at w) 0 (length w.objects) x x [] low (omega arith))

  object_said : (x : ℕ) (o : Option Object) → object_of w.objects x ≡ o → SaysAt (records_of w) x (option_map (recorded_object w x) o) o
  object_said x None e = tt
  object_said x (Some o) e = record {
    name = refl;
    owner = refl;
    flags = refl;
    verbs = refl;
    programs = λ v low. sym (programs_read x inside v ∙ ap (λ (p : Option Object). get_or (map program_of (unwrap_or p nothing).verbs) v None) e);
    names = refl;
    cells = refl;
  }
    where
      inside : x < length w.objects
      inside = ⊎_elim (λ low. low) (λ past. absurd (let none = get_or_past w.objects x None past in cc)) (cases_lt x (length w.objects))

  pub says_itself : Says (records_of w) w
  says_itself = record {
    many = sym (length-map-range_with_len (recorded_at w) 0 (length w.objects));
    objects = λ x. subst (λ b. SaysAt (records_of w) x b (object_of w.objects x)) (sym (recorded_read x)) (object_said x (object_of w.objects x) refl);
    definitions = f.stocked.exact_cells;
    parents = tree_read w.objects w.inheritance (parent_links (records_of w)) f.parents (many_links parent_link)
        (λ x. link_mapped parent_link (records_of w).objects x ∙ (ap (option_map parent_link) (recorded_read x) ∙ parent_of x (object_of w.objects x)));
    places = tree_read w.objects w.containment (place_links (records_of w)) f.places (many_links place_link)
        (λ x. link_mapped place_link (records_of w).objects x ∙ (ap (option_map place_link) (recorded_read x) ∙ place_of x (object_of w.objects x)));
    players = refl;
  }
