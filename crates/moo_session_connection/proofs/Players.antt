-- Where players are connected when a connection comes, goes, or is changed.
use Rattle.std.proofs.Common.{◌≡◌, ℕ, ℤ, suc, zero, ◌<◌, Bool, true, false, cond, List, [], ◌∷◌, length, get_or, Option, Some, None, refl, sym, ◌∙◌, ap, subst, ⊎_elim, arith}
use Rattle.std.specs.Prelude.{slice_set, find}
use Rattle.std.specs.List.{remove, insert}
use Rattle.std.specs.BTreeMap.{BTreeMap, get}
use Rattle.std.specs.Option.{option_map, option_map_or}
use Rattle.std.specs.Ordering.{int_cmp, int_eq}
use Rattle.std.proofs.lemmas.Bool.{cond-true, cond-false, cases_Bool, true≢false, false_from_ne_true}
use Rattle.std.proofs.lemmas.Bool.Decides.{Decides-int_eq}
use Rattle.moo_session_connection.specs.declared.client.Client.{Client}
use Rattle.moo_session_connection.specs.Clients.{number_of, player_on, is_played_by}
use Rattle.moo_session_connection.specs.Connections.{NonePlayedBy, HaveOwnPlayers}
use Rattle.moo_session_connection.specs.Players.{number_playing, LeadsToPlayers}

pub played_by : (p : ℤ) (c : Client) (o : Option ℤ) → player_on c ≡ o → option_map_or (int_eq p) o false ≡ true → player_on c ≡ Some p
played_by p c None e t = cc
played_by p c (Some q) e t = e ∙ ap (λ (x : ℤ). Some x) (sym ((Decides-int_eq p q).0 t))

pub differs : (p q : ℤ) → int_eq p q ≡ false → int_eq q p ≡ false
differs p q e = false_from_ne_true (int_eq q p) (λ t. true≢false (sym ((Decides-int_eq p q).1 (sym ((Decides-int_eq q p).0 t))) ∙ e))

pub turned : (p q : ℤ) → int_eq p q ≡ int_eq q p
turned p q = ⊎_elim (λ t. t ∙ sym ((Decides-int_eq q p).1 (sym ((Decides-int_eq p q).0 t)))) (λ f. f ∙ sym (differs p q f)) (cases_Bool (int_eq p q))

-- whom a player who is connected on none of them finds
found_nobody : (p : ℤ) (cs : List Client) → NonePlayedBy p cs → find (is_played_by p) cs ≡ None
found_nobody p [] h = refl
found_nobody p (d ∷ ds) h = cond-false (is_played_by p d) (Some d) (find (is_played_by p) ds) h.0 ∙ found_nobody p ds h.1

none_at : (p : ℤ) (cs : List Client) (i : ℕ) (d : Client) → NonePlayedBy p cs → i < length cs → is_played_by p (get_or cs i d) ≡ false
none_at p [] i d h l = absurd (omega (arith, l))
none_at p (x ∷ xs) zero d h l = h.0
none_at p (x ∷ xs) (suc i) d h l = none_at p xs i d h.1 (omega (arith, l))

-- one comes
find-insert : (test : Client → Bool) (cs : List Client) (i : ℕ) (c : Client) → test c ≡ false → find test (insert cs i c) ≡ find test cs
find-insert test [] zero c e = cond-false (test c) (Some c) None e
find-insert test [] (suc i) c e = cond-false (test c) (Some c) None e
find-insert test (d ∷ ds) zero c e = cond-false (test c) (Some c) (find test (d ∷ ds)) e
find-insert test (d ∷ ds) (suc i) c e = ap (λ o. cond (test d) (Some d) o) (find-insert test ds i c e)

pub leads-insert : (players : BTreeMap ℤ ℕ) (cs : List Client) (i : ℕ) (c : Client) → player_on c ≡ None → LeadsToPlayers players cs → LeadsToPlayers players (insert cs i c)
leads-insert players cs i c nobody h p =
    h p ∙ ap (option_map number_of) (sym (find-insert (is_played_by p) cs i c (ap (λ (o : Option ℤ). option_map_or (int_eq p) o false) nobody)))

-- one goes
first_gone : (b : Bool) (x : Client) (o : Option Client) → (b ≡ true → o ≡ None) → o ≡ cond b None (cond b (Some x) o)
first_gone true x o h = h refl
first_gone false x o h = refl

later_gone : (b b' : Bool) (x : Client) (o : Option Client) → (b ≡ true → b' ≡ false) → cond b (Some x) (cond b' None o) ≡ cond b' None (cond b (Some x) o)
later_gone true b' x o h = sym (cond-false b' None (Some x) (h refl))
later_gone false b' x o h = refl

find-remove : (p : ℤ) (cs : List Client) (i : ℕ) (d : Client) → HaveOwnPlayers cs → i < length cs →
    find (is_played_by p) (remove cs i) ≡ cond (is_played_by p (get_or cs i d)) None (find (is_played_by p) cs)
find-remove p [] i d h l = absurd (omega (arith, l))
find-remove p (x ∷ xs) zero d h l =
    first_gone (is_played_by p x) x (find (is_played_by p) xs) (λ t. found_nobody p xs (h.0 p (played_by p x (player_on x) refl t)))
find-remove p (x ∷ xs) (suc i) d h l =
    ap (λ o. cond (is_played_by p x) (Some x) o) (find-remove p xs i d h.1 (omega (arith, l)))
    ∙ later_gone (is_played_by p x) (is_played_by p (get_or xs i d)) x (find (is_played_by p) xs)
    (λ t. none_at p xs i d (h.0 p (played_by p x (player_on x) refl t)) (omega (arith, l)))

numbers_gone : (b : Bool) (o : Option Client) → cond b None (option_map number_of o) ≡ option_map number_of (cond b None o)
numbers_gone true o = refl
numbers_gone false o = refl

number-remove : (p : ℤ) (cs : List Client) (i : ℕ) (d : Client) → HaveOwnPlayers cs → i < length cs → d ≡ get_or cs i d →
    cond (is_played_by p d) None (number_playing p cs) ≡ number_playing p (remove cs i)
number-remove p cs i d h l e =
    numbers_gone (is_played_by p d) (find (is_played_by p) cs)
    ∙ ap (λ (x : Client). option_map number_of (cond (is_played_by p x) None (find (is_played_by p) cs))) e
    ∙ ap (option_map number_of) (sym (find-remove p cs i d h l))

-- the player of a connection is connected on it no more
abbrev pub IsWithout : Client → BTreeMap ℤ ℕ → BTreeMap ℤ ℕ → Type 0
IsWithout d players players' = (p : ℤ) → get int_cmp players' p ≡ cond (is_played_by p d) None (get int_cmp players p)

pub without_player : (d : Client) (q : ℤ) (players players' : BTreeMap ℤ ℕ) → player_on d ≡ Some q → ((p : ℤ) → get int_cmp players' p ≡ cond (int_eq q p) None (get int_cmp players p)) →
    IsWithout d players players'
without_player d q players players' e h p =
    h p ∙ ap (λ b. cond b None (get int_cmp players p)) (turned q p ∙ sym (ap (λ (o : Option ℤ). option_map_or (int_eq p) o false) e))

pub without_nobody : (d : Client) (players : BTreeMap ℤ ℕ) → player_on d ≡ None → IsWithout d players players
without_nobody d players e p = sym (cond-false (is_played_by p d) None (get int_cmp players p) (ap (λ (o : Option ℤ). option_map_or (int_eq p) o false) e))

pub leads-remove : (players players' : BTreeMap ℤ ℕ) (cs : List Client) (i : ℕ) (d : Client) → HaveOwnPlayers cs → i < length cs → d ≡ get_or cs i d → IsWithout d players players' →
    LeadsToPlayers players cs → LeadsToPlayers players' (remove cs i)
leads-remove players players' cs i d own l e w h p =
    w p ∙ ap (λ (o : Option ℕ). cond (is_played_by p d) None o) (h p) ∙ number-remove p cs i d own l e

-- one is changed, but not its number nor its player
first_number : (b : Bool) (k x : Client) (o : Option Client) → number_of k ≡ number_of x → option_map number_of (cond b (Some k) o) ≡ option_map number_of (cond b (Some x) o)
first_number true k x o e = ap (λ (n : ℕ). Some n) e
first_number false k x o e = refl

next_number : (b : Bool) (x : Client) (o o' : Option Client) → option_map number_of o ≡ option_map number_of o' → option_map number_of (cond b (Some x) o) ≡ option_map number_of (cond b (Some x) o')
next_number true x o o' e = refl
next_number false x o o' e = e

number-set : (p : ℤ) (cs : List Client) (i : ℕ) (k d : Client) → player_on k ≡ player_on (get_or cs i d) → number_of k ≡ number_of (get_or cs i d) →
    number_playing p (slice_set cs i k) ≡ number_playing p cs
number-set p [] i k d e f = refl
number-set p (x ∷ xs) zero k d e f =
    ap (λ (o : Option ℤ). option_map number_of (cond (option_map_or (int_eq p) o false) (Some k) (find (is_played_by p) xs))) e
    ∙ first_number (is_played_by p x) k x (find (is_played_by p) xs) f
number-set p (x ∷ xs) (suc i) k d e f =
    next_number (is_played_by p x) x (find (is_played_by p) (slice_set xs i k)) (find (is_played_by p) xs) (number-set p xs i k d e f)

pub leads-set : (players : BTreeMap ℤ ℕ) (cs : List Client) (i : ℕ) (k d : Client) → player_on k ≡ player_on (get_or cs i d) → number_of k ≡ number_of (get_or cs i d) →
    LeadsToPlayers players cs → LeadsToPlayers players (slice_set cs i k)
leads-set players cs i k d e f h p = h p ∙ sym (number-set p cs i k d e f)

-- a player who was connected on none of them is connected on one
find-set_other : (test : Client → Bool) (cs : List Client) (i : ℕ) (k : Client) → test k ≡ false → i < length cs → find test (slice_set cs i k) ≡ find test (remove cs i)
find-set_other test [] i k e l = absurd (omega (arith, l))
find-set_other test (x ∷ xs) zero k e l = cond-false (test k) (Some k) (find test xs) e
find-set_other test (x ∷ xs) (suc i) k e l = ap (λ o. cond (test x) (Some x) o) (find-set_other test xs i k e (omega (arith, l)))

find-set_new : (p : ℤ) (cs : List Client) (i : ℕ) (k : Client) → NonePlayedBy p cs → is_played_by p k ≡ true → i < length cs → find (is_played_by p) (slice_set cs i k) ≡ Some k
find-set_new p [] i k n t l = absurd (omega (arith, l))
find-set_new p (x ∷ xs) zero k n t l = cond-true (is_played_by p k) (Some k) (find (is_played_by p) xs) t
find-set_new p (x ∷ xs) (suc i) k n t l =
    cond-false (is_played_by p x) (Some x) (find (is_played_by p) (slice_set xs i k)) n.0 ∙ find-set_new p xs i k n.1 t (omega (arith, l))

-- the player is connected on the connection of this number
abbrev pub IsWith : ℤ → ℕ → BTreeMap ℤ ℕ → BTreeMap ℤ ℕ → Type 0
IsWith q n players players' = (p : ℤ) → get int_cmp players' p ≡ cond (int_eq q p) (Some n) (get int_cmp players p)

module _ (q : ℤ) (cs : List Client) (i : ℕ) (d k : Client) (player : player_on k ≡ Some q) (none : NonePlayedBy q cs) (own : HaveOwnPlayers cs) (l : i < length cs) (e : d ≡ get_or cs i d) where
  newly : (p : ℤ) → int_eq q p ≡ true → cond (is_played_by p d) None (cond (int_eq q p) (Some (number_of k)) (number_playing p cs)) ≡ number_playing p (slice_set cs i k)
  newly p t =
      let is : q ≡ p = (Decides-int_eq q p).0 t in
      let before : NonePlayedBy p cs = subst (λ (x : ℤ). NonePlayedBy x cs) is none in
      let not_it : is_played_by p d ≡ false = ap (is_played_by p) e ∙ none_at p cs i d before l in
      let here : is_played_by p k ≡ true = ap (λ (o : Option ℤ). option_map_or (int_eq p) o false) player ∙ (Decides-int_eq p q).1 (sym is) in
      cond-false (is_played_by p d) None (cond (int_eq q p) (Some (number_of k)) (number_playing p cs)) not_it
      ∙ cond-true (int_eq q p) (Some (number_of k)) (number_playing p cs) t
      ∙ ap (option_map number_of) (sym (find-set_new p cs i k before here l))

  as_before : (p : ℤ) → int_eq q p ≡ false → cond (is_played_by p d) None (cond (int_eq q p) (Some (number_of k)) (number_playing p cs)) ≡ number_playing p (slice_set cs i k)
  as_before p f =
      let other : is_played_by p k ≡ false = ap (λ (o : Option ℤ). option_map_or (int_eq p) o false) player ∙ differs q p f in
      ap (λ (o : Option ℕ). cond (is_played_by p d) None o) (cond-false (int_eq q p) (Some (number_of k)) (number_playing p cs) f)
      ∙ number-remove p cs i d own l e
      ∙ ap (option_map number_of) (sym (find-set_other (is_played_by p) cs i k other l))

  pub leads-play : (players with' players' : BTreeMap ℤ ℕ) → IsWith q (number_of k) players with' → IsWithout d with' players' →
      LeadsToPlayers players cs → LeadsToPlayers players' (slice_set cs i k)
  leads-play players with' players' added taken h p =
      taken p
      ∙ ap (λ (o : Option ℕ). cond (is_played_by p d) None o) (added p ∙ ap (λ (o : Option ℕ). cond (int_eq q p) (Some (number_of k)) o) (h p))
      ∙ ⊎_elim (λ t. newly p t) (λ f. as_before p f) (cases_Bool (int_eq q p))
