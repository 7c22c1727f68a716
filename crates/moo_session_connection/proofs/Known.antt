-- The connection that goes by a number is its player's, or the one that has it as its own.
use Rattle.std.proofs.Common.{◌≡◌, ℕ, zero, suc, ℤ, ◌+◌, ◌<◌, ◌≤◌, Bool, true, false, not, ◌||◌, cond, List, [], ◌∷◌, length, get_or, Option, Some, None, refl, sym, ◌∙◌, ap, ⊎_elim, arith}
use Rattle.std.specs.Prelude.{position, nat_lt, min}
use Rattle.std.specs.List.{position_or_len}
use Rattle.std.specs.Option.{option_map, option_map_or}
use Rattle.std.specs.Ordering.{int_eq}
use Rattle.std.proofs.Math.Nat.{zero-min, min-zero}
use Rattle.std.proofs.lemmas.Bool.{cond-true, cond-false, lt-ltb, le-ltb, ltb-true, ltb-false, eqb-true, eq-eqb, cases_eq, true≢false, false_from_ne_true}
use Rattle.std.proofs.lemmas.Bool.Decides.{Decides-int_eq}
use Rattle.std.proofs.lemmas.List.Quantifiers.{position-Some}
use Rattle.moo_eval_frame.specs.declared.surroundings.Login.{Login}
use Rattle.moo_session_connection.specs.declared.client.Client.{Client}
use Rattle.moo_session_connection.specs.Clients.{number_of, own_number, has_number, is_played_by, is_known_as, newcomer}
use Rattle.moo_session_connection.specs.Connections.{AreInOrder}
use Rattle.moo_session_connection.specs.Players.{number_playing, is_unplayed_as, earlier}
use Rattle.moo_session_connection.proofs.Places.{past, found_at, found_nowhere}
use Rattle.moo_session_connection.proofs.Search.{is_at, is_nowhere, apart, number_place}

-- the connection of a player is the one of the number that the map leads to
player_place_at : (o : Option ℕ) (p : ℤ) (n : ℕ) (cs : List Client) → position (is_played_by p) cs ≡ o → AreInOrder cs → number_playing p cs ≡ Some n → position (has_number n) cs ≡ o
player_place_at None p n cs e h leads = (let nobody : number_playing p cs ≡ None = ap (option_map number_of) (found_nowhere (is_played_by p) cs e) in cc)
player_place_at (Some i) p n cs e h leads =
    let first : Client = newcomer 0 0 in
    let found : number_playing p cs ≡ Some (number_of (get_or cs i first)) = ap (option_map number_of) (found_at (is_played_by p) cs i first e) in
    number_place cs n i first h (position-Some (is_played_by p) cs i first e).0 (cc)

pub player_place : (p : ℤ) (n : ℕ) (cs : List Client) → AreInOrder cs → number_playing p cs ≡ Some n → position (has_number n) cs ≡ position (is_played_by p) cs
player_place p n cs h leads = player_place_at (position (is_played_by p) cs) p n cs refl h leads

no_player_at : (o : Option ℕ) (p : ℤ) (cs : List Client) → position (is_played_by p) cs ≡ o → number_playing p cs ≡ None → o ≡ None
no_player_at None p cs e none = refl
no_player_at (Some i) p cs e none =
    (let found : number_playing p cs ≡ Some (number_of (get_or cs i (newcomer 0 0))) = ap (option_map number_of) (found_at (is_played_by p) cs i (newcomer 0 0) e) in cc)

pub no_player : (p : ℤ) (cs : List Client) → number_playing p cs ≡ None → position (is_played_by p) cs ≡ None
no_player p cs none = no_player_at (position (is_played_by p) cs) p cs refl none

-- connections on which nobody is connected
by_login : (o : Option Login) (who : ℤ) (m : ℕ) → option_map_or (λ _. false) o (int_eq who (own_number m)) ≡ true → who ≡ own_number m
by_login None who m t = (Decides-int_eq who (own_number m)).0 t
by_login (Some login) who m t = absurd (true≢false (sym t))

one_number : (who : ℤ) (m n : ℕ) → who ≡ own_number m → who ≡ own_number n → m ≡ n
one_number who m n e f = (let same : m + 1 ≡ n + 1 = cc in omega (arith, same))

other_number : (who : ℤ) (n : ℕ) (c : Client) → who ≡ own_number n → (number_of c ≡ n → ⊥) → is_unplayed_as who c ≡ false
other_number who n c e other =
    false_from_ne_true (is_unplayed_as who c) (λ t. other (one_number who (number_of c) n (by_login c.connection.login who (number_of c) t) e))

pub no_unplayed : (who : ℤ) (cs : List Client) → ((n : ℕ) → who ≡ own_number n → ⊥) → position (is_unplayed_as who) cs ≡ None
no_unplayed who cs none =
    let first : Client = newcomer 0 0 in
    is_nowhere (is_unplayed_as who) cs first (λ k l.
    false_from_ne_true (is_unplayed_as who (get_or cs k first)) (λ t. none (number_of (get_or cs k first)) (by_login (get_or cs k first).connection.login who (number_of (get_or cs k first)) t)))

passes_step : (b : Bool) (test : Client → Bool) (c : Client) (cs : List Client) (k : ℕ) (d : Client) → test c ≡ b →
    (length cs ≤ position_or_len test cs → (j : ℕ) → j < length cs → test (get_or cs j d) ≡ false) →
    length (c ∷ cs) ≤ cond (not b) (1 + position_or_len test cs) 0 → k < length (c ∷ cs) → test (get_or (c ∷ cs) k d) ≡ false
passes_step true test c cs k d e ih h l = absurd (omega (arith, h))
passes_step false test c cs zero d e ih h l = e
passes_step false test c cs (suc j) d e ih h l = ih (omega (arith, h)) j (omega (arith, l))

none_passes : (test : Client → Bool) (cs : List Client) (d : Client) → length cs ≤ position_or_len test cs → (k : ℕ) → k < length cs → test (get_or cs k d) ≡ false
none_passes test [] d h k l = absurd (omega (arith, l))
none_passes test (c ∷ cs) d h k l = passes_step (test c) test c cs k d refl (none_passes test cs d) h l

pub none_unplayed : (who : ℤ) (n : ℕ) (cs : List Client) → who ≡ own_number n → position (has_number n) cs ≡ None → position (is_unplayed_as who) cs ≡ None
none_unplayed who n cs e none =
    let first : Client = newcomer 0 0 in
    is_nowhere (is_unplayed_as who) cs first (λ k l.
    other_number who n (get_or cs k first) e (λ same.
    true≢false (sym (eq-eqb (number_of (get_or cs k first)) n same) ∙ none_passes (has_number n) cs first (past (has_number n) cs none) k l)))

pub unplayed_place : (o : Option Login) (who : ℤ) (n i : ℕ) (cs : List Client) (d : Client) → AreInOrder cs → who ≡ own_number n → position (has_number n) cs ≡ Some i → (get_or cs i d).connection.login ≡ o →
    option_map_or (λ _. None) o (Some i) ≡ position (is_unplayed_as who) cs
unplayed_place (Some login) who n i cs d h e at on =
    let place = position-Some (has_number n) cs i d at in
    let is : number_of (get_or cs i d) ≡ n = eqb-true (number_of (get_or cs i d)) n place.1 in
    let own : ℤ → Bool = λ z. int_eq who z in
    sym (is_nowhere (is_unplayed_as who) cs d (λ k l. ⊎_elim
    (λ (same : k ≡ i). ap (λ (j : ℕ). is_unplayed_as who (get_or cs j d)) same ∙ ap (λ (p : Option Login). option_map_or (λ _. false) p (own (own_number (number_of (get_or cs i d))))) on)
    (λ other. other_number who n (get_or cs k d) e (λ same. other (apart cs i k d h place.0 l (same ∙ sym is))))
    (cases_eq k i)))
unplayed_place None who n i cs d h e at on =
    let place = position-Some (has_number n) cs i d at in
    let is : number_of (get_or cs i d) ≡ n = eqb-true (number_of (get_or cs i d)) n place.1 in
    let own : ℤ → Bool = λ z. int_eq who z in
    sym (is_at (is_unplayed_as who) cs i d place.0
    (ap (λ (p : Option Login). option_map_or (λ _. false) p (own (own_number (number_of (get_or cs i d))))) on
    ∙ (Decides-int_eq who (own_number (number_of (get_or cs i d)))).1 (e ∙ ap own_number (sym is)))
    (λ k l. other_number who n (get_or cs k d) e (λ same. omega (arith, l, apart cs i k d h place.0 (omega (arith, l, place.0)) (same ∙ sym is)))))

-- the earlier of two places
first_step : (f g : Bool) (m n k : ℕ) → k ≡ min m n → cond (not (f || g)) (1 + k) 0 ≡ min (cond (not f) (1 + m) 0) (cond (not g) (1 + n) 0)
first_step true g m n k e = sym (zero-min (cond (not g) (1 + n) 0))
first_step false true m n k e = sym (min-zero (1 + m))
first_step false false m n k e = omega (arith, e)

first_place : (f g h : Client → Bool) → ((c : Client) → h c ≡ (f c || g c)) → (cs : List Client) → position_or_len h cs ≡ min (position_or_len f cs) (position_or_len g cs)
first_place f g h e [] = refl
first_place f g h e (c ∷ cs) =
    ap (λ b. cond (not b) (1 + position_or_len h cs) 0) (e c) ∙ first_step (f c) (g c) (position_or_len f cs) (position_or_len g cs) (position_or_len h cs) (first_place f g h e cs)

joined : (x y : Bool) (a b n : ℕ) → nat_lt a n ≡ x → nat_lt b n ≡ y → earlier (cond x (Some a) None) (cond y (Some b) None) ≡ cond (nat_lt (min a b) n) (Some (min a b)) None
joined true true a b n e f = sym (cond-true (nat_lt (min a b) n) (Some (min a b)) None (lt-ltb (min a b) n (omega (arith, ltb-true a n e, ltb-true b n f))))
joined true false a b n e f =
    let is : min a b ≡ a = omega (arith, ltb-true a n e, ltb-false b n f) in
    sym (ap (λ (c : ℕ). cond (nat_lt c n) (Some c) None) is ∙ cond-true (nat_lt a n) (Some a) None e)
joined false true a b n e f =
    let is : min a b ≡ b = omega (arith, ltb-false a n e, ltb-true b n f) in
    sym (ap (λ (c : ℕ). cond (nat_lt c n) (Some c) None) is ∙ cond-true (nat_lt b n) (Some b) None f)
joined false false a b n e f = sym (cond-false (nat_lt (min a b) n) (Some (min a b)) None (le-ltb (min a b) n (omega (arith, ltb-false a n e, ltb-false b n f))))

first_of : (f g h : Client → Bool) → ((c : Client) → h c ≡ (f c || g c)) → (cs : List Client) → earlier (position f cs) (position g cs) ≡ position h cs
first_of f g h e cs =
    joined (nat_lt (position_or_len f cs) (length cs)) (nat_lt (position_or_len g cs) (length cs)) (position_or_len f cs) (position_or_len g cs) (length cs) refl refl
    ∙ ap (λ (c : ℕ). cond (nat_lt c (length cs)) (Some c) None) (sym (first_place f g h e cs))

or_not : (b : Bool) → b ≡ (b || false)
or_not true = refl
or_not false = refl

either : (o : Option Login) (who own : ℤ) →
    int_eq who (option_map_or (λ login. login.player) o own) ≡ (option_map_or (int_eq who) (option_map (λ login. login.player) o) false || option_map_or (λ _. false) o (int_eq who own))
either None who own = refl
either (Some login) who own = or_not (int_eq who login.player)

pub known_place : (who : ℤ) (cs : List Client) → earlier (position (is_played_by who) cs) (position (is_unplayed_as who) cs) ≡ position (is_known_as who) cs
known_place who cs = first_of (is_played_by who) (is_unplayed_as who) (is_known_as who) (λ c. either c.connection.login who (own_number (number_of c))) cs
