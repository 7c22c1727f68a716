-- Rows of connections in which one is changed, one comes, or one goes: they stay in order, and keep their players.
use Rattle.std.proofs.Common.{◌≡◌, ℕ, ℤ, suc, zero, ◌+◌, ◌<◌, ◌≤◌, Bool, not, true, false, cond, List, [], ◌∷◌, ◌++◌, length, get_or, map, Some, None, refl, sym, ◌∙◌, ap, subst, arith}
use Rattle.std.specs.Prelude.{slice_set, position, find, ◌==◌, Result, Ok, Err, OnOk}
use Rattle.std.specs.declared.alloc.AllocError.{AllocError}
use Rattle.std.specs.List.{position_or_len, remove, insert}
use Rattle.std.specs.BTreeMap.{BTreeMap}
use Rattle.std.specs.Map.{lookup}
use Rattle.std.specs.Option.{option_map, option_map_or, unwrap_or}
use Rattle.std.specs.Ordering.{int_eq}
use Rattle.std.proofs.lemmas.List.Quantifiers.{position-Some}
use Rattle.moo_session_connection.specs.declared.client.Client.{Client}
use Rattle.std.proofs.lemmas.List.{map-set, set-get_or, get_or-set_same}
use Rattle.moo_eval_frame.specs.declared.surroundings.Connection.{Connection}
use Rattle.moo_session_connection.specs.Clients.{number_of, player_on, has_number, is_above, is_played_by, with_client, row_of, newcomer}
use Rattle.moo_session_connection.specs.Connections.{Connections, AreAbove, AreInOrder, NonePlayedBy, HaveOwnPlayers}
use Rattle.moo_session_connection.specs.Players.{LeadsToPlayers}
use Rattle.moo_session_connection.proofs.Places.{past}
use Rattle.moo_session_connection.proofs.Players.{played_by, differs, IsWith, IsWithout, leads-insert, leads-remove, leads-set, leads-play}

-- one goes
above-remove : (n : ℕ) (cs : List Client) (i : ℕ) → AreAbove n cs → AreAbove n (remove cs i)
above-remove n [] zero h = tt
above-remove n [] (suc i) h = tt
above-remove n (d ∷ ds) zero h = h.1
above-remove n (d ∷ ds) (suc i) h = (h.0, above-remove n ds i h.1)

pub order-remove : (cs : List Client) (i : ℕ) → AreInOrder cs → AreInOrder (remove cs i)
order-remove [] zero h = tt
order-remove [] (suc i) h = tt
order-remove (d ∷ ds) zero h = h.1
order-remove (d ∷ ds) (suc i) h = (above-remove (number_of d) ds i h.0, order-remove ds i h.1)

none-remove : (p : ℤ) (cs : List Client) (i : ℕ) → NonePlayedBy p cs → NonePlayedBy p (remove cs i)
none-remove p [] zero h = tt
none-remove p [] (suc i) h = tt
none-remove p (d ∷ ds) zero h = h.1
none-remove p (d ∷ ds) (suc i) h = (h.0, none-remove p ds i h.1)

pub own-remove : (cs : List Client) (i : ℕ) → HaveOwnPlayers cs → HaveOwnPlayers (remove cs i)
own-remove [] zero h = tt
own-remove [] (suc i) h = tt
own-remove (d ∷ ds) zero h = h.1
own-remove (d ∷ ds) (suc i) h = (λ p e. none-remove p ds i (h.0 p e), own-remove ds i h.1)

pub map-remove : {X Y : Type 0} → (f : X → Y) (xs : List X) (i : ℕ) → remove (map f xs) i ≡ map f (remove xs i)
map-remove f [] zero = refl
map-remove f [] (suc i) = refl
map-remove f (x ∷ xs) zero = refl
map-remove f (x ∷ xs) (suc i) = ap (λ ys. f x ∷ ys) (map-remove f xs i)

-- one is changed, but not its number
above-set : (n : ℕ) (cs : List Client) (i : ℕ) (c d : Client) → number_of c ≡ number_of (get_or cs i d) → AreAbove n cs → AreAbove n (slice_set cs i c)
above-set n [] i c d e h = tt
above-set n (x ∷ xs) zero c d e h = (subst (λ k. n < k) (sym e) h.0, h.1)
above-set n (x ∷ xs) (suc i) c d e h = (h.0, above-set n xs i c d e h.1)

pub order-set : (cs : List Client) (i : ℕ) (c d : Client) → number_of c ≡ number_of (get_or cs i d) → AreInOrder cs → AreInOrder (slice_set cs i c)
order-set [] i c d e h = tt
order-set (x ∷ xs) zero c d e h = (subst (λ k. AreAbove k xs) (sym e) h.0, h.1)
order-set (x ∷ xs) (suc i) c d e h = (above-set (number_of x) xs i c d e h.0, order-set xs i c d e h.1)

none-set : (p : ℤ) (cs : List Client) (i : ℕ) (c : Client) → is_played_by p c ≡ false → NonePlayedBy p cs → NonePlayedBy p (slice_set cs i c)
none-set p [] i c e h = tt
none-set p (x ∷ xs) zero c e h = (e, h.1)
none-set p (x ∷ xs) (suc i) c e h = (h.0, none-set p xs i c e h.1)

none-set_same : (p : ℤ) (cs : List Client) (i : ℕ) (c d : Client) → player_on c ≡ player_on (get_or cs i d) → NonePlayedBy p cs → NonePlayedBy p (slice_set cs i c)
none-set_same p [] i c d e h = tt
none-set_same p (x ∷ xs) zero c d e h = (ap (λ o. option_map_or (int_eq p) o false) e ∙ h.0, h.1)
none-set_same p (x ∷ xs) (suc i) c d e h = (h.0, none-set_same p xs i c d e h.1)

-- nor its player
pub own-set : (cs : List Client) (i : ℕ) (c d : Client) → player_on c ≡ player_on (get_or cs i d) → HaveOwnPlayers cs → HaveOwnPlayers (slice_set cs i c)
own-set [] i c d e h = tt
own-set (x ∷ xs) zero c d e h = (λ p f. h.0 p (sym e ∙ f), h.1)
own-set (x ∷ xs) (suc i) c d e h = (λ p f. none-set_same p xs i c d e (h.0 p f), own-set xs i c d e h.1)

-- its player is new among them
pub own-play : (cs : List Client) (i : ℕ) (c : Client) (p : ℤ) → player_on c ≡ Some p → NonePlayedBy p cs → HaveOwnPlayers cs → HaveOwnPlayers (slice_set cs i c)
own-play [] i c p e n h = tt
own-play (x ∷ xs) zero c p e n h =
    (λ q f. subst (λ (r : ℤ). NonePlayedBy r xs) (ap (λ o. unwrap_or o q) (sym e ∙ f)) n.1, h.1)
own-play (x ∷ xs) (suc i) c p e n h = (
  λ q f. none-set q xs i c (ap (λ o. option_map_or (int_eq q) o false) e ∙ differs p q (sym (ap (λ o. option_map_or (int_eq p) o false) f) ∙ n.0)) (h.0 q f),
  own-play xs i c p e n.1 h.1,
)

-- one comes
none-insert : (p : ℤ) (cs : List Client) (i : ℕ) (c : Client) → is_played_by p c ≡ false → NonePlayedBy p cs → NonePlayedBy p (insert cs i c)
none-insert p [] zero c e h = (e, tt)
none-insert p [] (suc i) c e h = (e, tt)
none-insert p (x ∷ xs) zero c e h = (e, h)
none-insert p (x ∷ xs) (suc i) c e h = (h.0, none-insert p xs i c e h.1)

pub own-insert : (cs : List Client) (i : ℕ) (c : Client) → player_on c ≡ None → HaveOwnPlayers cs → HaveOwnPlayers (insert cs i c)
own-insert [] zero c e h = (λ p f. tt, tt)
own-insert [] (suc i) c e h = (λ p f. tt, tt)
own-insert (x ∷ xs) zero c e h = (λ p f. cc, h)
own-insert (x ∷ xs) (suc i) c e h = (λ p f. none-insert p xs i c (ap (λ o. option_map_or (int_eq p) o false) e) (h.0 p f), own-insert xs i c e h.1)

above-insert : (n : ℕ) (cs : List Client) (i : ℕ) (c : Client) → n < number_of c → AreAbove n cs → AreAbove n (insert cs i c)
above-insert n [] zero c e h = (e, tt)
above-insert n [] (suc i) c e h = (e, tt)
above-insert n (x ∷ xs) zero c e h = (e, h)
above-insert n (x ∷ xs) (suc i) c e h = (h.0, above-insert n xs i c e h.1)

above-lower : (m n : ℕ) (cs : List Client) → m < n → AreAbove n cs → AreAbove m cs
above-lower m n [] l h = tt
above-lower m n (x ∷ xs) l h = (omega (arith, l, h.0), above-lower m n xs l h.1)

abbrev comes_before : Client → Client → Bool
comes_before c d = is_above (number_of c) d

one_more : (n : ℕ) → suc n ≡ 1 + n
one_more n = omega arith

order_step : (b e : Bool) (c d : Client) (ds : List Client) → comes_before c d ≡ b → (number_of d == number_of c) ≡ e → cond e (Some d) (find (has_number (number_of c)) ds) ≡ None →
    AreInOrder (d ∷ ds) → (find (has_number (number_of c)) ds ≡ None → AreInOrder (with_client c ds)) → AreInOrder (insert (d ∷ ds) (cond (not b) (1 + position_or_len (comes_before c) ds) 0) c)
order_step b true c d ds f g free h ih = cc
order_step true false c d ds f g free h ih =
    let l : number_of c < number_of d = grind (arith, f) in
    ((l, above-lower (number_of c) (number_of d) ds l h.0), h)
order_step false false c d ds f g free h ih =
    let l : number_of d < number_of c = grind (arith, f, g) in
    subst (λ (k : ℕ). AreInOrder (insert (d ∷ ds) k c)) (one_more (position_or_len (comes_before c) ds))
    (above-insert (number_of d) ds (position_or_len (comes_before c) ds) c l h.0, ih free)

pub order-insert : (c : Client) (cs : List Client) → find (has_number (number_of c)) cs ≡ None → AreInOrder cs → AreInOrder (with_client c cs)
order-insert c [] free h = (tt, tt)
order-insert c (d ∷ ds) free h = order_step (comes_before c d) (number_of d == number_of c) c d ds refl refl free h (λ f. order-insert c ds f h.1)

pub map-insert : {X Y : Type 0} → (f : X → Y) (xs : List X) (i : ℕ) (x : X) → insert (map f xs) i (f x) ≡ map f (insert xs i x)
map-insert f [] zero x = refl
map-insert f [] (suc i) x = refl
map-insert f (y ∷ ys) zero x = refl
map-insert f (y ∷ ys) (suc i) x = ap (λ zs. f y ∷ zs) (map-insert f ys i x)

-- A player is connected on none of the connections that are left when the player's has gone.
pub none_left : (p : ℤ) (cs : List Client) (i : ℕ) (c : Client) → i < length cs → is_played_by p (get_or cs i c) ≡ true → ((k : ℕ) → k < i → is_played_by p (get_or cs k c) ≡ false) →
    HaveOwnPlayers cs → NonePlayedBy p (remove cs i)
none_left p [] i c l t n h = absurd (omega (arith, l))
none_left p (d ∷ ds) zero c l t n h = h.0 p (played_by p d (player_on d) refl t)
none_left p (d ∷ ds) (suc i) c l t n h = (n 0 (omega arith), none_left p ds i c (omega (arith, l)) t (λ k m. n (suc k) (omega (arith, m))) h.1)

pub none_left_at : (p : ℤ) (cs : List Client) (i : ℕ) (c : Client) → position (is_played_by p) cs ≡ Some i → HaveOwnPlayers cs → NonePlayedBy p (remove cs i)
none_left_at p cs i c e h = let at = position-Some (is_played_by p) cs i c e in none_left p cs i c at.0 at.1 at.2 h

none_step : (b : Bool) (p : ℤ) (d : Client) (ds : List Client) → is_played_by p d ≡ b → (length ds ≤ position_or_len (is_played_by p) ds → NonePlayedBy p ds) →
    length (d ∷ ds) ≤ cond (not b) (1 + position_or_len (is_played_by p) ds) 0 → NonePlayedBy p (d ∷ ds)
none_step true p d ds e ih h = absurd (omega (arith, h))
none_step false p d ds e ih h = (e, ih (omega (arith, h)))

none_anywhere : (p : ℤ) (cs : List Client) → length cs ≤ position_or_len (is_played_by p) cs → NonePlayedBy p cs
none_anywhere p [] h = tt
none_anywhere p (d ∷ ds) h = none_step (is_played_by p d) p d ds refl (none_anywhere p ds) h

pub none_found : (p : ℤ) (cs : List Client) → position (is_played_by p) cs ≡ None → NonePlayedBy p cs
none_found p cs e = none_anywhere p cs (past (is_played_by p) cs e)

-- what came goes again
pub remove-insert : {X : Type 0} → (xs : List X) (i : ℕ) (x : X) → i ≤ length xs → remove (insert xs i x) i ≡ xs
remove-insert [] zero x h = refl
remove-insert [] (suc i) x h = absurd (omega (arith, h))
remove-insert (y ∷ ys) zero x h = refl
remove-insert (y ∷ ys) (suc i) x h = ap (λ zs. y ∷ zs) (remove-insert ys i x (omega (arith, h)))

-- connections, the part of them that tasks see, and the numbers of their players
abbrev pub AreWhole : List Connection → BTreeMap ℤ ℕ → List Client → Type 0
AreWhole row players cs = AreInOrder cs × HaveOwnPlayers cs × (row ≡ row_of cs) × LeadsToPlayers players cs

abbrev seen : Client → Connection
seen c = c.connection

pub whole-remove : (row : List Connection) (players players' : BTreeMap ℤ ℕ) (cs : List Client) (i : ℕ) (d : Client) → i < length cs → d ≡ get_or cs i d → IsWithout d players players' →
    AreWhole row players cs → AreWhole (remove row i) players' (remove cs i)
whole-remove row players players' cs i d l e w h = (
  order-remove cs i h.0,
  own-remove cs i h.1,
  ap (λ (r : List Connection). remove r i) h.2 ∙ map-remove seen cs i,
  leads-remove players players' cs i d h.1 l e w h.3,
)

pub whole-insert : (row : List Connection) (players : BTreeMap ℤ ℕ) (cs : List Client) (i : ℕ) (c : Client) → AreInOrder (insert cs i c) → player_on c ≡ None → AreWhole row players cs →
    AreWhole (insert row i c.connection) players (insert cs i c)
whole-insert row players cs i c o nobody h = (
  o,
  own-insert cs i c nobody h.1,
  ap (λ (r : List Connection). insert r i c.connection) h.2 ∙ map-insert seen cs i c,
  leads-insert players cs i c nobody h.3,
)

row-set_same : (cs : List Client) (i : ℕ) (d k : Client) → d ≡ get_or cs i d → k.connection ≡ d.connection → row_of (slice_set cs i k) ≡ row_of cs
row-set_same cs i d k e f =
    map-set seen cs i k
    ∙ ap (λ (x : Connection). slice_set (map seen cs) i x) (f ∙ ap seen e)
    ∙ sym (map-set seen cs i (get_or cs i d))
    ∙ ap (λ (xs : List Client). map seen xs) (set-get_or cs i d)

-- one is changed, but not what tasks see of it
pub whole-keep : (row : List Connection) (players : BTreeMap ℤ ℕ) (cs : List Client) (i : ℕ) (d k : Client) → d ≡ get_or cs i d → k.connection ≡ d.connection → AreWhole row players cs →
    AreWhole row players (slice_set cs i k)
whole-keep row players cs i d k e f h =
    let number : number_of k ≡ number_of (get_or cs i d) = ap (λ (x : Connection). x.number) f ∙ ap number_of e in
    let player : player_on k ≡ player_on (get_or cs i d) = ap (λ (x : Connection). option_map (λ login. login.player) x.login) f ∙ ap player_on e in
    (order-set cs i k d number h.0, own-set cs i k d player h.1, h.2 ∙ sym (row-set_same cs i d k e f), leads-set players cs i k d player number h.3)

-- one is changed, and so is what tasks see of it
row-set : (row : List Connection) (cs : List Client) (i : ℕ) (k : Client) → row ≡ row_of cs → slice_set row i k.connection ≡ row_of (slice_set cs i k)
row-set row cs i k e = ap (λ (r : List Connection). slice_set r i k.connection) e ∙ sym (map-set seen cs i k)

pub whole-receive : (row : List Connection) (players : BTreeMap ℤ ℕ) (cs : List Client) (i : ℕ) (d k : Client) → d ≡ get_or cs i d → number_of k ≡ number_of d → player_on k ≡ player_on d →
    AreWhole row players cs → AreWhole (slice_set row i k.connection) players (slice_set cs i k)
whole-receive row players cs i d k e f g h = (
  order-set cs i k d (f ∙ ap number_of e) h.0,
  own-set cs i k d (g ∙ ap player_on e) h.1,
  row-set row cs i k h.2,
  leads-set players cs i k d (g ∙ ap player_on e) (f ∙ ap number_of e) h.3,
)

pub whole-play : (row : List Connection) (players with' players' : BTreeMap ℤ ℕ) (cs : List Client) (i : ℕ) (d k : Client) (p : ℤ) → i < length cs → d ≡ get_or cs i d → number_of k ≡ number_of d →
    player_on k ≡ Some p → NonePlayedBy p cs → IsWith p (number_of k) players with' → IsWithout d with' players' → AreWhole row players cs →
    AreWhole (slice_set row i k.connection) players' (slice_set cs i k)
whole-play row players with' players' cs i d k p l e f g n added taken h = (
  order-set cs i k d (f ∙ ap number_of e) h.0,
  own-play cs i k p g n h.1,
  row-set row cs i k h.2,
  leads-play p cs i d k g n h.1 l e players with' players' added taken h.3,
)

pub same_whole : (row row' : List Connection) (players : BTreeMap ℤ ℕ) (cs cs' : List Client) → row' ≡ row → cs' ≡ cs → AreWhole row players cs → AreWhole row' players cs'
same_whole row row' players cs cs' e f h =
    subst (λ (r : List Connection). AreWhole r players cs') (sym e) (subst (λ (xs : List Client). AreWhole row players xs) (sym f) h)

-- a map with the same entries leads to the same connections
pub whole-unchanged : (row : List Connection) (players players' : BTreeMap ℤ ℕ) (cs : List Client) → players'.entries ≡ players.entries → AreWhole row players cs → AreWhole row players' cs
whole-unchanged row players players' cs e h = (h.0, h.1, h.2, λ p. ap (λ es. lookup (int_eq p) es) e ∙ h.3 p)

pub gone_answer : (r : Result (Unit {0}) AllocError) (p : ℤ) (s s' : Connections) (i : ℕ) → position (is_played_by p) s.clients ≡ Some i → HaveOwnPlayers s.clients →
    OnOk r ((d : Client) → s' ≡ record { clients = remove s.clients i; leaving = s.leaving ++ number_of (get_or s.clients i d) ∷ [] }) → OnOk r (NonePlayedBy p s'.clients)
gone_answer (Ok done) p s s' i e own h =
    let first : Client = newcomer 0 0 in
    subst (λ (x : Connections). NonePlayedBy p x.clients) (sym (h first)) (none_left_at p s.clients i first e own)
gone_answer (Err fault) p s s' i e own h = tt

pub read_back : (cs : List Client) (i : ℕ) (k x : Client) → i < length cs → x ≡ get_or (slice_set cs i k) i x → x ≡ k
read_back cs i k x l e = e ∙ get_or-set_same cs i k x l

pub joined_order : (cs : List Client) (n moment i : ℕ) (c : Client) → i ≡ position_or_len (is_above n) cs → c ≡ newcomer n moment → find (has_number n) cs ≡ None → AreInOrder cs → AreInOrder (insert cs i c)
joined_order cs n moment i c e f free h =
    subst (λ (k : ℕ). AreInOrder (insert cs k c)) (sym e)
    (subst (λ (d : Client). AreInOrder (insert cs (position_or_len (is_above n) cs) d)) (sym f) (order-insert (newcomer n moment) cs free h))
