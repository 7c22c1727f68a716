-- A connection's reader is changed by its own bytes alone.
use Rattle.std.proofs.Common.{◌≡◌, ◌≢◌, ℕ, ◌==◌, Bool, true, false, cond, List, [], ◌∷◌, zero, suc, Option, Some, None, inl, inr, refl, sym, ◌∙◌, ap, subst}
use Rattle.std.specs.Prelude.{find}
use Rattle.std.specs.List.{insert}
use Rattle.std.proofs.lemmas.Bool.{eqb-true, eq-eqb}
use Rattle.std.proofs.lemmas.Bool.Decides.{eqb_tells}
use Rattle.moo_session_line.specs.Rest.{Rest}
use Rattle.moo_session_line.specs.Lines.{rest}
use Rattle.moo_session_connection.specs.declared.client.Client.{Client}
use Rattle.moo_session_connection.specs.Clients.{number_of, newcomer, has_number, without_first, changed}
use Rattle.moo_session_connection.specs.Connections.{Connections, client_here}
use Rattle.moo_session_connection.specs.Changes.{joined, freed, with_heard}
use Rattle.moo_session_task.specs.Session.{Session}
use Rattle.moo_server_law.proofs.Carried.{KeepsHeard, IsCarried}

-- at most one connection has this number, and it holds this rest
pub data Lone (n : ℕ) (r : Rest) : List Client → Type 0 where
  nobody : Lone n r []
  another : {c : Client} {cs : List Client} → has_number n c ≡ false → Lone n r cs → Lone n r (c ∷ cs)
  itself : {c : Client} {cs : List Client} → has_number n c ≡ true → c.reader ≡ r → find (has_number n) cs ≡ None → Lone n r (c ∷ cs)

abbrev pub Keeps : ℕ → Rest → Session → Type 0
Keeps n r s = Lone n r s.connections.clients

none_step : (b : Bool) (c : Client) (o : Option Client) → cond b (Some c) o ≡ None → (b ≡ false) × (o ≡ None)
none_step true c o e = absurd cc
none_step false c o e = (refl, e)

pub none_first : (n : ℕ) (c : Client) (cs : List Client) → find (has_number n) (c ∷ cs) ≡ None → (has_number n c ≡ false) × (find (has_number n) cs ≡ None)
none_first n c cs e = none_step (has_number n c) c (find (has_number n) cs) e

none_again : (n : ℕ) (c : Client) (cs : List Client) → has_number n c ≡ false → find (has_number n) cs ≡ None → find (has_number n) (c ∷ cs) ≡ None
none_again n c cs e f = ap (λ (b : Bool). cond b (Some c) (find (has_number n) cs)) e ∙ f

pub lone_of_none : (n : ℕ) (r : Rest) (cs : List Client) → find (has_number n) cs ≡ None → Lone n r cs
lone_of_none n r [] e = nobody
lone_of_none n r (c ∷ cs) e = let both = none_first n c cs e in another both.0 (lone_of_none n r cs both.1)

-- one goes
none_goes_at : (b : Bool) (n : ℕ) (test : Client → Bool) (c : Client) (cs : List Client) → has_number n c ≡ false → find (has_number n) cs ≡ None →
    find (has_number n) (without_first test cs) ≡ None → find (has_number n) (cond b cs (c ∷ without_first test cs)) ≡ None
none_goes_at true n test c cs e f ih = f
none_goes_at false n test c cs e f ih = none_again n c (without_first test cs) e ih

none_goes : (n : ℕ) (test : Client → Bool) (cs : List Client) → find (has_number n) cs ≡ None → find (has_number n) (without_first test cs) ≡ None
none_goes n test [] e = e
none_goes n test (c ∷ cs) e = let both = none_first n c cs e in none_goes_at (test c) n test c cs both.0 both.1 (none_goes n test cs both.1)

another_goes : (b : Bool) (n : ℕ) (r : Rest) (test : Client → Bool) (c : Client) (cs : List Client) → has_number n c ≡ false → Lone n r cs → Lone n r (without_first test cs) → Lone n r (cond b cs (c ∷ without_first test cs))
another_goes true n r test c cs e h ih = h
another_goes false n r test c cs e h ih = another e ih

itself_goes : (b : Bool) (n : ℕ) (r : Rest) (test : Client → Bool) (c : Client) (cs : List Client) → has_number n c ≡ true → c.reader ≡ r → find (has_number n) cs ≡ None → Lone n r (cond b cs (c ∷ without_first test cs))
itself_goes true n r test c cs e f g = lone_of_none n r cs g
itself_goes false n r test c cs e f g = itself e f (none_goes n test cs g)

lone_goes : (n : ℕ) (r : Rest) (test : Client → Bool) {cs : List Client} → Lone n r cs → Lone n r (without_first test cs)
lone_goes n r test nobody = nobody
lone_goes n r test (another {c = c} {cs = cs} e h) = another_goes (test c) n r test c cs e h (lone_goes n r test h)
lone_goes n r test (itself {c = c} {cs = cs} e f g) = itself_goes (test c) n r test c cs e f g

-- one is changed
none_changed_at : (b : Bool) (n : ℕ) (test : Client → Bool) (f : Client → Client) → ((c : Client) → has_number n (f c) ≡ has_number n c) → (c : Client) (cs : List Client) → has_number n c ≡ false → find (has_number n) cs ≡ None →
    find (has_number n) (changed test f cs) ≡ None → find (has_number n) (cond b (f c ∷ cs) (c ∷ changed test f cs)) ≡ None
none_changed_at true n test f k c cs e g ih = none_again n (f c) cs (k c ∙ e) g
none_changed_at false n test f k c cs e g ih = none_again n c (changed test f cs) e ih

none_changed : (n : ℕ) (test : Client → Bool) (f : Client → Client) → ((c : Client) → has_number n (f c) ≡ has_number n c) → (cs : List Client) → find (has_number n) cs ≡ None → find (has_number n) (changed test f cs) ≡ None
none_changed n test f k [] e = e
none_changed n test f k (c ∷ cs) e = let both = none_first n c cs e in none_changed_at (test c) n test f k c cs both.0 both.1 (none_changed n test f k cs both.1)

another_changed : (b : Bool) (n : ℕ) (r : Rest) (test : Client → Bool) (f : Client → Client) → KeepsHeard f → (c : Client) (cs : List Client) → has_number n c ≡ false → Lone n r cs →
    Lone n r (changed test f cs) → Lone n r (cond b (f c ∷ cs) (c ∷ changed test f cs))
another_changed true n r test f k c cs e h ih = another (k.number n c ∙ e) h
another_changed false n r test f k c cs e h ih = another e ih

itself_changed : (b : Bool) (n : ℕ) (r : Rest) (test : Client → Bool) (f : Client → Client) → KeepsHeard f → (c : Client) (cs : List Client) → has_number n c ≡ true → c.reader ≡ r → find (has_number n) cs ≡ None →
    Lone n r (cond b (f c ∷ cs) (c ∷ changed test f cs))
itself_changed true n r test f k c cs e g h = itself (k.number n c ∙ e) (k.reader c ∙ g) h
itself_changed false n r test f k c cs e g h = itself e g (none_changed n test f (k.number n) cs h)

lone_changed : (n : ℕ) (r : Rest) (test : Client → Bool) (f : Client → Client) → KeepsHeard f → {cs : List Client} → Lone n r cs → Lone n r (changed test f cs)
lone_changed n r test f k nobody = nobody
lone_changed n r test f k (another {c = c} {cs = cs} e h) = another_changed (test c) n r test f k c cs e h (lone_changed n r test f k h)
lone_changed n r test f k (itself {c = c} {cs = cs} e g h) = itself_changed (test c) n r test f k c cs e g h

-- whether the server is shutting down or not
abbrev pub IsLone : ℕ → Rest → Bool → List Client → Type 0
IsLone n r closing cs = Lone n r cs

pub lone_is_carried : (n : ℕ) (r : Rest) → IsCarried (IsLone n r)
lone_is_carried n r = record { goes = λ closing test cs h. lone_goes n r test h; changes = λ closing test f k cs h. lone_changed n r test f k h; none = nobody }

-- the connection's own bytes
heard_step : (b : Bool) (n moment : ℕ) (r after : Rest) (c : Client) (cs : List Client) → has_number n c ≡ b → b ≡ true → find (has_number n) cs ≡ None →
    Lone n after (cond b (with_heard moment after c ∷ cs) (c ∷ changed (has_number n) (with_heard moment after) cs))
heard_step true n moment r after c cs e t g = itself e refl g
heard_step false n moment r after c cs e t g = absurd cc

unheard_step : (b : Bool) (n moment : ℕ) (after : Rest) (c : Client) (cs : List Client) → has_number n c ≡ b → b ≡ false → Lone n after (changed (has_number n) (with_heard moment after) cs) →
    Lone n after (cond b (with_heard moment after c ∷ cs) (c ∷ changed (has_number n) (with_heard moment after) cs))
unheard_step true n moment after c cs e f h = absurd cc
unheard_step false n moment after c cs e f h = another e h

pub lone_heard : (n moment : ℕ) (r after : Rest) {cs : List Client} → Lone n r cs → Lone n after (changed (has_number n) (with_heard moment after) cs)
lone_heard n moment r after nobody = nobody
lone_heard n moment r after (another {c = c} {cs = cs} e h) = unheard_step (has_number n c) n moment after c cs refl e (lone_heard n moment r after h)
lone_heard n moment r after (itself {c = c} {cs = cs} e f g) = heard_step (has_number n c) n moment r after c cs refl e g

reader_at : (b : Bool) (n : ℕ) (r : Rest) (c d : Client) (cs : List Client) → (find (has_number n) cs ≡ Some d → d.reader ≡ r) → (b ≡ true → c.reader ≡ r) → cond b (Some c) (find (has_number n) cs) ≡ Some d → d.reader ≡ r
reader_at true n r c d cs ih own e = let same : c ≡ d = cc in subst (λ (x : Client). x.reader ≡ r) same (own refl)
reader_at false n r c d cs ih own e = ih e

pub lone_reader : (n : ℕ) (r : Rest) (d : Client) {cs : List Client} → Lone n r cs → find (has_number n) cs ≡ Some d → d.reader ≡ r
lone_reader n r d nobody e = absurd cc
lone_reader n r d (another {c = c} {cs = cs} f h) e = reader_at (has_number n c) n r c d cs (lone_reader n r d h) (λ t. absurd cc) e
lone_reader n r d (itself {c = c} {cs = cs} f g k) e = reader_at (has_number n c) n r c d cs (λ x. absurd cc) (λ t. g) e

-- another connection's bytes
beside_another : (b : Bool) (n m moment : ℕ) (r after : Rest) (c : Client) (cs : List Client) → has_number n c ≡ false → Lone n r cs → Lone n r (changed (has_number m) (with_heard moment after) cs) →
    Lone n r (cond b (with_heard moment after c ∷ cs) (c ∷ changed (has_number m) (with_heard moment after) cs))
beside_another true n m moment r after c cs e h ih = another e h
beside_another false n m moment r after c cs e h ih = another e ih

beside_itself : (b : Bool) (n m moment : ℕ) (r after : Rest) (c : Client) (cs : List Client) → m ≢ n → has_number m c ≡ b → has_number n c ≡ true → c.reader ≡ r → find (has_number n) cs ≡ None →
    Lone n r (cond b (with_heard moment after c ∷ cs) (c ∷ changed (has_number m) (with_heard moment after) cs))
beside_itself true n m moment r after c cs apart e f g k = absurd (apart (sym (eqb-true (number_of c) m e) ∙ eqb-true (number_of c) n f))
beside_itself false n m moment r after c cs apart e f g k = itself f g (none_changed n (has_number m) (with_heard moment after) (λ d. refl) cs k)

pub lone_beside : (n m moment : ℕ) (r after : Rest) → m ≢ n → {cs : List Client} → Lone n r cs → Lone n r (changed (has_number m) (with_heard moment after) cs)
lone_beside n m moment r after apart nobody = nobody
lone_beside n m moment r after apart (another {c = c} {cs = cs} e h) = beside_another (has_number m c) n m moment r after c cs e h (lone_beside n m moment r after apart h)
lone_beside n m moment r after apart (itself {c = c} {cs = cs} e f g) = beside_itself (has_number m c) n m moment r after c cs apart refl e f g

-- one comes
none_comes : (n : ℕ) (d : Client) (cs : List Client) (i : ℕ) → has_number n d ≡ false → find (has_number n) cs ≡ None → find (has_number n) (insert cs i d) ≡ None
none_comes n d [] zero e g = none_again n d [] e refl
none_comes n d [] (suc i) e g = none_again n d [] e refl
none_comes n d (c ∷ cs) zero e g = none_again n d (c ∷ cs) e g
none_comes n d (c ∷ cs) (suc i) e g = let both = none_first n c cs g in none_again n c (insert cs i d) both.0 (none_comes n d cs i e both.1)

lone_comes : (n : ℕ) (r : Rest) (d : Client) (i : ℕ) {cs : List Client} → has_number n d ≡ false → Lone n r cs → Lone n r (insert cs i d)
lone_comes n r d zero e h = another e h
lone_comes n r d (suc i) e nobody = another e nobody
lone_comes n r d (suc i) e (another f h) = another f (lone_comes n r d i e h)
lone_comes n r d (suc i) e (itself {cs = cs} f g k) = itself f g (none_comes n d cs i e k)

own_comes : (n : ℕ) (r : Rest) (d : Client) (cs : List Client) (i : ℕ) → has_number n d ≡ true → d.reader ≡ r → find (has_number n) cs ≡ None → Lone n r (insert cs i d)
own_comes n r d [] zero e f g = itself e f refl
own_comes n r d [] (suc i) e f g = itself e f refl
own_comes n r d (c ∷ cs) zero e f g = itself e f g
own_comes n r d (c ∷ cs) (suc i) e f g = let both = none_first n c cs g in another both.0 (own_comes n r d cs i e f both.1)

apart_tells : (m n : ℕ) → m ≢ n → (m == n) ≡ false
apart_tells m n apart = elim (eqb_tells m n) [ inl p ↦ absurd (apart p.1) | inr p ↦ p.0 ]

pub joins_beside : (n m moment : ℕ) (r : Rest) (s : Connections) → m ≢ n → Lone n r s.clients → Lone n r (joined m moment s).clients
joins_beside n m moment r s apart h = lone_comes n r (newcomer m moment) _ (apart_tells m n apart) h

pub joins_itself : (n moment : ℕ) (s : Connections) → client_here n s ≡ None → Lone n (rest []) (joined n moment s).clients
joins_itself n moment s e = own_comes n (rest []) (newcomer n moment) s.clients _ (eq-eqb n n refl) refl e

pub frees_beside : (n m : ℕ) (r : Rest) (s : Connections) → Lone n r s.clients → Lone n r (freed m s).clients
frees_beside n m r s h = lone_goes n r (has_number m) h
