-- Each open connection has a number of its own, below the limit.
use Rattle.std.proofs.Common.{◌≡◌, ℕ, ℤ, zero, suc, ◌+◌, ◌<◌, ◌≤◌, ◌==◌, Bool, true, false, cond, ◌||◌, List, [], ◌∷◌, ◌++◌, length, get_or, map, Option, Some, None, refl, sym, ◌∙◌, ap, subst, ⊎_elim, arith}
use Rattle.std.specs.Prelude.{slice_set, find, is_some, Result, Ok, Err, IfOk}
use Rattle.std.specs.List.{remove, insert, list_any, count_by, sum_by, cons_option}
use Rattle.std.proofs.lemmas.Bool.{cases_Bool, eqb-true, cond-true, cond-false}
use Rattle.std.proofs.lemmas.List.Sums.{sum_by-cons, sum_by-append, sum_by_push, sum_by-remove, sum_by-insert}
use Rattle.moo_session_connection.specs.declared.client.Client.{Client}
use Rattle.moo_session_connection.specs.Clients.{number_of, player_on, is_number, has_number, without_first, players_on}
use Rattle.moo_session_connection.specs.Connections.{Connections, AreAbove, AreInOrder, HaveNumbersBelowLimit, HaveOwnNumbers, client_here, count_numbered, is_leaving, is_open, number_limit}

abbrev pub both : List Client → List ℕ → Connections
both cs ns = record { clients = cs; leaving = ns }

-- what holds of the numbers
abbrev pub HaveNumbers : List Client → List ℕ → Type 0
HaveNumbers cs ns = HaveNumbersBelowLimit cs × HaveOwnNumbers (both cs ns)

pub same_numbers : (cs cs' : List Client) (ns ns' : List ℕ) → cs' ≡ cs → ns' ≡ ns → HaveNumbers cs ns → HaveNumbers cs' ns'
same_numbers cs cs' ns ns' e f h = subst (λ (xs : List Client). HaveNumbers xs ns') (sym e) (subst (λ (ms : List ℕ). HaveNumbers cs ms) (sym f) h)

-- numbers stay below the limit
below-remove : (cs : List Client) (i : ℕ) → HaveNumbersBelowLimit cs → HaveNumbersBelowLimit (remove cs i)
below-remove [] zero h = tt
below-remove [] (suc i) h = tt
below-remove (c ∷ cs) zero h = h.1
below-remove (c ∷ cs) (suc i) h = (h.0, below-remove cs i h.1)

below-set : (cs : List Client) (i : ℕ) (k d : Client) → number_of k ≡ number_of (get_or cs i d) → HaveNumbersBelowLimit cs → HaveNumbersBelowLimit (slice_set cs i k)
below-set [] i k d e h = tt
below-set (c ∷ cs) zero k d e h = (subst (λ n. n < number_limit) (sym e) h.0, h.1)
below-set (c ∷ cs) (suc i) k d e h = (h.0, below-set cs i k d e h.1)

below-insert : (cs : List Client) (i : ℕ) (k : Client) → number_of k < number_limit → HaveNumbersBelowLimit cs → HaveNumbersBelowLimit (insert cs i k)
below-insert [] zero k l h = (l, tt)
below-insert [] (suc i) k l h = (l, tt)
below-insert (c ∷ cs) zero k l h = (l, h)
below-insert (c ∷ cs) (suc i) k l h = (h.0, below-insert cs i k l h.1)

-- the connections are no more than there are numbers
few_above : (n : ℕ) (cs : List Client) → n < number_limit → AreAbove n cs → AreInOrder cs → HaveNumbersBelowLimit cs → n + 1 + length cs ≤ number_limit
few_above n [] l a o b = omega (arith, l)
few_above n (c ∷ cs) l a o b = let rest = few_above (number_of c) cs b.0 o.0 o.1 b.1 in omega (arith, rest, a.0)

pub few : (cs : List Client) → AreInOrder cs → HaveNumbersBelowLimit cs → length cs ≤ number_limit
few [] o b = omega arith
few (c ∷ cs) o b = let rest = few_above (number_of c) cs b.0 o.0 o.1 b.1 in omega (arith, rest)

-- what a number counts for
abbrev weight : {X : Type 0} → (X → Bool) → X → ℕ
weight test x = cond (test x) 1 0

-- nobody has a number that none is found of
first_none : (b : Bool) (c : Client) (o : Option Client) → cond b (Some c) o ≡ None → (b ≡ false) × (o ≡ None)
first_none true c o e = absurd cc
first_none false c o e = (refl, e)

count_of_none : (test : Client → Bool) (cs : List Client) → find test cs ≡ None → count_by test cs ≡ 0
count_of_none test [] e = refl
count_of_none test (c ∷ cs) e =
    let parts = first_none (test c) c (find test cs) e in
    let own : weight test c ≡ 0 = cond-false (test c) 1 0 parts.0 in
    omega (arith, sum_by-cons (weight test) c cs, own, count_of_none test cs parts.1)

none_of_count_at : (b : Bool) (c : Client) (o : Option Client) (more : ℕ) → cond b 1 0 + more ≡ 0 → (more ≡ 0 → o ≡ None) → cond b (Some c) o ≡ None
none_of_count_at true c o more e ih = absurd (omega (arith, e))
none_of_count_at false c o more e ih = ih (omega (arith, e))

none_of_count : (test : Client → Bool) (cs : List Client) → count_by test cs ≡ 0 → find test cs ≡ None
none_of_count test [] e = refl
none_of_count test (c ∷ cs) e = none_of_count_at (test c) c (find test cs) (count_by test cs) (sym (sum_by-cons (weight test) c cs) ∙ e) (none_of_count test cs)

any_false : (a b : Bool) → (a || b) ≡ false → (a ≡ false) × (b ≡ false)
any_false true b e = absurd cc
any_false false b e = (refl, e)

count_of_no_number : (test : ℕ → Bool) (ns : List ℕ) → list_any test ns ≡ false → count_by test ns ≡ 0
count_of_no_number test [] e = refl
count_of_no_number test (m ∷ ns) e =
    let parts = any_false (test m) (list_any test ns) e in
    let own : weight test m ≡ 0 = cond-false (test m) 1 0 parts.0 in
    omega (arith, sum_by-cons (weight test) m ns, own, count_of_no_number test ns parts.1)

some_at : (b rest : Bool) (more : ℕ) → (b || rest) ≡ true → (rest ≡ true → 1 ≤ more) → 1 ≤ cond b 1 0 + more
some_at true rest more e ih = omega arith
some_at false rest more e ih = omega (arith, ih e)

count_of_some : (test : ℕ → Bool) (ns : List ℕ) → list_any test ns ≡ true → 1 ≤ count_by test ns
count_of_some test [] e = absurd cc
count_of_some test (m ∷ ns) e =
    subst (λ n. 1 ≤ n) (sym (sum_by-cons (weight test) m ns)) (some_at (test m) (list_any test ns) (count_by test ns) e (count_of_some test ns))

-- a leaving connection has nobody on it
pub nobody_left : (n : ℕ) (s : Connections) → HaveOwnNumbers s → is_leaving n s ≡ true → client_here n s ≡ None
nobody_left n s own is = none_of_count (has_number n) s.clients (omega (arith, own n, count_of_some (is_number n) s.leaving is))

is_none_of : (o : Option Client) → is_some o ≡ false → o ≡ None
is_none_of None e = refl
is_none_of (Some c) e = absurd cc

-- a number that none has counts for nothing
no_count : (n : ℕ) (s : Connections) → is_open n s ≡ false → count_numbered n s ≡ 0
no_count n s free =
    let parts = any_false (is_some (client_here n s)) (is_leaving n s) free in
    omega (arith, count_of_none (has_number n) s.clients (is_none_of (client_here n s) parts.0), count_of_no_number (is_number n) s.leaving parts.1)

pub nobody_here : (n : ℕ) (s : Connections) → is_open n s ≡ false → client_here n s ≡ None
nobody_here n s free = is_none_of (client_here n s) (any_false (is_some (client_here n s)) (is_leaving n s) free).0

-- one is changed, but not its number
count-set : (n : ℕ) (cs : List Client) (i : ℕ) (k d : Client) → number_of k ≡ number_of (get_or cs i d) → count_by (has_number n) (slice_set cs i k) ≡ count_by (has_number n) cs
count-set n [] i k d e = refl
count-set n (c ∷ cs) zero k d e =
    let own : weight (has_number n) k ≡ weight (has_number n) c = ap (λ m. cond (m == n) 1 0) e in
    omega (arith, sum_by-cons (weight (has_number n)) k cs, sum_by-cons (weight (has_number n)) c cs, own)
count-set n (c ∷ cs) (suc i) k d e =
    omega (arith, sum_by-cons (weight (has_number n)) c (slice_set cs i k), sum_by-cons (weight (has_number n)) c cs, count-set n cs i k d e)

pub numbers-set : (ns : List ℕ) (cs : List Client) (i : ℕ) (d k : Client) → d ≡ get_or cs i d → number_of k ≡ number_of d → HaveNumbers cs ns → HaveNumbers (slice_set cs i k) ns
numbers-set ns cs i d k e f h =
    let same : number_of k ≡ number_of (get_or cs i d) = f ∙ ap number_of e in
    (below-set cs i k d same h.0, λ n. omega (arith, h.1 n, count-set n cs i k d same))

-- one comes
one_more : (n : ℕ) (s : Connections) (c : Client) → HaveOwnNumbers s → is_open (number_of c) s ≡ false → count_numbered n s + weight (has_number n) c ≤ 1
one_more n s c own free = ⊎_elim
    (λ (is : has_number n c ≡ true).
    let same : number_of c ≡ n = eqb-true (number_of c) n is in
    let none : count_numbered n s ≡ 0 = subst (λ m. count_numbered m s ≡ 0) same (no_count (number_of c) s free) in
    let own : weight (has_number n) c ≡ 1 = cond-true (has_number n c) 1 0 is in
    omega (arith, none, own))
    (λ (isnt : has_number n c ≡ false). let nothing : weight (has_number n) c ≡ 0 = cond-false (has_number n c) 1 0 isnt in omega (arith, own n, nothing))
    (cases_Bool (has_number n c))

pub numbers-insert : (ns : List ℕ) (cs : List Client) (i : ℕ) (c : Client) → number_of c < number_limit → is_open (number_of c) (both cs ns) ≡ false → HaveNumbers cs ns → HaveNumbers (insert cs i c) ns
numbers-insert ns cs i c below free h = (
  below-insert cs i c below h.0,
  λ n. omega (arith, sum_by-insert (weight (has_number n)) cs i c, one_more n (both cs ns) c h.1 free),
)

-- one is freed
count-without : {X : Type 0} → (f : X → ℕ) (test : X → Bool) (xs : List X) → sum_by f (without_first test xs) ≤ sum_by f xs
count-without f test [] = omega arith
count-without f test (x ∷ xs) = without_at (test x) f test x xs (count-without f test xs)
  where
    without_at : {X : Type 0} → (b : Bool) (f : X → ℕ) (test : X → Bool) (x : X) (xs : List X) → sum_by f (without_first test xs) ≤ sum_by f xs →
        sum_by f (cond b xs (x ∷ without_first test xs)) ≤ sum_by f (x ∷ xs)
    without_at true f test x xs ih = omega (arith, sum_by-cons f x xs)
    without_at false f test x xs ih = omega (arith, sum_by-cons f x xs, sum_by-cons f x (without_first test xs), ih)

pub numbers-free : (m : ℕ) (ns ns' : List ℕ) (cs : List Client) → ns' ≡ without_first (is_number m) ns → HaveNumbers cs ns → HaveNumbers cs ns'
numbers-free m ns ns' cs e h =
    (h.0, subst (λ (xs : List ℕ). HaveOwnNumbers (both cs xs)) (sym e) (λ n. omega (arith, h.1 n, count-without (weight (is_number n)) (is_number m) ns)))

pub numbers-remove : (ns : List ℕ) (cs : List Client) (i : ℕ) (d : Client) → i < length cs → HaveNumbers cs ns → HaveNumbers (remove cs i) ns
numbers-remove ns cs i d l h = (below-remove cs i h.0, λ n. omega (arith, h.1 n, sum_by-remove (weight (has_number n)) cs i d l))

-- one leaves
pub numbers-leave : (ns : List ℕ) (cs : List Client) (i : ℕ) (d : Client) → i < length cs → d ≡ get_or cs i d → HaveNumbers cs ns → HaveNumbers (remove cs i) (ns ++ number_of d ∷ [])
numbers-leave ns cs i d l e h = (
  below-remove cs i h.0,
  λ n.
      let own : weight (has_number n) (get_or cs i d) ≡ weight (is_number n) (number_of d) = ap (weight (has_number n)) (sym e) in
      omega (arith, h.1 n, sum_by-remove (weight (has_number n)) cs i d l, sum_by_push (weight (is_number n)) ns (number_of d), own),
)

-- all leave
count-map : (n : ℕ) (cs : List Client) → count_by (is_number n) (map number_of cs) ≡ count_by (has_number n) cs
count-map n [] = refl
count-map n (c ∷ cs) = omega (arith, sum_by-cons (weight (is_number n)) (number_of c) (map number_of cs), sum_by-cons (weight (has_number n)) c cs, count-map n cs)

pub numbers-all_left : (ns ms : List ℕ) (cs cs' : List Client) → cs' ≡ [] → ms ≡ ns ++ map number_of cs → HaveNumbers cs ns → HaveNumbers cs' ms
numbers-all_left ns ms cs cs' none e h =
    same_numbers [] cs' (ns ++ map number_of cs) ms none e (tt, λ n. omega (arith, h.1 n, sum_by-append (weight (is_number n)) ns (map number_of cs), count-map n cs))

-- each client has at most one player
few_step : (o : Option ℤ) (players : List ℤ) (c : Client) (cs : List Client) → length players ≤ length cs → length (cons_option o players) ≤ length (c ∷ cs)
few_step None players c cs h = omega (arith, h)
few_step (Some p) players c cs h = omega (arith, h)

pub few_players : (cs : List Client) → length (players_on cs) ≤ length cs
few_players [] = omega arith
few_players (c ∷ cs) = few_step (player_on c) (players_on cs) c cs (few_players cs)

pub few_answer : {V E : Type 0} → (r : Result V E) (f : V → List ℤ) (cs cs' : List Client) → cs' ≡ cs → AreInOrder cs → HaveNumbersBelowLimit cs → IfOk r (λ v. f v ≡ players_on cs') → IfOk r (λ v. length (f v) ≤ number_limit)
few_answer (Ok v) f cs cs' e o b h =
    let same : length (f v) ≡ length (players_on cs) = ap (λ (ps : List ℤ). length ps) (h ∙ ap players_on e) in
    omega (arith, same, few_players cs, few cs o b)
few_answer (Err x) f cs cs' e o b h = tt

-- the player of one more client comes after the others
pub one_more_player : (c : Client) (xs : List ℤ) (cs : List Client) → (xs ++ players_on (c ∷ [])) ++ players_on cs ≡ xs ++ players_on (c ∷ cs)
one_more_player c xs cs = at (player_on c) xs (players_on cs)
  where
    at : (o : Option ℤ) (xs ys : List ℤ) → (xs ++ cons_option o []) ++ ys ≡ xs ++ cons_option o ys
    at None [] ys = refl
    at None (x ∷ xs) ys = ap (λ (l : List ℤ). x ∷ l) (at None xs ys)
    at (Some p) [] ys = refl
    at (Some p) (x ∷ xs) ys = ap (λ (l : List ℤ). x ∷ l) (at (Some p) xs ys)
