-- A connection that is changed or removed at its index.
use Rattle.std.proofs.Common.{◌≡◌, ℕ, suc, zero, ◌+◌, ◌<◌, ◌≤◌, Bool, not, true, false, cond, List, [], ◌∷◌, ◌++◌, length, get_or, Some, None, refl, sym, ◌∙◌, ap, arith}
use Rattle.std.specs.Prelude.{slice_set, position, find, Result, Ok, Err, OnOk}
use Rattle.std.specs.declared.alloc.AllocError.{AllocError}
use Rattle.std.specs.List.{position_or_len, remove}
use Rattle.std.proofs.lemmas.List.Sums.{prefix_len-le-length}
use Rattle.std.proofs.lemmas.Bool.{cond-true, cond-false}
use Rattle.std.proofs.lemmas.Grind.{common_steps}
use Rattle.std.proofs.lemmas.List.Quantifiers.{position-Some}
use Rattle.moo_session_connection.specs.declared.client.Client.{Client}
use Rattle.moo_session_connection.specs.Clients.{number_of, changed, without_first, newcomer}
use Rattle.moo_session_connection.specs.Connections.{Connections}
use Rattle.moo_session_connection.specs.Changes.{left_where}

changed_first : (test : Client → Bool) (f : Client → Client) (cs : List Client) (i : ℕ) (c : Client) → i < length cs → test (get_or cs i c) ≡ true →
    ((k : ℕ) → k < i → test (get_or cs k c) ≡ false) → changed test f cs ≡ slice_set cs i (f (get_or cs i c))
changed_first test f [] i c h t n = absurd (omega (arith, h))
changed_first test f (d ∷ ds) zero c h t n = cond-true (test d) (f d ∷ ds) (d ∷ changed test f ds) t
changed_first test f (d ∷ ds) (suc i) c h t n =
    cond-false (test d) (f d ∷ ds) (d ∷ changed test f ds) (n 0 (omega arith))
    ∙ ap (λ xs. d ∷ xs) (changed_first test f ds i c (omega (arith, h)) t (λ k l. n (suc k) (omega (arith, l))))

-- the first that passes is changed at its index
pub changed_at : (test : Client → Bool) (f : Client → Client) (cs : List Client) (i : ℕ) (c : Client) → position test cs ≡ Some i → changed test f cs ≡ slice_set cs i (f (get_or cs i c))
changed_at test f cs i c e = let at = position-Some test cs i c e in changed_first test f cs i c at.0 at.1 at.2

none_step : (b : Bool) (test : Client → Bool) (f : Client → Client) (d : Client) (ds : List Client) → (length ds ≤ position_or_len test ds → changed test f ds ≡ ds) →
    length (d ∷ ds) ≤ cond (not b) (1 + position_or_len test ds) 0 → cond b (f d ∷ ds) (d ∷ changed test f ds) ≡ d ∷ ds
none_step true test f d ds ih h = absurd (omega (arith, h))
none_step false test f d ds ih h = ap (λ xs. d ∷ xs) (ih (omega (arith, h)))

changed_none : (test : Client → Bool) (f : Client → Client) (cs : List Client) → length cs ≤ position_or_len test cs → changed test f cs ≡ cs
changed_none test f [] h = refl
changed_none test f (d ∷ ds) h = none_step (test d) test f d ds (changed_none test f ds) h

pub past : {X : Type 0} → (test : X → Bool) (cs : List X) → position test cs ≡ None → length cs ≤ position_or_len test cs
past test cs e = grind (arith, common_steps)

-- if none passes nothing changes
pub changed_nowhere : (test : Client → Bool) (f : Client → Client) (cs : List Client) → position test cs ≡ None → changed test f cs ≡ cs
changed_nowhere test f cs e = changed_none test f cs (past test cs e)

without_first_at : {X : Type 0} → (test : X → Bool) (cs : List X) (i : ℕ) (c : X) → i < length cs → test (get_or cs i c) ≡ true →
    ((k : ℕ) → k < i → test (get_or cs k c) ≡ false) → without_first test cs ≡ remove cs i
without_first_at test [] i c h t n = absurd (omega (arith, h))
without_first_at test (d ∷ ds) zero c h t n = cond-true (test d) ds (d ∷ without_first test ds) t
without_first_at test (d ∷ ds) (suc i) c h t n =
    cond-false (test d) ds (d ∷ without_first test ds) (n 0 (omega arith))
    ∙ ap (λ xs. d ∷ xs) (without_first_at test ds i c (omega (arith, h)) t (λ k l. n (suc k) (omega (arith, l))))

-- the first that passes is removed at its index
pub without_at : {X : Type 0} → (test : X → Bool) (cs : List X) (i : ℕ) (c : X) → position test cs ≡ Some i → without_first test cs ≡ remove cs i
without_at test cs i c e = let at = position-Some test cs i c e in without_first_at test cs i c at.0 at.1 at.2

without_step : {X : Type 0} → (b : Bool) (test : X → Bool) (d : X) (ds : List X) → (length ds ≤ position_or_len test ds → without_first test ds ≡ ds) →
    length (d ∷ ds) ≤ cond (not b) (1 + position_or_len test ds) 0 → cond b ds (d ∷ without_first test ds) ≡ d ∷ ds
without_step true test d ds ih h = absurd (omega (arith, h))
without_step false test d ds ih h = ap (λ xs. d ∷ xs) (ih (omega (arith, h)))

without_none : {X : Type 0} → (test : X → Bool) (cs : List X) → length cs ≤ position_or_len test cs → without_first test cs ≡ cs
without_none test [] h = refl
without_none test (d ∷ ds) h = without_step (test d) test d ds (without_none test ds) h

pub without_nowhere : {X : Type 0} → (test : X → Bool) (cs : List X) → position test cs ≡ None → without_first test cs ≡ cs
without_nowhere test cs e = without_none test cs (past test cs e)

found_first : (test : Client → Bool) (cs : List Client) (i : ℕ) (c : Client) → i < length cs → test (get_or cs i c) ≡ true →
    ((k : ℕ) → k < i → test (get_or cs k c) ≡ false) → find test cs ≡ Some (get_or cs i c)
found_first test [] i c h t n = absurd (omega (arith, h))
found_first test (d ∷ ds) zero c h t n = cond-true (test d) (Some d) (find test ds) t
found_first test (d ∷ ds) (suc i) c h t n =
    cond-false (test d) (Some d) (find test ds) (n 0 (omega arith)) ∙ found_first test ds i c (omega (arith, h)) t (λ k l. n (suc k) (omega (arith, l)))

-- the first that passes is found at its index
pub found_at : (test : Client → Bool) (cs : List Client) (i : ℕ) (c : Client) → position test cs ≡ Some i → find test cs ≡ Some (get_or cs i c)
found_at test cs i c e = let at = position-Some test cs i c e in found_first test cs i c at.0 at.1 at.2

missed_step : (b : Bool) (test : Client → Bool) (d : Client) (ds : List Client) → (length ds ≤ position_or_len test ds → find test ds ≡ None) →
    length (d ∷ ds) ≤ cond (not b) (1 + position_or_len test ds) 0 → cond b (Some d) (find test ds) ≡ None
missed_step true test d ds ih h = absurd (omega (arith, h))
missed_step false test d ds ih h = ih (omega (arith, h))

missed : (test : Client → Bool) (cs : List Client) → length cs ≤ position_or_len test cs → find test cs ≡ None
missed test [] h = refl
missed test (d ∷ ds) h = missed_step (test d) test d ds (missed test ds) h

pub found_nowhere : (test : Client → Bool) (cs : List Client) → position test cs ≡ None → find test cs ≡ None
found_nowhere test cs e = missed test cs (past test cs e)

-- the first that passes is leaving, from its index
pub left_at : (test : Client → Bool) (s : Connections) (i : ℕ) (c : Client) → position test s.clients ≡ Some i →
    left_where test (find test s.clients) s ≡ record { clients = remove s.clients i; leaving = s.leaving ++ number_of (get_or s.clients i c) ∷ [] }
left_at test s i c e =
    let gone : List Client → Connections = λ cs. record { clients = cs; leaving = s.leaving ++ number_of (get_or s.clients i c) ∷ [] } in
    ap (λ o. left_where test o s) (found_at test s.clients i c e) ∙ ap gone (without_at test s.clients i c e)

pub left_nowhere : (test : Client → Bool) (s : Connections) → position test s.clients ≡ None → left_where test (find test s.clients) s ≡ s
left_nowhere test s e = ap (λ o. left_where test o s) (found_nowhere test s.clients e)

pub place_is : (test : Client → Bool) (cs : List Client) (i : ℕ) → position test cs ≡ Some i → i ≡ position_or_len test cs
place_is test cs i e = grind (arith, common_steps)

-- what is found is somewhere
pub not_nowhere : {A : Type 0} → (test : Client → Bool) (cs : List Client) (i : ℕ) (c : Client) → position test cs ≡ Some i → find test cs ≡ None → A
not_nowhere test cs i c e n = (let found : find test cs ≡ Some (get_or cs i c) = found_at test cs i c e in cc)

pub length_is : (test : Client → Bool) (cs : List Client) → position test cs ≡ None → length cs ≡ position_or_len test cs
length_is test cs e = omega (arith, past test cs e, prefix_len-le-length (λ x. not (test x)) cs)

pub left_answer : (r : Result (Unit {0}) AllocError) (test : Client → Bool) (s s' : Connections) (i : ℕ) → position test s.clients ≡ Some i →
    OnOk r ((d : Client) → s' ≡ record { clients = remove s.clients i; leaving = s.leaving ++ number_of (get_or s.clients i d) ∷ [] }) → OnOk r (s' ≡ left_where test (find test s.clients) s)
left_answer (Ok done) test s s' i e h = let first : Client = newcomer 0 0 in h first ∙ sym (left_at test s i first e)
left_answer (Err fault) test s s' i e h = tt
