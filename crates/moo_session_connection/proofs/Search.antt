-- A binary search by numbers finds what a look from the first on finds.
use Rattle.std.proofs.Common.{◌≡◌, ℕ, zero, suc, ◌<◌, ◌≤◌, Bool, true, false, List, [], ◌∷◌, length, get_or, Some, None, Result, Ok, Err, IfOk, IfErr, sym, ◌∙◌, ap, ⊎_elim, arith}
use Rattle.std.specs.Prelude.{position, ◌==◌, nat_lt}
use Rattle.std.specs.List.{position_or_len}
use Rattle.std.specs.List.Sorted.{IsSearchInRange, IsBinarySearchResult, IsNonDecreasingBy}
use Rattle.std.specs.Ordering.{nat_cmp, ordering_index}
use Rattle.std.proofs.lemmas.Cmp.{ranked}
use Rattle.std.proofs.lemmas.List.{get_or-map, length-map}
use Rattle.std.proofs.lemmas.List.Sorted.{IsNonDecreasingBy-from_default}
use Rattle.std.proofs.lemmas.List.Sums.{position_or_len_is}
use Rattle.std.proofs.lemmas.Bool.{lt-ltb, le-ltb, cases_lt, cases_order}
use Rattle.std.proofs.lemmas.Bool.Decides.{nat_tests}
use Rattle.std.proofs.lemmas.Grind.{common_steps}
use Rattle.moo_eval_frame.specs.declared.surroundings.Connection.{Connection}
use Rattle.moo_session_connection.specs.declared.client.Client.{Client}
use Rattle.moo_session_connection.specs.Clients.{number_of, has_number, is_above, row_of, newcomer}
use Rattle.moo_session_connection.specs.Connections.{AreAbove, AreInOrder}
use Rattle.moo_session_connection.specs.Searching.{no_connection, number_at, IsRising, IsAt, IsGap}

comparisons_rise : (row : List Connection) → IsRising row → (n : ℕ) → IsNonDecreasingBy (λ c. ordering_index (nat_cmp c.number n)) row
comparisons_rise row rising n = IsNonDecreasingBy-from_default (λ c. ordering_index (nat_cmp c.number n)) row no_connection (λ i j le in_range.
    let numbers_rise : number_at row i ≤ number_at row j = grind (arith, rising i j, λ (same : i ≡ j). ap (number_at row) same) in
    grind (arith, nat_tests))

pub searched : (row : List Connection) → IsRising row → (n : ℕ) (r : Result ℕ ℕ) → IsSearchInRange r (length row) → IsBinarySearchResult (λ c. nat_cmp c.number n) row r →
    record { found : IfOk r (IsAt row n); absent : IfErr r (IsGap row n) }
searched row rising n (Ok at) in_range equal = record { found = record { in_range = in_range; has_number = ranked _ n _ (sym (equal no_connection)) }; absent = tt }
searched row rising n (Err at) in_range parted = record {
  found = tt;
  absent = record {
    in_range = in_range;
    below = λ j l. ranked _ n _ (sym ((parted (comparisons_rise row rising n)).0 j no_connection (omega (arith, l, in_range)) l));
    above = λ j l lt. ranked _ n _ (sym ((parted (comparisons_rise row rising n)).1 j no_connection l lt));
  };
}

above_at : (n : ℕ) (cs : List Client) (j : ℕ) → AreAbove n cs → j < length (row_of cs) → n < number_at (row_of cs) j
above_at n [] j h l = absurd (omega (arith, l))
above_at n (c ∷ cs) zero h l = h.0
above_at n (c ∷ cs) (suc j) h l = above_at n cs j h.1 (omega (arith, l))

-- clients in order have a row that rises
pub rising : (cs : List Client) → AreInOrder cs → IsRising (row_of cs)
rising [] h i j l m = absurd (omega (arith, m))
rising (c ∷ cs) h i zero l m = absurd (omega (arith, l))
rising (c ∷ cs) h zero (suc j) l m = above_at (number_of c) cs j h.0 (omega (arith, m))
rising (c ∷ cs) h (suc i) (suc j) l m = rising cs h.1 i j (omega (arith, l)) (omega (arith, m))

same_number : (cs : List Client) (k : ℕ) (d : Client) → k < length cs → number_at (row_of cs) k ≡ number_of (get_or cs k d)
same_number cs k d l = ap (λ (c : Connection). c.number) (get_or-map (λ (c : Client). c.connection) cs k d no_connection l)

place_of : (test : Client → Bool) (cs : List Client) (i : ℕ) → position_or_len test cs ≡ i → i < length cs → position test cs ≡ Some i
place_of test cs i e l = grind (arith, common_steps)

no_place : (test : Client → Bool) (cs : List Client) → position_or_len test cs ≡ length cs → position test cs ≡ None
no_place test cs e = grind (arith, common_steps)

equal : (a b : ℕ) → a ≡ b → (a == b) ≡ true
equal a b e = grind (arith, nat_tests, e)

unequal : (a b : ℕ) → ¬ (a ≡ b) → (a == b) ≡ false
unequal a b n = grind (arith, nat_tests, n)

-- the first that passes is the one at index i, whatever comes after the end
pub is_at : (test : Client → Bool) (cs : List Client) (i : ℕ) (d : Client) → i < length cs → test (get_or cs i d) ≡ true → ((k : ℕ) → k < i → test (get_or cs k d) ≡ false) → position test cs ≡ Some i
is_at test cs i d inside here before = place_of test cs i (position_or_len_is test cs i d (omega (arith, inside)) before (λ l. here)) inside

pub is_nowhere : (test : Client → Bool) (cs : List Client) (d : Client) → ((k : ℕ) → k < length cs → test (get_or cs k d) ≡ false) → position test cs ≡ None
is_nowhere test cs d none = no_place test cs (position_or_len_is test cs (length cs) d (omega arith) none (λ l. absurd (omega (arith, l))))

-- the others have other numbers
pub apart : (cs : List Client) (i k : ℕ) (d : Client) → AreInOrder cs → i < length cs → k < length cs → number_of (get_or cs k d) ≡ number_of (get_or cs i d) → k ≡ i
apart cs i k d h l m e =
    let many : length (row_of cs) ≡ length cs = length-map cs (λ (c : Client). c.connection) in
    let same : number_at (row_of cs) k ≡ number_at (row_of cs) i = same_number cs k d m ∙ e ∙ sym (same_number cs i d l) in
    ⊎_elim (λ (is : k ≡ i). is)
    (λ other. ⊎_elim
    (λ (before : k < i). absurd (omega (arith, same, rising cs h k i before (omega (arith, many, l)))))
    (λ (after : i < k). absurd (omega (arith, same, rising cs h i k after (omega (arith, many, m)))))
    other)
    (cases_order k i)

pub found_place : (cs : List Client) (n i : ℕ) → AreInOrder cs → IsAt (row_of cs) n i → position (has_number n) cs ≡ Some i
found_place cs n i h at =
    let first : Client = newcomer 0 0 in
    let inside : i < length cs = omega (arith, at.in_range, length-map cs (λ (c : Client). c.connection)) in
    let is : number_of (get_or cs i first) ≡ n = sym (same_number cs i first inside) ∙ at.has_number in
    is_at (has_number n) cs i first inside (equal (number_of (get_or cs i first)) n is) (λ k l.
    unequal (number_of (get_or cs k first)) n
    (omega (arith, rising cs h k i l at.in_range, at.has_number, same_number cs k first (omega (arith, l, inside)))))

pub found_no_place : (cs : List Client) (n i : ℕ) → IsGap (row_of cs) n i → position (has_number n) cs ≡ None
found_no_place cs n i gap =
    let first : Client = newcomer 0 0 in
    is_nowhere (has_number n) cs first (λ k l.
    unequal (number_of (get_or cs k first)) n
    (λ e. ⊎_elim
    (λ (before : k < i). absurd (omega (arith, e, gap.below k before, same_number cs k first l)))
    (λ (after : i ≤ k). absurd (omega (arith, e, gap.above k after (omega (arith, l, length-map cs (λ (c : Client). c.connection))), same_number cs k first l)))
    (cases_lt k i)))

at_most : (a b : ℕ) → a < b → nat_lt b a ≡ false
at_most a b l = le-ltb b a (omega (arith, l))

-- the first of a higher number is at the index at which one of this number would be
pub place_above : (cs : List Client) (n i : ℕ) → IsGap (row_of cs) n i → position_or_len (is_above n) cs ≡ i
place_above cs n i gap =
    let first : Client = newcomer 0 0 in
    let many : length (row_of cs) ≡ length cs = length-map cs (λ (c : Client). c.connection) in
    position_or_len_is (is_above n) cs i first (omega (arith, gap.in_range, many))
    (λ k l. at_most (number_of (get_or cs k first)) n (omega (arith, gap.below k l, same_number cs k first (omega (arith, l, gap.in_range, many)))))
    (λ l. lt-ltb n (number_of (get_or cs i first)) (omega (arith, gap.above i (omega arith) (omega (arith, l, many)), same_number cs i first l)))

pub inside_row : (cs : List Client) (n i : ℕ) → IsGap (row_of cs) n i → i ≤ length cs
inside_row cs n i gap = omega (arith, gap.in_range, length-map cs (λ (c : Client). c.connection))

-- a client of this number is found
pub number_place : (cs : List Client) (n i : ℕ) (d : Client) → AreInOrder cs → i < length cs → number_of (get_or cs i d) ≡ n → position (has_number n) cs ≡ Some i
number_place cs n i d h l e =
    found_place cs n i h (record { in_range = omega (arith, l, length-map cs (λ (c : Client). c.connection)); has_number = same_number cs i d l ∙ e })
