-- The callers of a slab.
use Rattle.std.proofs.Common.{◌≡◌, ◌≢◌, ◌⊎◌, ℕ, suc, ◌+◌, ◌<◌, ◌≤◌, List, [], ◌∷◌, ◌++◌, append_assoc, append-nil, length, take, drop, get_or, cond, Bor, count_by, is_some, Option, None, Some, inl, inr, refl, sym, ◌∙◌, ap, subst, arith}
use Rattle.std.specs.declared.alloc.AllocError.{AllocError}
use Rattle.std.specs.Prelude.{IfOk, IfSome, IsSome, OnSome, Result, Ok, Err, true}
use Rattle.std.proofs.lemmas.Bool.{cases_eq}
use Rattle.std.proofs.lemmas.List.{take-append-drop}
use Rattle.std.proofs.lemmas.List.Sums.{sum_by-set}
use Rattle.slab.specs.Slab.{Slab, Updates, get, slab_len, with_value}
use Rattle.slab.proofs.SlabLemmas.{ContainsKey-within, Updates-with_value}
use Rattle.moo_cli_web_request.specs.Requests.{AsksFor}
use Rattle.moo_cli_web_request.specs.declared.allowed.Allowed.{Allowed}
use Rattle.moo_cli_web_listener.specs.declared.caller.Caller.{Caller}
use Rattle.moo_cli_web_request.specs.declared.request.Request.TheVariants as the
use Rattle.moo_cli_web_listener.specs.declared.caller.Stage.{Stage}
use Rattle.moo_cli_web_listener.specs.declared.caller.Stage.TheVariants as stage
use Rattle.moo_cli_web_listener.specs.declared.caller.Upgrade.{Upgrade}
use Rattle.moo_cli_web_listener.specs.declared.listener.WebListener.{WebListener}
use Rattle.moo_cli_web_listener.specs.Callers.{AreCallers, HandsOn, IsAt, IsCaller, IsFirst, MakesRoom, Takes, place_of}

abbrev one_if : Option Caller → ℕ
one_if slot = cond (is_some slot) 1 0

-- a caller that is put in the place of another
pub written_callers : (allowed : Allowed) (callers : Slab Caller) (key : ℕ) (old new : Caller) → Some old ≡ get callers key
    → (IsCaller allowed old → IsCaller allowed new) → AreCallers allowed callers → AreCallers allowed (with_value callers key new)
written_callers allowed callers key old new found kept are = record {
  few = omega (arith, are.few, count);
  each = λ k. by_key k (cases_eq k key);
}
  where
    present : IsSome (get callers key)
    present = subst (λ (slot : Option Caller). IsSome slot) found refl

    updates : Updates callers (with_value callers key new) key (Some new)
    updates = Updates-with_value callers key new present

    is_one : one_if (get_or callers.slots key None) ≡ one_if (Some old)
    is_one = ap one_if (sym found)

    count : slab_len (with_value callers key new) ≡ slab_len callers
    count = omega (arith, is_one, sum_by-set one_if callers.slots key (Some new) None (ContainsKey-within callers key present))

    was : IsCaller allowed old
    was = subst (λ (slot : Option Caller). IfSome slot (IsCaller allowed)) (sym found) (are.each key)

    by_key : (k : ℕ) → (k ≡ key) ⊎ (k ≢ key) → IfSome (get (with_value callers key new) k) (IsCaller allowed)
    by_key k (inl same) =
        subst (λ (j : ℕ). IfSome (get (with_value callers key new) j) (IsCaller allowed)) (sym same)
        (subst (λ (slot : Option Caller). IfSome slot (IsCaller allowed)) (sym updates.changed) (kept was))
    by_key k (inr differs) =
        subst (λ (slot : Option Caller). IfSome slot (IsCaller allowed)) (sym (updates.others k differs)) (are.each k)

-- a place that has none, or a caller of its own
pub updated_callers : (allowed : Allowed) (old new : Slab Caller) (key : ℕ) (slot : Option Caller) → Updates old new key slot → slab_len new ≤ 64
    → IfSome slot (IsCaller allowed) → AreCallers allowed old → AreCallers allowed new
updated_callers allowed old new key slot updates few is are = record { few = few; each = λ k. by_key k (cases_eq k key) }
  where
    by_key : (k : ℕ) → (k ≡ key) ⊎ (k ≢ key) → IfSome (get new k) (IsCaller allowed)
    by_key k (inl same) =
        subst (λ (j : ℕ). IfSome (get new j) (IsCaller allowed)) (sym same) (subst (λ (s : Option Caller). IfSome s (IsCaller allowed)) (sym updates.changed) is)
    by_key k (inr differs) = subst (λ (s : Option Caller). IfSome s (IsCaller allowed)) (sym (updates.others k differs)) (are.each k)

-- a caller that the system reports as ready
pub woken_callers : (allowed : Allowed) (callers : Slab Caller) (key : ℕ) (old new : Caller) → Some old ≡ get callers key
    → new ≡ record old { is_ready = true } → AreCallers allowed callers → AreCallers allowed (with_value callers key new)
woken_callers allowed callers key old new found woken are =
    written_callers allowed callers key old new found (λ is. subst (λ (caller : Caller). IsCaller allowed caller) (sym woken) is) are

-- one key more, at which there is no caller
pub first_past : (callers : Slab Caller) (n : ℕ) (first : Option (ℕ × ℕ)) → None ≡ get callers n → IsFirst callers n first → IsFirst callers (n + 1) first
first_past callers n None none is = λ k less. by_key k less (cases_eq k n)
  where
    by_key : (k : ℕ) → k < n + 1 → (k ≡ n) ⊎ (k ≢ n) → get callers k ≡ None
    by_key k less (inl same) = ap (λ (j : ℕ). get callers j) same ∙ sym none
    by_key k less (inr differs) = is k (omega (arith, less, differs))
first_past callers n (Some first) none is = (is.0, is.1, is.2, λ k less. by_key k less (cases_eq k n))
  where
    by_key : (k : ℕ) → k < n + 1 → (k ≡ n) ⊎ (k ≢ n) → IfSome (get callers k) (λ other. first.0 ≤ place_of other)
    by_key k less (inl same) =
        subst (λ (slot : Option Caller). IfSome slot (λ other. first.0 ≤ place_of other)) (sym (ap (λ (j : ℕ). get callers j) same ∙ sym none)) tt
    by_key k less (inr differs) = is.3 k (omega (arith, less, differs))

-- a caller that came later, at the next key
pub first_stays : (callers : Slab Caller) (n : ℕ) (first : ℕ × ℕ) (caller : Caller) → Some caller ≡ get callers n → first.0 ≤ place_of caller
    → IsFirst callers n (Some first) → IsFirst callers (n + 1) (Some first)
first_stays callers n first caller found later is = (is.0, is.1, is.2, λ k less. by_key k less (cases_eq k n))
  where
    by_key : (k : ℕ) → k < n + 1 → (k ≡ n) ⊎ (k ≢ n) → IfSome (get callers k) (λ other. first.0 ≤ place_of other)
    by_key k less (inl same) =
        subst (λ (slot : Option Caller). IfSome slot (λ other. first.0 ≤ place_of other)) (sym (ap (λ (j : ℕ). get callers j) same ∙ sym found)) later
    by_key k less (inr differs) = is.3 k (omega (arith, less, differs))

-- the only caller so far
pub first_none : (callers : Slab Caller) (n : ℕ) (caller : Caller) → Some caller ≡ get callers n
    → IsFirst callers n None → IsFirst callers (n + 1) (Some (place_of caller, n))
first_none callers n caller found is = (caller, sym found, refl, λ k less. by_key k less (cases_eq k n))
  where
    by_key : (k : ℕ) → k < n + 1 → (k ≡ n) ⊎ (k ≢ n) → IfSome (get callers k) (λ other. place_of caller ≤ place_of other)
    by_key k less (inl same) =
        subst (λ (slot : Option Caller). IfSome slot (λ other. place_of caller ≤ place_of other)) (sym (ap (λ (j : ℕ). get callers j) same ∙ sym found)) (omega arith)
    by_key k less (inr differs) =
        subst (λ (slot : Option Caller). IfSome slot (λ other. place_of caller ≤ place_of other)) (sym (is k (omega (arith, less, differs)))) tt

-- a caller that came earlier
pub first_earlier : (callers : Slab Caller) (n : ℕ) (first : ℕ × ℕ) (caller : Caller) → Some caller ≡ get callers n → place_of caller < first.0
    → IsFirst callers n (Some first) → IsFirst callers (n + 1) (Some (place_of caller, n))
first_earlier callers n first caller found earlier is = (caller, sym found, refl, λ k less. by_key k less (cases_eq k n))
  where
    weaker : (slot : Option Caller) → IfSome slot (λ other. first.0 ≤ place_of other) → IfSome slot (λ other. place_of caller ≤ place_of other)
    weaker None later = tt
    weaker (Some other) later = omega (arith, earlier, later)

    by_key : (k : ℕ) → k < n + 1 → (k ≡ n) ⊎ (k ≢ n) → IfSome (get callers k) (λ other. place_of caller ≤ place_of other)
    by_key k less (inl same) =
        subst (λ (slot : Option Caller). IfSome slot (λ other. place_of caller ≤ place_of other)) (sym (ap (λ (j : ℕ). get callers j) same ∙ sym found)) (omega arith)
    by_key k less (inr differs) = weaker (get callers k) (is.3 k (omega (arith, less, differs)))

none_counted : (slots : List (Option Caller)) → ((k : ℕ) → k < length slots → get_or slots k None ≡ None) → count_by is_some slots ≡ 0
none_counted [] none = refl
none_counted (None ∷ slots) none = none_counted slots (λ k less. none (suc k) (omega (arith, less)))
none_counted (Some caller ∷ slots) none = absurd (subst (λ (slot : Option Caller). IfSome slot (λ c. ⊥)) (sym (none 0 (omega arith))) tt)

-- a slab without callers is empty
pub no_callers : (callers : Slab Caller) → IsFirst callers callers.capacity None → length callers.slots ≤ callers.capacity → slab_len callers ≡ 0
no_callers callers none slots = none_counted callers.slots (λ k less. none k (omega (arith, less, slots)))

-- the caller that came first is taken out of 64
pub makes_room : (allowed : Allowed) (old new : Slab Caller) (first : ℕ × ℕ) (removed : Option Caller) → AreCallers allowed old → 64 ≤ slab_len old
    → IsFirst old old.capacity (Some first) → removed ≡ get old first.1 → Updates old new first.1 None → OnSome removed (slab_len new + 1 ≡ slab_len old) → MakesRoom old new
makes_room allowed old new first removed are full is value updates len = record {
  room = omega (arith, are.few, subst (λ (slot : Option Caller). OnSome slot (slab_len new + 1 ≡ slab_len old)) (value ∙ is.1) len);
  kept = inr (full, first, is, updates);
}

-- bytes that came, and what they ask for
pub rest_keeps : (allowed : Allowed) (bytes : List ℕ) (before : Stage) (rest left : Bor (List ℕ)) (count : ℕ) → before ≡ stage.Writing rest
    → left.now ≡ drop count rest.now → IsAt allowed bytes before → IsAt allowed bytes (stage.Writing left)
rest_keeps allowed bytes before rest left count writing left_is is =
    let was : IsAt allowed bytes (stage.Writing rest) = subst (λ (s : Stage). IsAt allowed bytes s) writing is in (
      was.0,
      was.1,
      record {
        response = was.2.response;
        sent = was.2.sent ++ take count rest.now;
        is_response = was.2.is_response;
        all = was.2.all ∙ ap (λ (bs : List ℕ). was.2.sent ++ bs) (sym (take-append-drop count rest.now))
            ∙ sym (append_assoc was.2.sent (take count rest.now) (drop count rest.now)) ∙ ap (λ (bs : List ℕ). (was.2.sent ++ take count rest.now) ++ bs) (sym left_is);
      },
    )

-- all of the response is out
pub all_out : (allowed : Allowed) (bytes : List ℕ) (before : Stage) (rest : Bor (List ℕ)) (left since : ℕ) → before ≡ stage.Writing rest
    → IsAt allowed bytes before → IsAt allowed bytes (stage.Lingering left since)
all_out allowed bytes before rest left since writing is =
    let was : IsAt allowed bytes (stage.Writing rest) = subst (λ (s : Stage). IsAt allowed bytes s) writing is in (
      was.0,
      was.1,
      record { response = was.2.response; sent = was.2.response; is_response = was.2.is_response; all = sym (append-nil was.2.response) },
    )

-- the writing side may have ended
pub linger_keeps : (allowed : Allowed) (old new : Caller) (rest : Bor (List ℕ)) (now : ℕ) → old.stage ≡ stage.Writing rest
    → (new ≡ old) ⊎ (new ≡ record old { stage = stage.Lingering 65536 now }) → IsCaller allowed old → IsCaller allowed new
linger_keeps allowed old new rest now writing (inl same) is = subst (λ (caller : Caller). IsCaller allowed caller) (sym same) is
linger_keeps allowed old new rest now writing (inr same) is =
    subst (λ (caller : Caller). IsCaller allowed caller) (sym same) (all_out allowed old.input.items old.stage rest 65536 now writing is)

-- fewer bytes are left to drop
pub lingers_on : (allowed : Allowed) (bytes : List ℕ) (before : Stage) (left more since : ℕ) → before ≡ stage.Lingering left since
    → IsAt allowed bytes before → IsAt allowed bytes (stage.Lingering more since)
lingers_on allowed bytes before left more since lingering is = subst (λ (s : Stage). IsAt allowed bytes s) lingering is

-- a caller that waits for its WebSocket
upgrades : (allowed : Allowed) (caller : Caller) (upgrade : Upgrade) (n : ℕ) → caller.stage ≡ stage.Upgrading upgrade.accept n → IsCaller allowed caller
    → AsksFor allowed caller.input.items (the.Upgrade upgrade.accept n)
upgrades allowed caller upgrade n upgrading is = subst (λ (s : Stage). IsAt allowed caller.input.items s) upgrading is

-- a caller that is taken out, and what is made of it
pub takes : (old new : WebListener) (key : ℕ) (caller : Caller) (result : Result (Option Upgrade) AllocError) → get old.callers key ≡ Some caller
    → Updates old.callers new.callers key None → IfOk result (λ upgrade. IfSome upgrade (λ upgrade. (length : ℕ) × HandsOn caller length upgrade))
    → AreCallers old.allowed old.callers → IfOk result (λ upgrade. IfSome upgrade (Takes old new))
takes old new key caller (Err e) was taken hands are = tt
takes old new key caller (Ok None) was taken hands are = tt
takes old new key caller (Ok (Some upgrade)) was taken hands are = record {
  key = key;
  caller = caller;
  was = was;
  length = hands.0;
  asks = upgrades old.allowed caller upgrade hands.0 hands.1.stage (subst (λ (slot : Option Caller). IfSome slot (IsCaller old.allowed)) was (are.each key));
  hands = hands.1;
  taken = taken;
}
