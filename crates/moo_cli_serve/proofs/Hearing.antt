-- The second in which each connection was opened or last sent bytes.
use Rattle.std.proofs.Common.{◌≡◌, ◌⊎◌, inl, inr, Vec, Global, ℕ, zero, suc, ◌<◌, List, [], ◌∷◌, ◌++◌, length, get_or, set, Bool, true, false, refl, sym, ◌∙◌, ap}
use Rattle.std.specs.Prelude.{All, OnOk, Result, Ok, Err, eqb, ◌||◌, if◌then◌else◌}
use Rattle.std.proofs.lemmas.Bool.{eqb-false, eqb-true, or_left, or_right}
use Rattle.std.proofs.lemmas.Grind.{get_or-set_at}
use Rattle.std.proofs.lemmas.List.{get_or-set_other}
use Rattle.std.proofs.lemmas.List.Folds.{list_any-append}
use Rattle.std.proofs.lemmas.List.Elements.{All-append, All-same, All-weaker}
use Rattle.moo_dbtext_read.specs.Saved.{Saved}
use Rattle.moo_server_core.specs.Application.{Layer}
use Rattle.moo_server_core.specs.declared.event.Event.{Event}
use Rattle.moo_server_core.specs.declared.event.Event.TheVariants as the
use Rattle.moo_server_core.specs.declared.server_core.ServerCore.{ServerCore}
use Rattle.moo_cli_serve.specs.Silence.{Listens, heard_in, is_heard, is_sign_of}
use Rattle.moo_cli_serve.specs.Strangers.{is_stranger, may_be_late}
use Rattle.moo_cli_serve.specs.declared.silence.Silence.{Silence}

-- a number that is 0 past the end is so one further
pub padded : (xs : List ℕ) (k : ℕ) → get_or (xs ++ 0 ∷ []) k 0 ≡ get_or xs k 0
padded [] zero = refl
padded [] (suc k) = refl
padded (x ∷ xs) zero = refl
padded (x ∷ xs) (suc k) = padded xs k

-- one number is set
pub set_one : (xs : List ℕ) (c now : ℕ) → c < length xs → (k : ℕ) → get_or (set xs c now) k 0 ≡ (if eqb c k then now else get_or xs k 0)
set_one xs c now within k = by_test (eqb c k) refl
  where
    by_test : (b : Bool) → eqb c k ≡ b → get_or (set xs c now) k 0 ≡ (if b then now else get_or xs k 0)
    by_test true here = get_or-set_at xs c k now 0 (sym (eqb-true c k here)) within
    by_test false other = get_or-set_other xs c k now 0 (λ same. eqb-false c k other (sym same))

-- no event came
pub listens_none : (now : ℕ) (silence : Silence) → Listens now [] silence silence
listens_none now silence = record { limit = refl; heard = λ c. refl }

-- one connection was heard in one event
pub listens_one : (now c : ℕ) (event : Event) (old new : Silence) → ((k : ℕ) → is_sign_of k event ≡ eqb c k)
    → ((k : ℕ) → heard_in new k ≡ (if eqb c k then now else heard_in old k)) → new.limit ≡ old.limit → Listens now (event ∷ []) old new
listens_one now c event old new sign heard limit = record {
  limit = limit;
  heard = λ k. heard k ∙ sym (by_test k (eqb c k) (sign k));
}
  where
    by_test : (k : ℕ) (b : Bool) → is_sign_of k event ≡ b → (if (is_sign_of k event || false) then now else heard_in old k) ≡ (if b then now else heard_in old k)
    by_test k true is = ap (λ (b : Bool). if (b || false) then now else heard_in old k) is
    by_test k false is = ap (λ (b : Bool). if (b || false) then now else heard_in old k) is

-- in the opening of a connection and in bytes of it just that one is heard
sign_of : (c : ℕ) (event : Event) → (event ≡ the.Open c) ⊎ ((piece : Vec ℕ Global) × (event ≡ the.Bytes c piece)) → (k : ℕ) → is_sign_of k event ≡ eqb c k
sign_of c event (inl open_is) k = ap (λ (e : Event). is_sign_of k e) open_is
sign_of c event (inr bytes) k = ap (λ (e : Event). is_sign_of k e) bytes.1

-- a call that notes one connection in one event, if it returns
pub listens_if : {T E : Type 0} (r : Result T E) (now c : ℕ) (event : Event) (old new : Silence) → (event ≡ the.Open c) ⊎ ((piece : Vec ℕ Global) × (event ≡ the.Bytes c piece))
    → OnOk r ((k : ℕ) → heard_in new k ≡ (if eqb c k then now else heard_in old k)) → OnOk r (new.limit ≡ old.limit) → OnOk r (Listens now (event ∷ []) old new)
listens_if (Ok x) now c event old new is heard limit = listens_one now c event old new (sign_of c event is) heard limit
listens_if (Err e) now c event old new is heard limit = tt

-- none was heard in an event
pub listens_other : (now : ℕ) (event : Event) (silence : Silence) → ((k : ℕ) → is_sign_of k event ≡ false) → Listens now (event ∷ []) silence silence
listens_other now event silence none = record {
  limit = refl;
  heard = λ k. sym (ap (λ (b : Bool). if (b || false) then now else heard_in silence k) (none k));
}

-- other events came after those of a list
pub listens_join : (now : ℕ) (first second : List Event) (old mid new : Silence) → Listens now first old mid → Listens now second mid new → Listens now (first ++ second) old new
listens_join now first second old mid new one two = record {
  limit = two.limit ∙ one.limit;
  heard = λ c. two.heard c ∙ ap (λ (n : ℕ). if is_heard second c then now else n) (one.heard c) ∙ by_tests c (is_heard first c) (is_heard second c)
      ∙ sym (ap (λ (b : Bool). if b then now else heard_in old c) (list_any-append (is_sign_of c) first second));
}
  where
    by_tests : (c : ℕ) (a b : Bool) → (if b then now else (if a then now else heard_in old c)) ≡ (if (a || b) then now else heard_in old c)
    by_tests c true true = refl
    by_tests c true false = refl
    by_tests c false true = refl
    by_tests c false false = refl

-- what was heard counts for a value that has noted the same
pub listens_kept : (now : ℕ) (events : List Event) (old mid new : Silence) → Listens now events old mid → new.heard ≡ mid.heard → new.limit ≡ mid.limit → Listens now events old new
listens_kept now events old mid new listens heard limit = record {
  limit = limit ∙ listens.limit;
  heard = λ c. ap (λ v. get_or v.items c 0) heard ∙ listens.heard c;
}

-- Strangers and silent ones are those that may be late.
pub all_late : {S Application : Type 0} (l : Layer S Application Saved) (silent : ℕ → Bool) (server : ServerCore S) (strangers silent_ones others all : List ℕ)
    → All (λ c. is_stranger l server c ≡ true) strangers → All (λ c. silent c ≡ true) silent_ones → others ≡ silent_ones → all ≡ strangers ++ others
    → All (λ c. may_be_late l silent server c ≡ true) all
all_late l silent server strangers silent_ones others all are_strangers are_silent same is =
    All-same (λ c. may_be_late l silent server c ≡ true) all (strangers ++ silent_ones) (is ∙ ap (λ (xs : List ℕ). strangers ++ xs) same)
    (All-append (λ c. may_be_late l silent server c ≡ true) strangers silent_ones
    (All-weaker (λ c. is_stranger l server c ≡ true) (λ c. may_be_late l silent server c ≡ true) (λ c one. or_left (is_stranger l server c) (silent c) one) strangers are_strangers)
    (All-weaker (λ c. silent c ≡ true) (λ c. may_be_late l silent server c ≡ true) (λ c one. or_right (is_stranger l server c) (silent c) one) silent_ones are_silent))
