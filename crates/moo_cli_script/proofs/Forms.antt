-- What a line of none of the forms asks for.
use Rattle.std.proofs.Common.{◌≡◌, ℕ, ◌≤◌, Bool, true, false, List, ◌++◌, ◌⊎◌, inl, inr, codes, sym, ap, subst, ◌∙◌, append-nil, arith, Some, None, MatchOption}
use Rattle.std.specs.Prelude.{Option}
use Rattle.moo_cli_script.specs.ScriptLines.{Step, opening, typing, sending, hanging_up, moment, flushing, failing, reopening, crashing, showing, Asks, Argues, IsNumber, IsAddressed, IsHex, most_connection, most_moment, most_count}
use Rattle.moo_cli_script.specs.Kinds.{IsOfConnection}
use Rattle.moo_cli_script.proofs.Splits.{cancel_word, cancel_end}
use Rattle.moo_cli_script.proofs.OneStep.{one_address}

pub match_more : {A : Type 0} {N M : Type 0} {P Q : A → Type 0} (r : Option A) → (N → M) → ((x : A) → P x → Q x) → MatchOption r N P → MatchOption r M Q
match_more None f g h = f h
match_more (Some x) f g h = g x h

abbrev count : {A : Type 0} → Option A → ℕ
count None = 0
count (Some x) = 1

pub none_of : {A : Type 0} {N : Type 0} (P : A → Type 0) (r : Option A) → r ≡ None → MatchOption r N P → N
none_of P None e h = h
none_of P (Some x) e h = absurd (omega (arith, ap count e))

pub no_failure : (line argument digits : List ℕ) → line ≡ codes "fail " ++ argument → ((n : ℕ) → IsNumber most_count argument n → ¬ (1 ≤ n)) → argument ≡ digits ++ codes " done"
    → ((n : ℕ) → IsNumber most_count digits n → ¬ (1 ≤ n)) → (k : ℕ) (effect : Bool) (rest : List ℕ) → line ≡ codes "fail " ++ rest → ¬ Argues (failing k effect) rest
no_failure line argument digits e plain split done k false rest f a =
    let same : a.0 ≡ argument = sym (append-nil a.0) ∙ sym a.1 ∙ cancel_word line (codes "fail ") rest argument f e in
    plain k (subst (λ (l : List ℕ). IsNumber most_count l k) same a.2) a.3
no_failure line argument digits e plain split done k true rest f a =
    let same : a.0 ≡ digits = cancel_end a.0 digits (codes " done") (sym a.1 ∙ cancel_word line (codes "fail ") rest argument f e ∙ split) in
    done k (subst (λ (l : List ℕ). IsNumber most_count l k) same a.2) a.3

pub no_disk_line : (line : List ℕ) → (¬ (line ≡ codes "flush")) → (¬ (line ≡ codes "reopen")) → (¬ (line ≡ codes "show"))
    → ((rest : List ℕ) (n : ℕ) → line ≡ codes "moment " ++ rest → ¬ IsNumber most_moment rest n) → ((rest : List ℕ) (n : ℕ) → line ≡ codes "crash " ++ rest → ¬ IsNumber most_count rest n)
    → ((k : ℕ) (effect : Bool) (rest : List ℕ) → line ≡ codes "fail " ++ rest → ¬ Argues (failing k effect) rest) → (s : Step) → (¬ IsOfConnection s) → ¬ Asks line s
no_disk_line line flush reopen show moments crashes fails (opening c) other a = other tt
no_disk_line line flush reopen show moments crashes fails (typing c text) other a = other tt
no_disk_line line flush reopen show moments crashes fails (sending c bytes) other a = other tt
no_disk_line line flush reopen show moments crashes fails (hanging_up c) other a = other tt
no_disk_line line flush reopen show moments crashes fails (moment t) other a = moments a.0 t a.1 a.2
no_disk_line line flush reopen show moments crashes fails flushing other a = flush (a.1 ∙ ap (λ (r : List ℕ). codes "flush" ++ r) a.2)
no_disk_line line flush reopen show moments crashes fails (failing k effect) other a = fails k effect a.0 a.1 a.2
no_disk_line line flush reopen show moments crashes fails reopening other a = reopen (a.1 ∙ ap (λ (r : List ℕ). codes "reopen" ++ r) a.2)
no_disk_line line flush reopen show moments crashes fails (crashing i) other a = crashes a.0 i a.1 a.2
no_disk_line line flush reopen show moments crashes fails showing other a = show (a.1 ∙ ap (λ (r : List ℕ). codes "show" ++ r) a.2)

pub no_connection_line : (line : List ℕ) → ((rest : List ℕ) (n : ℕ) → line ≡ codes "open " ++ rest → ¬ IsNumber most_connection rest n)
    → ((rest : List ℕ) (n : ℕ) → line ≡ codes "hangup " ++ rest → ¬ IsNumber most_connection rest n)
    → ((rest : List ℕ) (c : ℕ) (text : List ℕ) → line ≡ codes "line " ++ rest → ¬ IsAddressed rest c text)
    → ((rest : List ℕ) (c : ℕ) (bytes : List ℕ) → line ≡ codes "bytes " ++ rest → ¬ Argues (sending c bytes) rest) → (s : Step) → IsOfConnection s → ¬ Asks line s
no_connection_line line opens hangs types sends (opening c) is a = opens a.0 c a.1 a.2
no_connection_line line opens hangs types sends (typing c text) is a = types a.0 c text a.1 a.2
no_connection_line line opens hangs types sends (sending c bytes) is a = sends a.0 c bytes a.1 a.2
no_connection_line line opens hangs types sends (hanging_up c) is a = hangs a.0 c a.1 a.2
no_connection_line line opens hangs types sends (moment t) is a = is
no_connection_line line opens hangs types sends flushing is a = is
no_connection_line line opens hangs types sends (failing k effect) is a = is
no_connection_line line opens hangs types sends reopening is a = is
no_connection_line line opens hangs types sends (crashing i) is a = is
no_connection_line line opens hangs types sends showing is a = is

-- digits that are of no bytes
pub no_bytes : {A : Type 0} (P : A → Type 0) (line argument : List ℕ) (c : ℕ) (digits : List ℕ) (read : Option A) → line ≡ codes "bytes " ++ argument → IsAddressed argument c digits
    → read ≡ None → MatchOption read ((bytes : List ℕ) → ¬ IsHex digits bytes) P → (rest : List ℕ) (d : ℕ) (bytes : List ℕ) → line ≡ codes "bytes " ++ rest → ¬ Argues (sending d bytes) rest
no_bytes P line argument c digits read e address none hex rest d bytes f a =
    let same = one_address (cancel_word line (codes "bytes ") rest argument f e) a.1 address in
    none_of P read none hex bytes (subst (λ (l : List ℕ). IsHex l bytes) same.1 a.2)

pub is_connection_or_not : (s : Step) → IsOfConnection s ⊎ (¬ IsOfConnection s)
is_connection_or_not (opening c) = inl tt
is_connection_or_not (typing c text) = inl tt
is_connection_or_not (sending c bytes) = inl tt
is_connection_or_not (hanging_up c) = inl tt
is_connection_or_not (moment t) = inr (λ h. h)
is_connection_or_not flushing = inr (λ h. h)
is_connection_or_not (failing k effect) = inr (λ h. h)
is_connection_or_not reopening = inr (λ h. h)
is_connection_or_not (crashing i) = inr (λ h. h)
is_connection_or_not showing = inr (λ h. h)

pub no_line : (line : List ℕ) → ((s : Step) → IsOfConnection s → ¬ Asks line s) → ((s : Step) → (¬ IsOfConnection s) → ¬ Asks line s) → (s : Step) → ¬ Asks line s
no_line line one other s a = elim (is_connection_or_not s) [
  | inl is ↦ one s is a
  | inr not ↦ other s not a
]
