-- A list that is assigned to literals. Nothing is set.
use Rattle.std.proofs.Common.{◌≡◌, ℕ, suc, ◌+◌, List, [], ◌∷◌, true, false, ◌&&◌, nat_le, Ok, Err, length, refl, sym, ap, subst, ◌∙◌, arith}
use Rattle.std.proofs.lemmas.Bool.Decides.{nat_tests}
use Rattle.moo_value.specs.declared.error_code.ErrorCode.TheVariants.{TypeMismatch, Arguments}
use Rattle.moo_value.specs.Tree.{Tree, Elements, integer, object, error, string, list, no_elements, element, elements_of, trees_of, list_of}
use Rattle.moo_value.specs.TreeCode.{trees_of-elements_of}
use Rattle.moo_syntax_node.specs.Spelling.{spelled, spelled_items}
use Rattle.moo_builtin.specs.Telling.{Telling}
use Rattle.moo_eval_control.specs.Scatter.{required, optionals, takes_rest, fits, dealt, binds, shares, lacking}
use Rattle.moo_eval_control.proofs.Scattered.{dealt_list}
use Rattle.moo_eval_frame.specs.Outcome.{answers, fails}
use Rattle.moo_eval_frame.specs.State.{Context}
use Rattle.moo_eval_access.specs.State.{State, bound}
use Rattle.moo_eval_access.specs.Target.{scattered}
use Rattle.moo_eval_semantics.specs.Meaning.{Puts, SetsDefaults, scatter_fails, scatters, none_missing}

all_required : (es : Elements) → required (spelled_items es) ≡ length (trees_of es)
all_required no_elements = refl
all_required (element t es) = ap suc (all_required es)

none_optional : (es : Elements) → optionals (spelled_items es) ≡ 0
none_optional no_elements = refl
none_optional (element t es) = none_optional es

none_takes_rest : (es : Elements) → takes_rest (spelled_items es) ≡ false
none_takes_rest no_elements = refl
none_takes_rest (element t es) = none_takes_rest es

literals_fit : (es : Elements) (n : ℕ) → fits (spelled_items es) n ≡ (nat_le (length (trees_of es)) n && nat_le n (length (trees_of es) + 0))
literals_fit es n = rw (all_required es, none_optional es, none_takes_rest es) refl

same_number : (m n : ℕ) → m ≡ n → (nat_le m n && nat_le n (m + 0)) ≡ true
same_number m n h = grind (arith, nat_tests)

other_number : (m n : ℕ) → (m ≡ n → ⊥) → (nat_le m n && nat_le n (m + 0)) ≡ false
other_number m n h = grind (arith, nat_tests)

binds_none : (t v : Tree) → binds (spelled t) v ≡ []
binds_none (integer n) v = refl
binds_none (object n) v = refl
binds_none (error e) v = refl
binds_none (string s) v = refl
binds_none (list es) v = refl

shares_none : (es : Elements) (spare rest : ℕ) (vs : List Tree) → shares (spelled_items es) spare rest vs ≡ []
shares_none no_elements spare rest vs = refl
shares_none (element t es) spare rest [] = shares_none es spare rest []
shares_none (element t es) spare rest (v ∷ vs) = rw (binds_none t v) (shares_none es spare rest vs)

lacking_none : (es : Elements) (spare : ℕ) → lacking (spelled_items es) spare ≡ []
lacking_none no_elements spare = refl
lacking_none (element t es) spare = lacking_none es spare

-- as many values as literals
pub literals_dealt : {T : Telling} {c : Context} {s : State} (ts vs : List Tree) → length ts ≡ length vs → Puts T c (scattered (spelled_items (elements_of ts))) (list_of vs) s (Ok tt) s
literals_dealt {T} {c} {s} ts vs h =
    let es = elements_of ts in
    let number : length (trees_of es) ≡ length vs = ap length (trees_of-elements_of ts) ∙ h in
    scatters
    (ap answers (dealt_list (spelled_items es) vs true (sym (literals_fit es (length vs) ∙ same_number (length (trees_of es)) (length vs) number))))
    (ap (λ bs. bound bs s) (shares_none es _ _ vs))
    (subst (λ ds. SetsDefaults T c ds s (Ok tt) s) (sym (lacking_none es _)) none_missing)

-- any other number
pub literals_refused : {T : Telling} {c : Context} {s : State} (ts vs : List Tree) → (length ts ≡ length vs → ⊥) → Puts T c (scattered (spelled_items (elements_of ts))) (list_of vs) s (Err (fails Arguments)) s
literals_refused ts vs h =
    let es = elements_of ts in
    scatter_fails (ap answers (dealt_list (spelled_items es) vs false (sym (literals_fit es (length vs) ∙ other_number (length (trees_of es)) (length vs) (λ e. h (ap length (sym (trees_of-elements_of ts)) ∙ e))))))
