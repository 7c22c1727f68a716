-- The steps of the program are those of the meaning.
use Rattle.std.proofs.Common.{◌≡◌, ℕ, ℤ, List, Option, sym, ◌∙◌, ap}
use Rattle.std.specs.Prelude.{Result, Ok, Err, OnOk, codes}
use Rattle.std.specs.declared.alloc.AllocError.{AllocError}
use Rattle.moo_value.specs.Tree.{Tree}
use Rattle.moo_builtin.specs.Telling.{Faults}
use Rattle.moo_eval_frame.specs.Surroundings.{own_number}
use Rattle.moo_session_task.specs.declared.world_state.WorldState.{WorldState}
use Rattle.moo_session_task.specs.State.{in_session}
use Rattle.moo_session_task.specs.WordList.{strings_of}
use Rattle.moo_session_task.specs.Tasks.{CallsServerVerb}
use Rattle.moo_session.specs.Login.{LogsIn, let_in, highest_in, admitted}

-- `do_login_command` has answered, and whom it admits was let in
pub logged_in : (r : Result (Unit {0}) AllocError) (moment n : ℕ) (words : List (List ℕ)) (line : List ℕ) (s t u : WorldState) (answer : Option Tree) (highest : ℤ) (who : Option ℤ) →
    CallsServerVerb Faults moment (codes "do_login_command") (own_number n) (strings_of words) line s answer t → highest ≡ highest_in s.world → who ≡ admitted t n answer →
    OnOk r (u ≡ in_session (let_in n moment highest who) t) → OnOk r (LogsIn Faults moment n words line s u)
logged_in (Ok v) moment n words line s t u answer highest who call h a e = record {
  answer = answer;
  asked = t;
  asks = call;
  leaves = sym (e ∙ ap (λ (x : ℤ). in_session (let_in n moment x who) t) h ∙ ap (λ (x : Option ℤ). in_session (let_in n moment (highest_in s.world) x) t) a);
}
logged_in (Err short) moment n words line s t u answer highest who call h a e = tt
