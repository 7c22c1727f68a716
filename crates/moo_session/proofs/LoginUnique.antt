-- A login has one result under two tellings, where each task has.
use Rattle.std.proofs.Common.{◌≡◌, ℕ, List, Option, sym, ◌∙◌, ap}
use Rattle.std.specs.Prelude.{codes}
use Rattle.moo_value.specs.Tree.{Tree}
use Rattle.moo_builtin.specs.Telling.{Telling}
use Rattle.moo_eval_frame.specs.Surroundings.{own_number}
use Rattle.moo_session_task.specs.declared.world_state.WorldState.{WorldState}
use Rattle.moo_session_task.specs.State.{in_session}
use Rattle.moo_session_task.specs.WordList.{strings_of}
use Rattle.moo_session_task.specs.Laws.{AreAlike, IsWithin}
use Rattle.moo_session_task.proofs.Unique.{one_call, call_within}
use Rattle.moo_session.specs.Login.{LogsIn, let_in, highest_in, admitted}

pub one_login : (T U : Telling) → AreAlike T U → (moment n : ℕ) (words : List (List ℕ)) (line : List ℕ) (s s' t : WorldState) →
    LogsIn T moment n words line s s' → LogsIn U moment n words line s t → s' ≡ t
one_login T U law moment n words line s s' t r q =
    let same = one_call T U law moment (codes "do_login_command") (own_number n) (strings_of words) line s r.asked q.asked r.answer q.answer r.asks q.asks in
    let let_in_by : Option Tree → WorldState → WorldState = λ answer asked. in_session (let_in n moment (highest_in s.world) (admitted asked n answer)) asked in
    sym r.leaves ∙ ap (λ (a : Option Tree). let_in_by a r.asked) same.answer ∙ ap (λ (x : WorldState). let_in_by q.answer x) same.live ∙ q.leaves

pub login_within : (T U : Telling) → IsWithin T U → (moment n : ℕ) (words : List (List ℕ)) (line : List ℕ) (s s' : WorldState) →
    LogsIn T moment n words line s s' → LogsIn U moment n words line s s'
login_within T U law moment n words line s s' r = record {
  answer = r.answer;
  asked = r.asked;
  asks = call_within T U law moment (codes "do_login_command") (own_number n) (strings_of words) line s r.asked r.answer r.asks;
  leaves = r.leaves;
}
