-- A command has one result under two tellings, where each task has, and stays a result where more may be told.
use Rattle.std.proofs.Common.{◌≡◌, ℕ, ℤ, List, Option, refl, sym, ◌∙◌, ap, subst}
use Rattle.std.specs.Prelude.{codes}
use Rattle.std.specs.Option.{unwrap_or}
use Rattle.moo_value.specs.Tree.{Tree}
use Rattle.moo_world_object.specs.declared.verb.Verb.{Verb}
use Rattle.moo_builtin.specs.Telling.{Telling}
use Rattle.moo_session_connection.specs.declared.client.Client.{Client}
use Rattle.moo_session_task.specs.declared.world_state.WorldState.{WorldState}
use Rattle.moo_session_task.specs.State.{in_session}
use Rattle.moo_session_task.specs.WordList.{strings_of}
use Rattle.moo_command.specs.Commands.{Command, OneCommand}
use Rattle.moo_session_task.specs.Laws.{AreAlike, IsWithin}
use Rattle.moo_session_task.specs.Tasks.{RunsTask}
use Rattle.moo_session_task.proofs.Unique.{one_task, one_call, task_within, call_within}
use Rattle.moo_session.specs.Frames.{command_frame}
use Rattle.moo_session.specs.Dispatch.{RunsVerb, runs, nothing_runs, FollowsDoCommand, is_done, goes_on, Commanded, sent_unless_empty}

one_verb : (T U : Telling) → AreAlike T U → (moment n : ℕ) (player : ℤ) (c : Command) (s s' t : WorldState) → RunsVerb T moment n player c s s' → RunsVerb U moment n player c s t → s' ≡ t
one_verb T U law moment n player c s s' t (runs {this = this} {found = found} {v = v} e r) (runs {this = other} {found = instead} {v = w} f q) =
    let pair : (other, instead) ≡ (this, found) = ap (λ (o : Option (ℤ × (ℤ × Verb))). unwrap_or o (this, found)) (sym f ∙ e) in
    let same_this : other ≡ this = ap (λ (x : ℤ × (ℤ × Verb)). x.0) pair in
    let same_found : instead ≡ found = ap (λ (x : ℤ × (ℤ × Verb)). x.1) pair in
    let along : ℤ → ℤ × Verb → Type 0 = λ x y. RunsTask U moment (command_frame y x player c) s w t in
    let moved : along this found = subst (λ (x : ℤ). along x found) same_this (subst (λ (y : ℤ × Verb). along other y) same_found q) in
    (one_task T U law moment (command_frame found this player c) s s' t v w r moved).live
one_verb T U law moment n player c s s' t (runs e r) (nothing_runs f) = cc
one_verb T U law moment n player c s s' t (nothing_runs e) (runs f q) = cc
one_verb T U law moment n player c s s' t (nothing_runs e) (nothing_runs f) = refl

one_following : (T U : Telling) → AreAlike T U → OneCommand → (moment n : ℕ) (player : ℤ) (line : List ℕ) (answer : Option Tree) (s s' t : WorldState) →
    FollowsDoCommand T moment n player line answer s s' → FollowsDoCommand U moment n player line answer s t → s' ≡ t
one_following T U law one moment n player line answer s s' t (is_done e) (is_done f) = refl
one_following T U law one moment n player line answer s s' t (is_done e) (goes_on f d h) = cc
one_following T U law one moment n player line answer s s' t (goes_on e d h) (is_done f) = cc
one_following T U law one moment n player line answer s s' t (goes_on {c = c} e d h) (goes_on {c = other} f d' h') =
    let same : other ≡ c = one s.world player line other c d' d in
    one_verb T U law moment n player c s s' t h (subst (λ (x : Command). RunsVerb U moment n player x s t) same h')

pub one_command_done : (T U : Telling) → AreAlike T U → OneCommand → (moment n : ℕ) (client : Client) (player : ℤ) (words : List (List ℕ)) (line : List ℕ) (s s' t : WorldState) →
    Commanded T moment n client player words line s s' → Commanded U moment n client player words line s t → s' ≡ t
one_command_done T U law one moment n client player words line s s' t r q =
    let same = one_call T U law moment (codes "do_command") player (strings_of words) line (in_session (sent_unless_empty n client.prefix) s) r.asked q.asked r.answer q.answer r.asks q.asks in
    let other : FollowsDoCommand U moment n player line r.answer r.asked q.done =
    subst (λ (a : Option Tree). FollowsDoCommand U moment n player line a r.asked q.done) (sym same.answer)
    (subst (λ (x : WorldState). FollowsDoCommand U moment n player line q.answer x q.done) (sym same.live) q.follows) in
    let done : r.done ≡ q.done = one_following T U law one moment n player line r.answer r.asked r.done q.done r.follows other in
    sym r.leaves ∙ ap (λ (x : WorldState). in_session (sent_unless_empty n client.suffix) x) done ∙ q.leaves

verb_within : (T U : Telling) → IsWithin T U → (moment n : ℕ) (player : ℤ) (c : Command) (s s' : WorldState) → RunsVerb T moment n player c s s' → RunsVerb U moment n player c s s'
verb_within T U law moment n player c s s' (runs {this = this} {found = found} {v = v} e r) = runs e (task_within T U law moment (command_frame found this player c) s s' v r)
verb_within T U law moment n player c s s' (nothing_runs e) = nothing_runs e

following_within : (T U : Telling) → IsWithin T U → (moment n : ℕ) (player : ℤ) (line : List ℕ) (answer : Option Tree) (s s' : WorldState) →
    FollowsDoCommand T moment n player line answer s s' → FollowsDoCommand U moment n player line answer s s'
following_within T U law moment n player line answer s s' (is_done e) = is_done e
following_within T U law moment n player line answer s s' (goes_on {c = c} e d h) = goes_on e d (verb_within T U law moment n player c s s' h)

pub command_within : (T U : Telling) → IsWithin T U → (moment n : ℕ) (client : Client) (player : ℤ) (words : List (List ℕ)) (line : List ℕ) (s s' : WorldState) →
    Commanded T moment n client player words line s s' → Commanded U moment n client player words line s s'
command_within T U law moment n client player words line s s' r = record {
  answer = r.answer;
  asked = r.asked;
  done = r.done;
  asks = call_within T U law moment (codes "do_command") player (strings_of words) line (in_session (sent_unless_empty n client.prefix) s) r.asked r.answer r.asks;
  follows = following_within T U law moment n player line r.answer r.asked r.done r.follows;
  leaves = r.leaves;
}
