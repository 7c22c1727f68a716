-- The steps of the program are those of the meaning.
use Rattle.std.proofs.Common.{◌≡◌, ℕ, ℤ, List, [], Option, None, sym, ◌∙◌, ap, subst, arith}
use Rattle.std.specs.Prelude.{Result, Ok, Err, OnOk, codes}
use Rattle.std.specs.declared.alloc.AllocError.{AllocError}
use Rattle.moo_value.specs.Tree.{Tree}
use Rattle.moo_world_table.specs.World.{World}
use Rattle.moo_builtin.specs.Telling.{Faults}
use Rattle.moo_session_task.specs.WordList.{FitsAList}
use Rattle.moo_session_task.proofs.Depths.{light_words_fit}
use Rattle.moo_session_connection.specs.Connections.{Connections, client_here}
use Rattle.moo_session_connection.specs.Changes.{joined, HasHeard}
use Rattle.moo_session_task.specs.declared.world_state.WorldState.{WorldState}
use Rattle.moo_session_task.specs.Session.{Session, no_session, in_connections}
use Rattle.moo_session_task.specs.State.{state}
use Rattle.moo_session_task.specs.Frames.{nobody}
use Rattle.moo_session_task.specs.Tasks.{CallsServerVerb}
use Rattle.moo_session_task.specs.Hooks.{HooksRun}
use Rattle.moo_session.specs.Login.{LogsIn}
use Rattle.moo_session.specs.Input.{MeetsLines}
use Rattle.moo_session.specs.Events.{OpensConnection, Hears, dropped, heard, HangsUp, hung_up, CallsOwnHook, Starts, all_parted}

pub no_words_fit : (words : List (List ℕ)) → words ≡ [] → FitsAList words
no_words_fit words e = subst (λ (ws : List (List ℕ)). FitsAList ws) (sym e) (light_words_fit [] (omega arith))

-- a connection has joined, who it may be was asked, and the hooks have run
pub opened : (r : Result (Unit {0}) AllocError) (moment n : ℕ) (s : WorldState) (p : Session) (words : List (List ℕ)) (line : List ℕ) (greeted u : WorldState) → p ≡ in_connections (joined n moment) s.session →
    words ≡ [] → line ≡ [] → LogsIn Faults moment n words line (state s.world p) greeted → OnOk r (HooksRun Faults moment greeted u) → OnOk r (OpensConnection Faults moment n s u)
opened (Ok v) moment n s p words line greeted u e f g d h =
    let silent : LogsIn Faults moment n [] line (state s.world p) greeted = subst (λ (x : List (List ℕ)). LogsIn Faults moment n x line (state s.world p) greeted) f d in
    let empty : LogsIn Faults moment n [] [] (state s.world p) greeted = subst (λ (x : List ℕ). LogsIn Faults moment n [] x (state s.world p) greeted) g silent in
    record { greeted = greeted; logs_in = subst (λ (x : Session). LogsIn Faults moment n [] [] (state s.world x) greeted) e empty; hooks = h }
opened (Err short) moment n s p words line greeted u e f g d h = tt

-- the connections that were lent are changed
pub changed_so : (s : Session) (held after : Connections) (f : Connections → Connections) → held ≡ s.connections → after ≡ f held → in_connections (λ _. after) s ≡ in_connections f s
changed_so s held after f e h = ap (λ (x : Connections). in_connections (λ _. x) s) (h ∙ ap f e)

-- a piece was heard, and its lines were met
pub lines_met : (r : Result (Unit {0}) AllocError) (moment n : ℕ) (piece : List ℕ) (s : WorldState) (held after : Connections) (lines : List (List ℕ)) (u : WorldState) →
    held ≡ s.session.connections → HasHeard n moment piece held lines after →
    OnOk r (MeetsLines Faults moment n lines (state s.world (in_connections (λ _. after) s.session)) u) → OnOk r (Hears Faults moment n piece s u)
lines_met (Ok v) moment n piece s held after lines u e h d = heard (subst (λ (x : Connections). HasHeard n moment piece x lines after) e h) d
lines_met (Err short) moment n piece s held after lines u e h d = tt

-- nobody is among the connections that were lent
pub nobody_held : (n : ℕ) (s : Session) (held : Connections) → held ≡ s.connections → client_here n s.connections ≡ None → client_here n held ≡ None
nobody_held n s held e f = ap (λ (x : Connections). client_here n x) e ∙ f

-- nobody was there to hear
pub nobody_heard : (moment n : ℕ) (piece : List ℕ) (s : WorldState) (held after : Connections) → held ≡ s.session.connections → client_here n held ≡ None → after ≡ held →
    Hears Faults moment n piece s (state s.world (in_connections (λ _. after) s.session))
nobody_heard moment n piece s held after e f g =
    let here : client_here n s.session.connections ≡ None = ap (λ (x : Connections). client_here n x) (sym e) ∙ f in
    subst (λ (x : Connections). Hears Faults moment n piece s (state s.world (in_connections (λ _. x) s.session))) (sym (g ∙ e)) (dropped here)

-- who was heard is here
pub somebody_heard : (moment n : ℕ) (piece : List ℕ) (s after : Connections) (lines : List (List ℕ)) → HasHeard n moment piece s lines after → client_here n s ≡ None → ⊥
somebody_heard moment n piece s after lines h e = let f = h.is_here in cc

-- an answer is no refusal
pub not_refused : {A : Type 0} (r : Result (Option A) AllocError) (short : AllocError) → r ≡ Ok None → r ≡ Err short → ⊥
not_refused r short e f = cc

-- a connection has gone, and the hooks have run
pub parted : (r : Result (Unit {0}) AllocError) (moment n : ℕ) (s : WorldState) (p : Session) (u : WorldState) → p ≡ hung_up n s.session → OnOk r (HooksRun Faults moment (state s.world p) u) → OnOk r (HangsUp Faults moment n s u)
parted (Ok v) moment n s p u e h = subst (λ (x : Session). HooksRun Faults moment (state s.world x) u) e h
parted (Err short) moment n s p u e h = tt

-- a hook of the server's own was called, and the hooks have run
pub own_called : (r : Result (Unit {0}) AllocError) (moment : ℕ) (name : List ℕ) (player : ℤ) (args : List Tree) (argstr : List ℕ) (s t u : WorldState) (answer : Option Tree) → player ≡ nobody → argstr ≡ [] →
    CallsServerVerb Faults moment name player args argstr s answer t → OnOk r (HooksRun Faults moment t u) → OnOk r (CallsOwnHook Faults moment name args s u)
own_called (Ok v) moment name player args argstr s t u answer e f call h =
    let alone : CallsServerVerb Faults moment name nobody args argstr s answer t = subst (λ (x : ℤ). CallsServerVerb Faults moment name x args argstr s answer t) e call in
    record { answer = answer; called = t; calls = subst (λ (x : List ℕ). CallsServerVerb Faults moment name nobody args x s answer t) f alone; hooks = h }
own_called (Err short) moment name player args argstr s t u answer e f call h = tt

-- with these arguments
pub called_with : (r : Result (Unit {0}) AllocError) (moment : ℕ) (name : List ℕ) (args others : List Tree) (s u : WorldState) → args ≡ others → OnOk r (CallsOwnHook Faults moment name args s u) → OnOk r (CallsOwnHook Faults moment name others s u)
called_with r moment name args others s u e h = subst (λ (x : List Tree). OnOk r (CallsOwnHook Faults moment name x s u)) e h

-- those who were connected have parted, and the start was told
pub started : (moment : ℕ) (players : List ℤ) (w : World) (p : Session) (t u : WorldState) (args : List Tree) → p ≡ all_parted players no_session → HooksRun Faults moment (state w p) t →
    args ≡ [] → CallsOwnHook Faults moment (codes "server_started") args t u → Starts Faults moment players w u
started moment players w p t u args e h f d = record {
  parted = t;
  hooks = subst (λ (x : Session). HooksRun Faults moment (state w x) t) e h;
  starts = subst (λ (x : List Tree). CallsOwnHook Faults moment (codes "server_started") x t u) f d;
}
