-- What an entered verb begins with, step by step.
use Rattle.std.proofs.Common.{◌≡◌, ℕ, ℤ, List, Option, None, Result, Ok, Err, true, if◌then◌else◌, sym, ap, ◌∙◌}
use Rattle.moo_value.specs.declared.error_code.ErrorCode.{ErrorCode}
use Rattle.moo_value.specs.declared.error_code.ErrorCode.TheVariants.{MaximumRecursion}
use Rattle.moo_value.specs.Tree.{Tree}
use Rattle.moo_builtin_operator.specs.Places.{made_list}
use Rattle.moo_world_object.specs.declared.verb.Verb.{Verb}
use Rattle.moo_world_table.specs.World.{World}
use Rattle.moo_eval_frame.specs.State.{Context, entries}
use Rattle.moo_eval_frame.specs.Variables.{called_variables}
use Rattle.moo_eval_frame.specs.Outcome.{Failure, answers}
use Rattle.moo_eval_frame.specs.declared.frame.Running.{Running}
use Rattle.moo_eval_frame.specs.declared.frame.TraceEntry.{TraceEntry}
use Rattle.moo_eval_access.specs.Entering.{Entered, has_frame_left, player_of_call, called_frame, entered, entered_found, after_list}

-- the entered verb of a running frame that has these callers and these variables
abbrev entered_so : Context → Running → List TraceEntry → (List ℕ → Option Tree) → Entered
entered_so c f callers variables = record {
  context = record { frame = f; callers = callers; indexed = None; surroundings = c.surroundings };
  variables = variables;
  programmer = f.programmer;
}

-- A verb that is found is entered if a frame is left for it.
pub enters : (w : World) (c : Context) (vars : List ℕ → Option Tree) (p this : ℤ) (name : List ℕ) (vs : List Tree) (found : ℤ × Verb) {other player caller : ℤ} {f : Running} {callers : List TraceEntry} {variables : List ℕ → Option Tree} →
    has_frame_left c.callers ≡ true → other ≡ this → player ≡ player_of_call w c.frame vars p → caller ≡ c.frame.this →
    f ≡ called_frame found other player name → variables ≡ called_variables f caller vs vars → callers ≡ entries c.frame p c.callers →
    answers (entered_found w c vars p this name vs (Ok found)) ≡ Ok (entered_so c f callers variables)
enters w c vars p this name vs found {other} {player} {caller} {f} {callers} {variables} left one whose above framed handed calling =
    let framed' = framed ∙ ap (λ o. called_frame found o player name) one ∙ ap (λ x. called_frame found this x name) whose in
    let handed' = handed ∙ ap (λ o. called_variables f o vs vars) above in
    ap (λ b. answers (if b then Ok (entered c vars p vs (called_frame found this (player_of_call w c.frame vars p) name)) else Err MaximumRecursion)) left
    ∙ ap Ok (sym (ap (λ x. entered_so c f x variables) calling ∙ ap (entered_so c f (entries c.frame p c.callers)) handed' ∙ ap (entered c vars p vs) framed'))

-- The list of the arguments comes first.
pub listed : {A : Type 0} (vs args : List Tree) {whole : Tree} (f : List Tree → Result A ErrorCode) (r : Result A Failure) →
    made_list vs ≡ Ok whole → args ≡ vs → answers (f args) ≡ r → answers (after_list (made_list vs) (f vs)) ≡ r
listed vs args f r made same gives =
    ap (λ m. answers (after_list m (f vs))) made
    ∙ ap (λ xs. answers (f xs)) (sym same)
    ∙ gives
