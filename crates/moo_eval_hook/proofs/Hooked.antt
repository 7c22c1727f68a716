-- What the call of a verb by a function comes to.
use Rattle.std.proofs.Common.{◌≡◌, ℕ, ℤ, pos, negsuc, List, ◌∷◌, Bool, true, false, Option, None, Some, is_some, if◌then◌else◌, Result, Ok, Err, refl, sym, ap, ◌∙◌}
use Rattle.std.specs.Option.{option_map, option_and_then}
use Rattle.moo_value.specs.declared.error_code.ErrorCode.TheVariants.{InvalidIndirection, VerbNotFound, MaximumRecursion}
use Rattle.moo_value.specs.Tree.{Tree}
use Rattle.moo_world_object.specs.Objects.{Object}
use Rattle.moo_world_object.specs.declared.verb.Verb.{Verb}
use Rattle.moo_world_object.specs.declared.verb.Need.TheVariants as need
use Rattle.moo_world_table.specs.World.{World, object_of}
use Rattle.moo_world_table.specs.Verbs.{verb_found}
use Rattle.moo_world.specs.VerbCalls.{verb_place, verb_there}
use Rattle.moo_world.specs.Numbered.{object_numbered}
use Rattle.moo_eval_frame.specs.declared.frame.TraceFrame.{TraceFrame}
use Rattle.moo_eval_frame.specs.declared.frame.TraceEntry.{TraceEntry}
use Rattle.moo_eval_frame.specs.declared.frame.TraceEntry.TheVariants.{Verb as of_verb}
use Rattle.moo_eval_frame.specs.State.{trace_frame}
use Rattle.moo_eval_frame.specs.Outcome.{Failure, fails, answers, or_error}
use Rattle.moo_eval_access.specs.Entering.{Entered, called_verb, found_verb, has_frame_left, player_of_call, called_frame, entered, entered_found}
use Rattle.moo_eval_semantics.specs.declared.stage.Stage.{Stage}
use Rattle.moo_eval_semantics.specs.Progressing.{Calling, done, verb_next, stage_next, through, hooked, hook}
use Rattle.moo_eval_hook.specs.SeenByHooks.{arguments_of}

-- an object on which a verb is found is valid
there : (w : World) (n : ℕ) (name : List ℕ) (found : ℤ × Verb) (x : Option Object) → object_of w.objects n ≡ x → called_verb w (pos n) name ≡ Some found → is_some (object_numbered w (pos n)) ≡ true
there w n name found None e h =
    let none : called_verb w (pos n) name ≡ None = ap (λ y. option_and_then (verb_there w) (option_map verb_place (option_and_then (verb_found w need.Call name) (if is_some y then Some n else None)))) e in
    let not : None ≡ Some found = sym none ∙ h in
    absurd cc
there w n name found (Some x) e h = ap (λ y. is_some (option_and_then (object_of w.objects) (if is_some y then Some n else None))) e ∙ ap (λ y. is_some y) e

is_valid : (w : World) (o : ℤ) (name : List ℕ) (found : ℤ × Verb) → called_verb w o name ≡ Some found → is_some (object_numbered w o) ≡ true
is_valid w (pos n) name found h = there w n name found (object_of w.objects n) refl h
is_valid w (negsuc n) name found h = absurd cc

-- the verb that is looked for is the one that a call of its name finds
pub found_so : (w : World) (o : ℤ) (name : List ℕ) (found : ℤ × Verb) → called_verb w o name ≡ Some found → found_verb w o name ≡ Ok found
found_so w o name found h =
    ap (λ b. if b then or_error (called_verb w o name) VerbNotFound else Err InvalidIndirection) (is_valid w o name found h)
    ∙ ap (λ x. or_error x VerbNotFound) h

-- what is entered if a frame is left
is_entered : (b : Bool) (x e : Entered) → answers (if b then Ok x else Err MaximumRecursion) ≡ Ok e → x ≡ e
is_entered true x e h = cc
is_entered false x e h = absurd cc

-- without a frame left the function fails
fails_so : (function : List ℕ) (stage : Stage) (b : Bool) (x : Entered) (failure : Failure) → answers (if b then Ok x else Err MaximumRecursion) ≡ Err failure → hooked function stage (Err failure) ≡ done (Err failure)
fails_so function stage true x failure h = absurd cc
fails_so function stage false x failure h =
    let same : fails MaximumRecursion ≡ failure = cc in
    ap (λ f. hooked function stage (Err f)) (sym same) ∙ ap (λ f. done (Err f)) same

-- The arguments of a function's call of a verb make a list.
module _ (k : Calling) (w : World) (function : List ℕ) (o : ℤ) (name : List ℕ) (stage : Stage) where
  once_found : (what : Option ℤ) (found : ℤ × Verb) (r : Result Entered Failure) → found_verb w o name ≡ Ok found → answers (entered_found w k.context k.variables k.programmer o name (arguments_of what) (Ok found)) ≡ r → hook k w function o name (arguments_of what) stage ≡ hooked function stage r
  unfolding hook
  once_found None found r there gives = ap (λ x. hooked function stage (answers (entered_found w k.context k.variables k.programmer o name (arguments_of None) x))) there ∙ ap (hooked function stage) gives
  once_found (Some x) found r there gives = ap (λ y. hooked function stage (answers (entered_found w k.context k.variables k.programmer o name (arguments_of (Some x)) y))) there ∙ ap (hooked function stage) gives

  abbrev enters : Option ℤ → ℤ × Verb → Entered
  enters what found = entered k.context k.variables k.programmer (arguments_of what) (called_frame found o (player_of_call w k.context.frame k.variables k.programmer) name)

  pub entered_by : (what : Option ℤ) (found : ℤ × Verb) (e h : Entered) → found_verb w o name ≡ Ok found → answers (entered_found w k.context k.variables k.programmer o name (arguments_of what) (Ok found)) ≡ Ok e →
      ((f : TraceFrame) (rest : List TraceEntry) → e.context.callers ≡ of_verb f ∷ rest → h ≡ through function e) → hook k w function o name (arguments_of what) stage ≡ verb_next h stage
  entered_by what found e h there gives above =
      let called = ap (λ y. y.context.callers) (sym (is_entered (has_frame_left k.context.callers) (enters what found) e gives)) in
      once_found what found (Ok e) there gives ∙ ap (λ x. verb_next x stage) (sym (above (trace_frame k.context.frame k.programmer) k.context.callers called))

  pub refused_by : (what : Option ℤ) (found : ℤ × Verb) (failure : Failure) → found_verb w o name ≡ Ok found → answers (entered_found w k.context k.variables k.programmer o name (arguments_of what) (Ok found)) ≡ Err failure →
      hook k w function o name (arguments_of what) stage ≡ done (Err failure)
  refused_by what found failure there gives = once_found what found (Err failure) there gives ∙ fails_so function stage (has_frame_left k.context.callers) (enters what found) failure gives

-- no verb that was looked for, or no object to look for it on
passed : {A : Type 0} (k : Calling) (w : World) (function : List ℕ) (o : ℤ) (name : List ℕ) (vs : List Tree) (stage : Stage) (there : Option A) (found : Option (ℤ × Verb)) → found ≡ None →
    hooked function stage (answers (entered_found w k.context k.variables k.programmer o name vs (if is_some there then or_error found VerbNotFound else Err InvalidIndirection))) ≡ stage_next stage
passed k w function o name vs stage None found e = refl
passed k w function o name vs stage (Some x) None e = refl
passed k w function o name vs stage (Some x) (Some f) e = absurd cc

-- a verb that is missing is passed over
pub passed_over : (k : Calling) (w : World) (function : List ℕ) (o : ℤ) (name : List ℕ) (what : Option ℤ) (stage : Stage) → called_verb w o name ≡ None → hook k w function o name (arguments_of what) stage ≡ stage_next stage
unfolding hook
passed_over k w function o name None stage e = passed k w function o name (arguments_of None) stage (object_numbered w o) (called_verb w o name) e
passed_over k w function o name (Some x) stage e = passed k w function o name (arguments_of (Some x)) stage (object_numbered w o) (called_verb w o name) e
