-- A verb or a program that is entered has a frame left for it.
use Rattle.std.proofs.Common.{◌≡◌, ℕ, ℤ, ◌<◌, ◌≤◌, Bool, true, false, cond, List, ◌∷◌, [], Option, Some, None, Result, Ok, Err, if◌then◌else◌, refl, sym, ap, subst, arith}
use Rattle.std.specs.Prelude.{negsuc, not}
use Rattle.std.specs.Ordering.{int_eq}
use Rattle.std.proofs.lemmas.Bool.Decides.{nat_tests}
use Rattle.std.proofs.lemmas.List.Sums.{sum_by-cons}
use Rattle.moo_value.specs.declared.error_code.ErrorCode.{ErrorCode}
use Rattle.moo_value.specs.Tree.{Tree, object, string}
use Rattle.moo_builtin_operator.specs.Places.{made_list}
use Rattle.moo_builtin_operator.specs.Truth.{is_true}
use Rattle.moo_world_object.specs.declared.verb.Verb.{Verb}
use Rattle.moo_world_table.specs.World.{World}
use Rattle.moo_world.specs.Calls.{number_of, place_of, create_raises, move_raises}
use Rattle.moo_world.specs.RecycleCalls.{recycle_raises}
use Rattle.moo_world.specs.Rights.{controls, may_own}
use Rattle.moo_syntax_ast.specs.Tree.{Block}
use Rattle.moo_syntax_function.specs.declared.function.Function.{Function}
use Rattle.moo_syntax_function.specs.declared.function.Function.TheVariants as function
use Rattle.moo_eval_frame.specs.declared.frame.TraceFrame.{TraceFrame}
use Rattle.moo_eval_frame.specs.declared.frame.TraceEntry.{TraceEntry}
use Rattle.moo_eval_frame.specs.declared.frame.TraceEntry.TheVariants as entry
use Rattle.moo_eval_frame.specs.Outcome.{Failure, fails, stops, answers}
use Rattle.moo_eval_frame.specs.State.{Context, trace_frame}
use Rattle.moo_eval_access.specs.State.{State}
use Rattle.moo_eval_frame.specs.Frames.{is_frame}
use Rattle.moo_eval_access.specs.Entering.{Entered, frames, most_frames, has_frame_left, found_verb, entered_found, entered_by, entered_verb, entered_from, after_list}
use Rattle.moo_builtin.specs.Telling.{Telling}
use Rattle.moo_eval_semantics.specs.declared.stage.Stage.{Stage}
use Rattle.moo_eval_semantics.specs.declared.stage.Stage.TheVariants as stage
use Rattle.moo_eval_semantics.specs.Progressing.{Calling, calling, Progress, done, verb_next, stage_next, refuses, after_raise, is_missing, hooked, hook}
use Rattle.moo_eval_semantics.specs.Passing.{passing, run_by}
use Rattle.moo_eval_semantics.specs.Objects.{is_place, first_inside}
use Rattle.moo_eval_semantics.specs.Moving.{is_to_move, moved, moving, may_enter, accepted, has_come, after_leaving}
use Rattle.moo_eval_semantics.specs.Creating.{may_be_parent, creating}
use Rattle.moo_eval_semantics.specs.Quota.{quota, is_used_up}
use Rattle.moo_eval_semantics.specs.Recycling.{taken_away, moved_out, recycling, emptied}
use Rattle.moo_eval_semantics.specs.Evaluating.{EvaluatesText, forbidden, faulty, parsed, EvalBegins, program_next}
use Rattle.moo_eval_semantics.specs.Stages.{next_progress, resumed}
use Rattle.moo_eval_semantics.specs.VerbCalls.{move_begins, create_begins, recycle_begins, first_progress, Begins, Starts, refused, starts}

-- its own frame is among at most 50
abbrev HasRoom : Entered → Type 0
HasRoom e = frames e.context.callers ≤ most_frames

abbrev RoomIn : {E : Type 0} → Result Entered E → Type 0
RoomIn (Ok e) = HasRoom e
RoomIn (Err x) = Unit {0}

-- if a step enters a verb, there is a frame for it
abbrev pub RoomNext : Progress → Type 0
RoomNext (done r) = Unit {0}
RoomNext (verb_next e at) = HasRoom e
RoomNext (stage_next at) = Unit {0}

either : {A : Type 0} (P : A → Type 0) (b : Bool) (x y : A) → P x → P y → P (if b then x else y)
either P true x y p q = p
either P false x y p q = q

-- one more frame, if one is left, is within the limit
one_more : (f : TraceFrame) (callers : List TraceEntry) → has_frame_left callers ≡ true → frames (entry.Verb f ∷ callers) ≤ most_frames
one_more f callers h =
    let less : frames callers < most_frames = grind (arith, nat_tests) in
    let more = sum_by-cons (λ x. cond (is_frame x) 1 0) (entry.Verb f) callers in
    omega (arith, less, more)

found_room : (w : World) (c : Context) (variables : List ℕ → Option Tree) (programmer this : ℤ) (name : List ℕ) (vs : List Tree) (found : Result (ℤ × Verb) ErrorCode) (b : Bool) → has_frame_left c.callers ≡ b → RoomIn (entered_found w c variables programmer this name vs found)
found_room w c variables programmer this name vs (Err code) b h = tt
found_room w c variables programmer this name vs (Ok found) true h = rw h (one_more (trace_frame c.frame programmer) c.callers h)
found_room w c variables programmer this name vs (Ok found) false h = rw h tt

listed_room : (args : Result Tree ErrorCode) (r : Result Entered ErrorCode) → RoomIn r → RoomIn (after_list args r)
listed_room (Ok v) r h = h
listed_room (Err code) r h = tt

by_room : (w : World) (c : Context) (variables : List ℕ → Option Tree) (programmer : ℤ) (x y : Tree) (vs : List Tree) → RoomIn (entered_by w c variables programmer x y vs)
by_room w c variables programmer (object this) (string name) vs = found_room w c variables programmer this name vs (found_verb w this name) _ refl
by_room w c variables programmer _ _ vs = tt

verb_room : (w : World) (c : Context) (variables : List ℕ → Option Tree) (programmer : ℤ) (x y : Tree) (vs : List Tree) → RoomIn (entered_verb w c variables programmer x y vs)
verb_room w c variables programmer x y vs = listed_room (made_list vs) _ (by_room w c variables programmer x y vs)

from_room : (w : World) (c : Context) (variables : List ℕ → Option Tree) (programmer this from : ℤ) (name : List ℕ) (vs : List Tree) → RoomIn (entered_from w c variables programmer this from name vs)
from_room w c variables programmer this from name vs = listed_room (made_list vs) _ (found_room w c variables programmer this name vs (found_verb w from name) _ refl)

answers_room : (r : Result Entered ErrorCode) → RoomIn r → RoomIn (answers r)
answers_room (Ok e) h = h
answers_room (Err code) h = tt

-- a call of a verb
pub room_entered : (w : World) (c : Context) (variables : List ℕ → Option Tree) (programmer : ℤ) (x y : Tree) (vs : List Tree) {e : Entered} → answers (entered_verb w c variables programmer x y vs) ≡ Ok e → frames e.context.callers ≤ most_frames
room_entered w c variables programmer x y vs h = subst RoomIn h (answers_room _ (verb_room w c variables programmer x y vs))

missing_room : (at : Stage) (code : ErrorCode) (b : Bool) → RoomNext (if b then stage_next at else refuses code)
missing_room at code true = tt
missing_room at code false = tt

hooked_room : (function : List ℕ) (at : Stage) (r : Result Entered Failure) → RoomIn r → RoomNext (hooked function at r)
hooked_room function at (Ok e) h = h
hooked_room function at (Err (fails code)) h = missing_room at code (is_missing code)
hooked_room function at (Err (stops stop)) h = tt

hook_room : (k : Calling) (w : World) (function : List ℕ) (o : ℤ) (name : List ℕ) (vs : List Tree) (at : Stage) → RoomNext (hook k w function o name vs at)
unfolding hook
hook_room k w function o name vs at = hooked_room function at _ (answers_room _ (verb_room w k.context k.variables k.programmer (object o) (string name) vs))

abbrev RoomAfter : Progress × World → Type 0
RoomAfter p = RoomNext p.0

raised_room : (w : World) (raises : Option ErrorCode) (next : Progress × World) → RoomAfter next → RoomAfter (after_raise w raises next)
raised_room w None next h = h
raised_room w (Some code) next h = tt

moved_room : (k : Calling) (w : World) (what to : ℤ) → RoomAfter (moved k w what to)
unfolding moved
moved_room k w what to = either RoomAfter (is_to_move w what to) _ _ (raised_room w _ _ (hook_room k _ _ _ _ _ (stage.Leaving what to))) tt

moving_room : (k : Calling) (w : World) (what to : ℤ) → RoomAfter (moving k w what to)
unfolding moving
moving_room k w what to =
    either RoomAfter (not (is_place w to)) _ _ tt
    (either RoomAfter (not (may_own w k.programmer what)) _ _ tt
    (either RoomAfter (int_eq to (negsuc 0)) _ _ (moved_room k w what to) (hook_room k w _ to _ _ (stage.Accepting what to))))

accepted_room : (k : Calling) (w : World) (what to : ℤ) (answer : Bool) → RoomAfter (accepted k w what to answer)
unfolding accepted
accepted_room k w what to answer = either RoomAfter (may_enter w k.programmer answer) _ _ (moved_room k w what to) tt

left_room : (k : Calling) (w : World) (what to : ℤ) → RoomAfter (after_leaving k w what to)
unfolding after_leaving
left_room k w what to = either RoomAfter (has_come w what to) _ _ (hook_room k w _ _ _ _ stage.Entering) tt

created_room : (k : Calling) (w : World) (up owner : ℤ) → RoomAfter (creating k w up owner)
unfolding creating
created_room k w up owner =
    either RoomAfter (not (may_be_parent w k.programmer up)) _ _ tt
    (either RoomAfter (is_used_up (quota w owner)) _ _ tt
    (raised_room w (create_raises w (place_of w.objects up)) _
    (either RoomAfter (not (controls w k.programmer owner)) _ _ tt (hook_room k _ _ _ _ _ _))))

recycled_room : (k : Calling) (w : World) (o : ℤ) → RoomAfter (recycling k w o)
unfolding recycling
recycled_room k w o = either RoomAfter (may_own w k.programmer o) _ _ (hook_room k w _ _ _ _ (stage.Emptying o)) tt

taken_room : (w : World) (o : ℤ) → RoomAfter (taken_away w o)
unfolding taken_away
taken_room w o = raised_room w (recycle_raises (number_of w.objects o)) _ tt

out_room : (k : Calling) (w : World) (o inside : ℤ) → RoomAfter (moved_out k w o inside)
unfolding moved_out
out_room k w o inside = raised_room w (move_raises w (number_of w.objects inside) (place_of w.objects (negsuc 0))) _ (hook_room k _ _ _ _ _ (stage.Emptying o))

emptied_room : (k : Calling) (w : World) (o : ℤ) (inside : Option ℤ) → RoomAfter (emptied k w o inside)
emptied_room k w o None = taken_room w o
emptied_room k w o (Some inside) = out_room k w o inside

run_room : (at : Stage) (r : Result Entered Failure) → RoomIn r → RoomNext (run_by at r)
run_room at (Ok e) h = h
run_room at (Err failure) h = tt

passed_room : (k : Calling) (w : World) (vs : List Tree) → RoomNext (passing k w vs)
unfolding passing
passed_room k w vs = run_room stage.Passed _ (answers_room _ (from_room w k.context k.variables k.programmer _ _ _ vs))

program_room : (k : Calling) (program : Block) (b : Bool) → has_frame_left k.context.callers ≡ b → RoomNext (program_next k program)
program_room k program true h = rw h (one_more (trace_frame k.context.frame k.programmer) k.context.callers h)
program_room k program false h = rw h tt

text_room : {T : Telling} {k : Calling} {w : World} {text : List ℕ} {step : Progress} → EvaluatesText T k w text step → RoomNext step
text_room (forbidden may) = tt
text_room (faulty may f h) = tt
text_room {k = k} (parsed may {program = b} p) = program_room k b _ refl

eval_room : (T : Telling) (k : Calling) (w : World) (vs : List Tree) (step : Progress) → EvalBegins T k w vs step → RoomNext step
eval_room T k w (string text ∷ []) step h = text_room h
eval_room T k w vs step h = subst RoomNext (sym h) tt

move_room : (k : Calling) (w : World) (vs : List Tree) → RoomAfter (move_begins k w vs)
move_room k w (object what ∷ object to ∷ []) = moving_room k w what to
move_room k w _ = tt

create_room : (k : Calling) (w : World) (vs : List Tree) → RoomAfter (create_begins k w vs)
create_room k w (object up ∷ []) = created_room k w up k.programmer
create_room k w (object up ∷ object owner ∷ []) = created_room k w up owner
create_room k w _ = tt

recycle_room : (k : Calling) (w : World) (vs : List Tree) → RoomAfter (recycle_begins k w vs)
recycle_room k w (object o ∷ []) = recycled_room k w o
recycle_room k w _ = tt

first_room : (f : Function) (k : Calling) (w : World) (vs : List Tree) → RoomAfter (first_progress f k w vs)
first_room function.Pass k w vs = passed_room k w vs
first_room function.Move k w vs = move_room k w vs
first_room function.Create k w vs = create_room k w vs
first_room function.Recycle k w vs = recycle_room k w vs
first_room _ k w vs = tt

begun_room : (T : Telling) (f : Function) (k : Calling) (w : World) (vs : List Tree) (step : Progress) (after : World) → Begins T f k w vs step after → RoomNext step
begun_room T function.Eval k w vs step after h = eval_room T k w vs step h.0
begun_room T f k w vs step after h = subst RoomAfter h (first_room f k w vs)

-- the first step of a function
pub room_begun : {T : Telling} {c : Context} {f : Function} {vs : List Tree} {s s' : State} {step : Progress} → Starts T c f vs s step s' → RoomNext step
room_begun (refused q) = tt
room_begun {T = T} (starts {c = c} {f = f} {vs = vs} {s = s} {step = step} {w = w} q h u) = begun_room T f (calling c s) s.world vs step w h

stage_room : (k : Calling) (w : World) (at : Stage) (v : Tree) → RoomAfter (next_progress k w at v)
stage_room k w stage.Passed v = tt
stage_room k w (stage.Created o) v = tt
stage_room k w (stage.Accepting what to) v = accepted_room k w what to (is_true v)
stage_room k w (stage.Leaving what to) v = left_room k w what to
stage_room k w stage.Entering v = tt
stage_room k w (stage.Emptying o) v = emptied_room k w o (first_inside w o)
stage_room k w (stage.Recycled o) v = tt
stage_room k w stage.Evaluated v = tt

-- what comes at a stage
pub room_resumed : (c : Context) (at : Stage) (v : Tree) (s : State) {s' : State} {step : Progress} → resumed c at v s ≡ (step, s') → RoomNext step
room_resumed c at v s h = subst RoomNext (ap (λ x. x.0) h) (stage_room (calling c s) s.world at v)
