-- What the call of `eval` comes to.
use Rattle.std.proofs.Common.{◌≡◌, ℕ, ℤ, pos, List, [], ◌∷◌, Bool, true, false, cond, codes, Result, Ok, Err, if◌then◌else◌, refl, sym, ap, subst, ◌∙◌, arith}
use Rattle.std.specs.Prelude.{nat_le, ◌&&◌}
use Rattle.std.proofs.lemmas.Bool.{leb-false, lt-leb}
use Rattle.moo_value.specs.declared.error_code.ErrorCode.{ErrorCode}
use Rattle.moo_value.specs.declared.error_code.ErrorCode.TheVariants.{Quota, MaximumRecursion}
use Rattle.moo_value.specs.Size.{weight, depth, weight_limit, depth_limit}
use Rattle.moo_value.specs.Tree.{Tree, integer, string, list_of}
use Rattle.moo_syntax_ast.specs.Tree.{Block}
use Rattle.moo_syntax_grammar.specs.declared.names.Names.TheVariants.{Known}
use Rattle.moo_syntax_grammar.specs.Texts.{IsParsed}
use Rattle.moo_syntax.specs.declared.syntax_fault.SyntaxFault.{SyntaxFault}
use Rattle.moo_syntax.specs.Programs.{Blames}
use Rattle.moo_syntax.specs.FaultText.{fault_text}
use Rattle.moo_builtin_operator.specs.declared.fault.OperationFault.{OperationFault}
use Rattle.moo_builtin_operator.specs.declared.fault.OperationFault.TheVariants.{Raise, Memory}
use Rattle.moo_builtin_operator.specs.Answer.{limited, IsRefused}
use Rattle.moo_builtin_value.specs.TextAnswers.{Gives}
use Rattle.moo_eval_frame.specs.Fault.{failed}
use Rattle.moo_eval_frame.specs.Outcome.{Failure, answers}
use Rattle.moo_eval_frame.specs.Seen.{failure_of, HadMemoryIn}
use Rattle.moo_world_table.specs.World.{World}
use Rattle.moo_syntax_function.specs.declared.function.Function.{Function}
use Rattle.moo_syntax_function.specs.declared.function.Function.TheVariants as function
use Rattle.moo_builtin.specs.Setting.{is_programmer, is_of_text, told_fault}
use Rattle.moo_builtin.specs.Answers.{IsAnswered}
use Rattle.moo_builtin.specs.Telling.{Telling, Faults}
use Rattle.moo_builtin.proofs.Coming.{not_memory}
use Rattle.moo_eval_frame.specs.declared.frame.Frame.{Frame}
use Rattle.moo_eval_frame.specs.declared.frame.TraceFrame.{TraceFrame}
use Rattle.moo_eval_frame.specs.declared.frame.TraceEntry.{TraceEntry}
use Rattle.moo_eval_frame.specs.declared.frame.TraceEntry.TheVariants.{Verb}
use Rattle.moo_eval_frame.specs.State.{trace_frame}
use Rattle.moo_eval_access.specs.Entering.{Entered, has_frame_left}
use Rattle.moo_eval_semantics.specs.declared.stage.Stage.TheVariants.{Evaluated}
use Rattle.moo_eval_semantics.specs.Progressing.{Calling, Progress, done, verb_next, refuses, through}
use Rattle.moo_eval_semantics.specs.Evaluating.{typed_frame, begun_below, typed_below, program_next, no_program, EvaluatesText, faulty, parsed}
use Rattle.moo_eval_semantics.specs.VerbCalls.{first_progress, Begins}

module _ (k : Calling) (w : World) (text copy : List ℕ) (same : copy ≡ text) (may : is_programmer w k.programmer ≡ true) where
  pub runs : (b : Block) (p : Progress) → IsParsed Known (copy ∷ []) b → program_next k b ≡ p → EvaluatesText Faults k w text p
  runs b p parses next = subst (λ q. EvaluatesText Faults k w text q) next (parsed may (subst (λ t. IsParsed Known (t ∷ []) b) same parses))

  pub tells : (f : SyntaxFault) (r : Result Tree Failure) → Blames Known (copy ∷ []) f.line f.kind → is_of_text f.kind ≡ true → answers (no_program f) ≡ r → EvaluatesText Faults k w text (done r)
  tells f r blames of_text told = subst (λ q. EvaluatesText Faults k w text (done q)) told (faulty may f (subst (λ t. Blames Known (t ∷ []) f.line f.kind) same blames, not_memory f.kind of_text))

-- if a frame is left, the program runs in it
pub has_room : (k : Calling) (program : Block) (e : Entered) → has_frame_left k.context.callers ≡ true → e ≡ typed_below k program → program_next k program ≡ verb_next e Evaluated
has_room k program e left is = ap (λ b. if b then verb_next (typed_below k program) Evaluated else refuses MaximumRecursion) left ∙ ap (λ x. verb_next x Evaluated) (sym is)

-- the frame of the program, with the function between it and its caller
pub typed_so : (h : Entered) (k : Calling) (program : Block) (b : Entered) (f : Frame) (p q this : ℤ) →
    ((t : TraceFrame) (rest : List TraceEntry) → b.context.callers ≡ Verb t ∷ rest → h ≡ through (codes "eval") b) → b ≡ begun_below k f → f ≡ typed_frame program p q this →
    p ≡ k.programmer → q ≡ k.context.frame.player → this ≡ k.context.frame.this → h ≡ typed_below k program
typed_so h k program b f p q this above begun framed whose player caller =
    above (trace_frame k.context.frame k.programmer) k.context.callers (ap (λ x. x.context.callers) begun)
    ∙ ap (λ x. through (codes "eval") x) (begun ∙ ap (begun_below k) (framed
    ∙ ap (λ x. typed_frame program x q this) whose
    ∙ ap (λ x. typed_frame program k.programmer x this) player
    ∙ ap (λ x. typed_frame program k.programmer k.context.frame.player x) caller))

-- by whether the limits allow it
not_made : (b : Bool) (t : Tree) (e : ErrorCode) → cond b (Ok t) (Err Quota) ≡ Err e → (b ≡ false) × (Quota ≡ e)
not_made true t e h = absurd cc
not_made false t e h = (refl, cc)

made_so : (b : Bool) (t u : Tree) → cond b (Ok t) (Err Quota) ≡ Ok u → u ≡ t
made_so true t u h = cc
made_so false t u h = absurd cc

by_weight : (b : Bool) → (b && true) ≡ false → b ≡ false
by_weight true h = h
by_weight false h = refl

-- what is made is the value
pub limited_is : (t u : Tree) → limited t ≡ Ok u → u ≡ t
limited_is t u h = made_so (nat_le (weight t) weight_limit && nat_le (depth t) depth_limit) t u h

-- a list of a string that is too heavy is so within another one
pub too_large : (line : List ℕ) (i : ℤ) (e : ErrorCode) → limited (list_of (string line ∷ [])) ≡ Err e → limited (list_of (integer i ∷ list_of (string line ∷ []) ∷ [])) ≡ Err e
too_large line i e h =
    let inner = list_of (string line ∷ []) in
    let outer = list_of (integer i ∷ inner ∷ []) in
    let parts = not_made (nat_le (weight inner) weight_limit && nat_le (depth inner) depth_limit) inner e h in
    let over = leb-false (weight inner) weight_limit (by_weight (nat_le (weight inner) weight_limit) parts.0) in
    let more = lt-leb (weight outer) weight_limit (omega (arith, over)) in
    ap (λ b. cond (b && nat_le (depth outer) depth_limit) (Ok outer) (Err Quota)) more ∙ ap Err parts.1

-- an operation that is refused, with memory enough
pub refused_so : (f : OperationFault) (r : Result Tree ErrorCode) → IsRefused f r → HadMemoryIn (failed f) → answers r ≡ Err (failure_of (failed f))
refused_so (Raise e) r h k = ap answers h
refused_so Memory r h k = absurd k

-- a fault that can't be reported, with memory enough
pub untold : (e : OperationFault) (f : SyntaxFault) → Gives (Err e) (told_fault f) → HadMemoryIn (failed e) → answers (no_program f) ≡ Err (failure_of (failed e))
untold (Raise code) f gives k = ap answers (too_large (fault_text f) (pos 0) code gives)
untold Memory f gives k = absurd k

pub untold_of_text : (e : OperationFault) (f : SyntaxFault) → (IsAnswered (Err e) → is_of_text f.kind ≡ true) → HadMemoryIn (failed e) → is_of_text f.kind ≡ true
untold_of_text (Raise code) f h k = h tt
untold_of_text Memory f h k = absurd k

-- a begin of any other function
pub other_begin : (T : Telling) (f : Function) (k : Calling) (w after : World) (vs : List Tree) (p : Progress) → (f ≡ function.Eval → ⊥) → first_progress f k w vs ≡ (p, after) → Begins T f k w vs p after
other_begin T function.Eval k w after vs p h d = absurd (h refl)
other_begin T f k w after vs p h d = d
