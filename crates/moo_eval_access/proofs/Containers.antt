-- Containers that are rebuilt one after another.
use Rattle.std.proofs.Common.{◌≡◌, ℕ, ◌==◌, false, length, get_or, drop, List, [], ◌∷◌, ◌++◌, Result, OnOk, IfErr, Ok, Err, map, reverse, refl, sym, ap, ◌∙◌}
use Rattle.std.proofs.lemmas.List.{reverse-append, map-append}
use Rattle.moo_value.specs.declared.error_code.ErrorCode.{ErrorCode}
use Rattle.moo_value.specs.Tree.{Tree}
use Rattle.moo_value.specs.View.{tree}
use Rattle.moo_builtin_operator.specs.declared.fault.OperationFault.{OperationFault}
use Rattle.moo_builtin_operator.specs.declared.fault.OperationFault.TheVariants as fault
use Rattle.moo_builtin_operator.specs.Answer.{IsRefused}
use Rattle.moo_eval_access.specs.declared.target.Step as code_step
use Rattle.moo_eval_frame.specs.Outcome.{Failure, answers}
use Rattle.moo_eval_access.specs.Target.{Step, with_part, rebuilt}
use Rattle.moo_eval_frame.specs.Seen.{failure_of, HadMemoryIn}
use Rattle.moo_eval_access.specs.SeenTarget.{places_of, step_of, steps_of}
use Rattle.moo_eval_frame.specs.Fault.{failed}

-- the last step comes first
pub last_step : (steps : List code_step.Step) (step : code_step.Step) → steps_of (steps ++ step ∷ []) ≡ step_of step ∷ steps_of steps
last_step steps step = ap reverse (map-append step_of steps (step ∷ [])) ∙ reverse-append (map step_of steps) (step_of step ∷ [])

rebuilt_err : (steps : List Step) (code : ErrorCode) → rebuilt steps (Err code) ≡ Err code
rebuilt_err [] code = refl
rebuilt_err (step ∷ steps) code = refl

-- a container that can't be rebuilt is the error of them all
pub refused_inside : (f : OperationFault) (rest all : List code_step.Step) (step : code_step.Step) (v : Tree) → all ≡ rest ++ step ∷ [] → IsRefused f (with_part (tree step.container) (places_of step.places) v) → HadMemoryIn (failed f) → answers (rebuilt (steps_of all) (Ok v)) ≡ Err (failure_of (failed f))
refused_inside (fault.Raise code) rest all step v e h k =
    ap (λ s. answers (rebuilt (steps_of s) (Ok v))) e
    ∙ ap (λ s. answers (rebuilt s (Ok v))) (last_step rest step)
    ∙ ap (λ r. answers (rebuilt (steps_of rest) r)) h
    ∙ ap answers (rebuilt_err (steps_of rest) code)
refused_inside fault.Memory rest all step v e h k = absurd k

-- the steps inside first, then those outside
pub rebuilt_append : (inner outer : List Step) (r : Result Tree ErrorCode) → rebuilt (inner ++ outer) r ≡ rebuilt outer (rebuilt inner r)
rebuilt_append [] outer r = refl
rebuilt_append (step ∷ inner) outer (Ok v) = rebuilt_append inner outer (with_part step.container step.places v)
rebuilt_append (step ∷ inner) outer (Err code) = sym (rebuilt_err outer code)

-- the first step comes last
pub first_step : (steps : List code_step.Step) (step : code_step.Step) → steps_of (step ∷ steps) ≡ steps_of steps ++ step_of step ∷ []
first_step steps step = reverse-append (step_of step ∷ []) (map step_of steps)

answered : (r : Result Tree ErrorCode) (w : Tree) → answers r ≡ Ok w → r ≡ Ok w
answered (Ok v) w h = cc
answered (Err code) w h = absurd cc

stays : (r : Result Tree ErrorCode) (step : Step) (failure : Failure) → answers r ≡ Err failure → answers (rebuilt (step ∷ []) r) ≡ Err failure
stays (Ok v) step failure h = absurd cc
stays (Err code) step failure h = h

-- the outermost container, once the inner ones are rebuilt
pub outermost : (all inner : List code_step.Step) (step : code_step.Step) (v w : Tree) → all ≡ step ∷ inner → answers (rebuilt (steps_of inner) (Ok v)) ≡ Ok w → rebuilt (steps_of all) (Ok v) ≡ with_part (tree step.container) (places_of step.places) w
outermost all inner step v w e h =
    ap (λ s. rebuilt (steps_of s) (Ok v)) e
    ∙ ap (λ s. rebuilt s (Ok v)) (first_step inner step)
    ∙ rebuilt_append (steps_of inner) (step_of step ∷ []) (Ok v)
    ∙ ap (rebuilt (step_of step ∷ [])) (answered (rebuilt (steps_of inner) (Ok v)) w h)

-- an error inside is the error of them all
pub inner_fails : (all inner : List code_step.Step) (step : code_step.Step) (v : Tree) (failure : Failure) → all ≡ step ∷ inner → answers (rebuilt (steps_of inner) (Ok v)) ≡ Err failure → answers (rebuilt (steps_of all) (Ok v)) ≡ Err failure
inner_fails all inner step v failure e h =
    ap (λ s. answers (rebuilt (steps_of s) (Ok v))) e
    ∙ ap (λ s. answers (rebuilt s (Ok v))) (first_step inner step)
    ∙ ap answers (rebuilt_append (steps_of inner) (step_of step ∷ []) (Ok v))
    ∙ stays (rebuilt (steps_of inner) (Ok v)) (step_of step) failure h

-- a list with its first element taken out
pub taken_first : {X : Type 0} (xs ys : List X) (x : X) (n : ℕ) → n ≡ length xs → (n == 0) ≡ false → x ≡ get_or xs 0 x → ys ≡ drop 1 xs → xs ≡ x ∷ ys
taken_first [] ys x n l h e f = let q = ap (λ m. m == 0) (sym l) ∙ h in absurd cc
taken_first (z ∷ zs) ys x n l h e f = ap (λ y. y ∷ zs) (sym e) ∙ ap (λ r. x ∷ r) (sym f)

-- what the outermost container gives is what all give
pub all_give : (all inner : List code_step.Step) (step : code_step.Step) (v w : Tree) (r : Result Tree Failure) → all ≡ step ∷ inner → answers (rebuilt (steps_of inner) (Ok v)) ≡ Ok w → answers (with_part (tree step.container) (places_of step.places) w) ≡ r → answers (rebuilt (steps_of all) (Ok v)) ≡ r
all_give all inner step v w r e h g = ap answers (outermost all inner step v w e h) ∙ g

pub on_ok : {A E : Type 0} {P Q : Type 0} (r : Result A E) → OnOk r P → (P → Q) → OnOk r Q
on_ok (Ok v) h f = f h
on_ok (Err e) h f = tt

pub on_err : {A E : Type 0} {P Q : E → Type 0} (r : Result A E) → IfErr r P → ((e : E) → P e → Q e) → IfErr r Q
on_err (Ok v) h f = tt
on_err (Err e) h f = f e h
