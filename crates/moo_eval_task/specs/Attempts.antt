-- How the body of a catch ends.
use Rattle.std.specs.Prelude.{◌≡◌, List, Some, None, Result, Ok, Err}
use Rattle.moo_value.specs.Tree.{Tree}
use Rattle.moo_value.specs.View.{tree}
use Rattle.moo_syntax_ast.specs.Tree.{Expr, Codes}
use Rattle.moo_builtin.specs.Telling.{Telling}
use Rattle.moo_eval_frame.specs.Outcome.{Stop, passes}
use Rattle.moo_eval_frame.specs.State.{Context}
use Rattle.moo_eval_control.specs.Catching.{caught}
use Rattle.moo_eval_frame.specs.declared.outcome.Failure as code_failure
use Rattle.moo_eval_frame.specs.Seen.{failure_of}
use Rattle.moo_eval_access.specs.State.{State}
use Rattle.moo_eval_semantics.specs.Meaning.{Evaluates}
use Rattle.moo_eval_task.specs.declared.catching.Attempt as code
use Rattle.moo_eval_task.specs.declared.catching.Attempt.TheVariants as attempt

-- An outcome of the body is an error that the codes name, or it passes on.
abbrev pub IsSeen : Codes → List Tree → Result Tree Stop → Result code.Attempt code_failure.Failure → Type 0
IsSeen codes vs o (Ok (attempt.Caught error)) = caught codes vs o ≡ Some error
IsSeen codes vs o (Ok (attempt.Value v)) = (caught codes vs o ≡ None) × (passes o ≡ Ok (tree v))
IsSeen codes vs o (Err failure) = (caught codes vs o ≡ None) × (passes o ≡ Err (failure_of failure))

-- the body of a catch with these codes is evaluated
pub record Attempts (T : Telling) (c : Context) (codes : Codes) (vs : List Tree) (e : Expr) (s : State) (r : Result code.Attempt code_failure.Failure) (s' : State) : Type 0 where
  pub outcome : Result Tree Stop
  pub evaluates : Evaluates T c e s outcome s'
  pub seen : IsSeen codes vs outcome r
