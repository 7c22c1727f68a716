-- The result of a call stays possible if more faults may be reported for texts.
use Rattle.std.proofs.Common.{ℕ, List, [], ◌∷◌, Result, Ok, Err}
use Rattle.std.specs.Prelude.{ℤ}
use Rattle.moo_value.specs.declared.error_code.ErrorCode.{ErrorCode}
use Rattle.moo_value.specs.Tree.{Tree, object}
use Rattle.moo_syntax.specs.declared.syntax_fault.SyntaxFault.{SyntaxFault}
use Rattle.moo_world_table.specs.World.{World}
use Rattle.moo_builtin.specs.Telling.{Telling}
use Rattle.moo_builtin.specs.Answers.{Outcomes, Then}
use Rattle.moo_builtin.specs.Setting.{verb_to_set, given_lines, IsSet, SetsText, SetsCode}

-- what the one may report, the other may report too
abbrev pub Wider : Telling → Telling → Type 0
Wider T U = (lines : List (List ℕ)) (f : SyntaxFault) → T lines f → U lines f

abbrev pub Includes : Outcomes → Outcomes → Type 0
Includes Such Other = (r : Result Tree ErrorCode) (w : World) → Such r w → Other r w

then_wider : {X : Type 0} (x : Result X ErrorCode) (w : World) {next other : X → Outcomes} → ((y : X) → Includes (next y) (other y)) → Includes (Then x w next) (Then x w other)
then_wider (Err e) w wider r v h = h
then_wider (Ok y) w wider r v h = wider y r v h

set_wider : {T U : Telling} → Wider T U → (w : World) (o : ℤ) (i : ℕ) (lines : List (List ℕ)) → Includes (IsSet T w o i lines) (IsSet U w o i lines)
set_wider wider w o i lines r v (IsSet.set p) = IsSet.set p
set_wider wider w o i lines r v (IsSet.told f h) = IsSet.told f (wider lines f h)

pub sets_wider : {T U : Telling} → Wider T U → (w : World) (p : ℤ) (args : List Tree) → Includes (SetsCode T w p args) (SetsCode U w p args)
sets_wider {T = T} {U = U} wider w p (object o ∷ t ∷ text ∷ []) r v h =
    then_wider (verb_to_set w p o t) w {next = SetsText T w o text} {other = SetsText U w o text} (λ i. then_wider (given_lines text) w {next = IsSet T w o i} {other = IsSet U w o i} (set_wider wider w o i)) r v h
sets_wider wider w p _ r v h = h
