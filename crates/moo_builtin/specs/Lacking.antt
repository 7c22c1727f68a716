-- Where memory may run out for a plain call.
use Rattle.std.specs.Prelude.{◌≡◌, ◌⊎◌, List, Option, None, Some, Result, Ok, Err, ⊤}
use Rattle.moo_value.specs.declared.error_code.ErrorCode.{ErrorCode}
use Rattle.moo_value.specs.Tree.{Tree}
use Rattle.moo_syntax_function.specs.declared.function.Function.{Function}
use Rattle.moo_syntax_function.specs.Table.{row}
use Rattle.moo_syntax_function.specs.Check.{refusal}
use Rattle.moo_builtin_value.specs.Calls.{answer, CallMayLack as ValueMayLack}
use Rattle.moo_builtin_value.specs.declared.call.Outcome.{Outcome}
use Rattle.moo_builtin_value.specs.declared.call.Outcome.TheVariants as outcome
use Rattle.moo_world_table.specs.World.{World}
use Rattle.moo_builtin_world.specs.Objects.{is_valid}
use Rattle.moo_builtin_world.specs.Calls.{answer as world_answer, MayLack as WorldMayLack}
use Rattle.moo_builtin.specs.Telling.{Faults}
use Rattle.moo_builtin.specs.CodeCalls.{Answers, MayLack as CodeMayLack}
use Rattle.moo_builtin.specs.declared.call.Caller.{Caller}
use Rattle.moo_builtin.specs.Calls.{Field, values, objects, code, field, given}

-- an error takes memory for its message
abbrev pub RaisesOr : {X : Type 0} → Result X ErrorCode → Type 0 → Type 0
RaisesOr (Ok x) May = May
RaisesOr (Err e) May = ⊤

-- a function on code raises an error, whose message takes memory, or lacks it itself
abbrev pub CodeRaisesOr : Function → World → Caller → List Tree → Type 0
CodeRaisesOr f w c args = ((e : ErrorCode) × Answers Faults f w c.programmer args (Err e) w) ⊎ CodeMayLack f w c.programmer args

-- For arguments that fit: if the functions of the field may run out of memory, and for the message of an error.
abbrev pub AnswerMayLack : Field → Function → List Tree → World → Caller → Type 0
AnswerMayLack values f args w c = ValueMayLack f args (given (answer f c.moment args))
AnswerMayLack objects f args w c = RaisesOr (world_answer f w c.programmer args) (WorldMayLack f w c.programmer args)
AnswerMayLack code f args w c = CodeRaisesOr f w c args

-- For a call of this function, if there is one: a name of none and arguments that are refused raise an error.
abbrev pub CallMayLack : Option Function → List Tree → World → Caller → Type 0
CallMayLack None args w c = ⊤
CallMayLack (Some f) args w c = refusal (is_valid w) (row f) args ≡ None → AnswerMayLack (field f) f args w c

-- if memory runs out, it may be
abbrev pub LacksOnly : Outcome → Type 0 → Type 0
LacksOnly (outcome.Value v) May = ⊤
LacksOnly (outcome.Raise e message v) May = ⊤
LacksOnly outcome.Memory May = May
