-- The results of the functions over values alone.
use Rattle.std.specs.Prelude.{◌≡◌, ℕ, pos, false, List, [], ◌∷◌, Option, None, Some, Result, Ok, Err}
use Rattle.moo_value.specs.declared.error_code.ErrorCode.{ErrorCode}
use Rattle.moo_value.specs.declared.error_code.ErrorCode.TheVariants.{TypeMismatch}
use Rattle.moo_value.specs.declared.value.Value.{Value}
use Rattle.moo_value.specs.Errors.{error_message}
use Rattle.moo_value.specs.Tree.{Tree, integer, error, string}
use Rattle.moo_value.specs.View.{tree}
use Rattle.moo_builtin_operator.specs.declared.fault.OperationFault.{OperationFault}
use Rattle.moo_builtin_operator.specs.declared.fault.OperationFault.TheVariants as fault
use Rattle.moo_syntax_function.specs.declared.function.Function.{Function}
use Rattle.moo_syntax_function.specs.declared.function.Function.TheVariants as function
use Rattle.moo_builtin_value.specs.declared.call.Outcome.{Outcome}
use Rattle.moo_builtin_value.specs.declared.call.Outcome.TheVariants as outcome
use Rattle.moo_builtin_value.specs.TextAnswers.{GivesUnless, IsMade}
use Rattle.moo_builtin_value.specs.Conversions.{to_text, to_literal, to_integer, to_object}
use Rattle.moo_builtin_value.specs.Texts.{compare, is_exact, index, last_index, substitute}
use Rattle.moo_builtin_value.specs.Looks.{type_of, length_of, equal, time, server_version}
use Rattle.moo_builtin_value.specs.Numbers.{absolute, least, greatest}
use Rattle.moo_builtin_value.specs.Lists.{list_append, list_insert, list_set, list_delete, set_add, set_remove, is_member}

-- an error that is raised, with its message and its value
pub record Raised : Type 0 where
  pub code : ErrorCode
  pub message : List ℕ
  pub value : Tree

-- an error with its own message and 0
abbrev pub plainly : ErrorCode → Raised
plainly e = record { code = e; message = error_message e; value = integer (pos 0) }

-- the result of each function over values alone for arguments that fit its row, if an error has its default message;
-- the other functions are not of this crate
abbrev pub plain_answer : Function → ℕ → List Tree → Option (Result Tree ErrorCode)
plain_answer function.Typeof moment args = Some (type_of args)
plain_answer function.Length moment args = Some (length_of args)
plain_answer function.Tostr moment args = Some (to_text args)
plain_answer function.Toliteral moment args = Some (to_literal args)
plain_answer function.Toint moment args = Some (to_integer args)
plain_answer function.Tonum moment args = Some (to_integer args)
plain_answer function.Toobj moment args = Some (to_object args)
plain_answer function.Equal moment args = Some (equal args)
plain_answer function.Strcmp moment args = Some (compare args)
plain_answer function.Min moment args = Some (least args)
plain_answer function.Max moment args = Some (greatest args)
plain_answer function.Abs moment args = Some (absolute args)
plain_answer function.Index moment args = Some (index args)
plain_answer function.Rindex moment args = Some (last_index args)
plain_answer function.Strsub moment args = Some (substitute args)
plain_answer function.ListAppend moment args = Some (list_append args)
plain_answer function.ListInsert moment args = Some (list_insert args)
plain_answer function.ListSet moment args = Some (list_set args)
plain_answer function.ListDelete moment args = Some (list_delete args)
plain_answer function.SetAdd moment args = Some (set_add args)
plain_answer function.SetRemove moment args = Some (set_remove args)
plain_answer function.IsMember moment args = Some (is_member args)
plain_answer function.Time moment args = Some (time moment args)
plain_answer function.ServerVersion moment args = Some (server_version args)
plain_answer _ moment args = None

-- such a result, with the errors as they are raised
abbrev pub simply : Option (Result Tree ErrorCode) → Option (Result Tree Raised)
simply None = None
simply (Some (Ok t)) = Some (Ok t)
simply (Some (Err e)) = Some (Err (plainly e))

-- the error that `raise` raises, with a message and a value of its own if they are given
abbrev pub raised_by : List Tree → Raised
raised_by (error e ∷ []) = plainly e
raised_by (error e ∷ string s ∷ []) = record { code = e; message = s; value = integer (pos 0) }
raised_by (error e ∷ string s ∷ t ∷ []) = record { code = e; message = s; value = t }
raised_by _ = plainly TypeMismatch

-- what each function over values alone gives, or raises, for arguments that fit its row
abbrev pub answer : Function → ℕ → List Tree → Option (Result Tree Raised)
answer function.Raise moment args = Some (Err (raised_by args))
answer f moment args = simply (plain_answer f moment args)

-- Memory may run out for a string or a list that is made, and if a search folds letters, which is done in copies.
abbrev pub MayLack : Function → List Tree → Result Tree ErrorCode → Type 0
MayLack function.Index args r = is_exact args ≡ false
MayLack function.Rindex args r = is_exact args ≡ false
MayLack f args r = IsMade r

-- memory may run out for a result as it is returned, and for the message of an error that is raised
abbrev pub CallMayLack : Function → List Tree → Result Tree Raised → Type 0
CallMayLack f args (Ok t) = MayLack f args (Ok t)
CallMayLack f args (Err r) = Unit {0}

-- the outcome is this, or memory runs out where it may
abbrev pub Shows : Function → List Tree → Outcome → Result Tree Raised → Type 0
Shows f args (outcome.Value v) r = r ≡ Ok (tree v)
Shows f args (outcome.Raise e message v) r = r ≡ Err (record { code = e; message = message; value = tree v })
Shows f args outcome.Memory r = CallMayLack f args r

-- the outcome of a function that may be another crate's: it has no outcome here
abbrev pub ShowsSome : Function → List Tree → Option Outcome → Option (Result Tree Raised) → Type 0
ShowsSome f args None r = r ≡ None
ShowsSome f args (Some o) None = ⊥
ShowsSome f args (Some o) (Some r) = Shows f args o r

-- what a function over values alone gives; none for a function of another crate
abbrev pub GivesSome : Function → List Tree → Option (Result Value OperationFault) → Option (Result Tree ErrorCode) → Type 0
GivesSome f args None r = r ≡ None
GivesSome f args (Some a) None = ⊥
GivesSome f args (Some a) (Some r) = GivesUnless (MayLack f args r) a r

-- an outcome raises an error, or is short of memory for its message
abbrev pub Raises : Outcome → Raised → Type 0
Raises (outcome.Value v) r = ⊥
Raises (outcome.Raise e message v) r = r ≡ record { code = e; message = message; value = tree v }
Raises outcome.Memory r = Unit {0}

-- an outcome is a result of the program
abbrev pub Tells : Outcome → Result Value OperationFault → Type 0
Tells o (Ok v) = o ≡ outcome.Value v
Tells o (Err (fault.Raise e)) = Raises o (plainly e)
Tells o (Err fault.Memory) = o ≡ outcome.Memory
