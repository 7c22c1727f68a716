-- Each function of the table has a group: by cases.
use Rattle.std.proofs.Common.{◌≡◌, None, Some, Option, Result, Ok, Err, refl}
use Rattle.moo_value.specs.declared.error_code.ErrorCode.{ErrorCode}
use Rattle.moo_value.specs.Tree.{Tree}
use Rattle.moo_syntax_function.specs.declared.function.Function.TheVariants as function
use Rattle.moo_builtin_value.specs.Calls.{plain_answer, simply}
use Rattle.moo_eval_semantics.specs.Functions.{EachFunctionHasAGroup}

-- there is no result with its errors as they are raised only if there is none
simply_none : (r : Option (Result Tree ErrorCode)) → simply r ≡ None → r ≡ None
simply_none None h = refl
simply_none (Some (Ok t)) h = absurd cc
simply_none (Some (Err e)) h = absurd cc

pub each_function_has_a_group : EachFunctionHasAGroup
each_function_has_a_group function.Raise task verbs plain moment args none = absurd cc
each_function_has_a_group f task verbs plain moment args none = let h = simply_none (plain_answer f moment args) none in absurd cc
