-- The results of the functions that convert a value of one type to another.
use Rattle.std.specs.Prelude.{pos, List, [], ◌∷◌, Result, Ok, Err}
use Rattle.std.specs.List.{flat_map}
use Rattle.moo_value.specs.declared.error_code.ErrorCode.{ErrorCode}
use Rattle.moo_value.specs.declared.error_code.ErrorCode.TheVariants.{TypeMismatch}
use Rattle.moo_value.specs.Errors.{error_number}
use Rattle.moo_value.specs.Text.{literal, plain}
use Rattle.moo_value.specs.Tree.{Tree, integer, object, error, string}
use Rattle.moo_builtin_operator.specs.Answer.{limited}
use Rattle.moo_builtin_value.specs.Numerals.{integer_number, object_number}

-- the plain texts of the arguments, one after the other
abbrev pub to_text : List Tree → Result Tree ErrorCode
to_text ts = limited (string (flat_map plain ts))

abbrev pub to_literal : List Tree → Result Tree ErrorCode
to_literal (t ∷ []) = limited (string (literal t))
to_literal _ = Err TypeMismatch

abbrev pub to_integer : List Tree → Result Tree ErrorCode
to_integer (integer i ∷ []) = Ok (integer i)
to_integer (object o ∷ []) = Ok (integer o)
to_integer (error e ∷ []) = Ok (integer (pos (error_number e)))
to_integer (string s ∷ []) = Ok (integer (integer_number s))
to_integer _ = Err TypeMismatch

abbrev pub to_object : List Tree → Result Tree ErrorCode
to_object (integer i ∷ []) = Ok (object i)
to_object (object o ∷ []) = Ok (object o)
to_object (error e ∷ []) = Ok (object (pos (error_number e)))
to_object (string s ∷ []) = Ok (object (object_number s))
to_object _ = Err TypeMismatch
