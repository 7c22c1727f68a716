-- Lists and strings past the limits.
use Rattle.std.proofs.Common.{◌≡◌, ℕ, List, ◌++◌, Err, ap}
use Rattle.moo_value.specs.declared.error_code.ErrorCode.TheVariants.{Quota}
use Rattle.moo_value.specs.Tree.{Tree, list_of, string}
use Rattle.moo_value.specs.Size.{IsWithinLimits}
use Rattle.moo_builtin_operator.specs.Operators.{added}
use Rattle.moo_builtin_operator.specs.Places.{made_list}
use Rattle.moo_builtin_operator.proofs.Lawful.{limited_past}
use Rattle.moo_eval_frame.specs.Outcome.{fails, answers}

pub is_quota : (ts : List Tree) → (¬ IsWithinLimits (list_of ts)) → answers (made_list ts) ≡ Err (fails Quota)
is_quota ts h = ap answers (limited_past (list_of ts) h)

pub is_string_quota : (s t : List ℕ) → (¬ IsWithinLimits (string (s ++ t))) → answers (added (string s) (string t)) ≡ Err (fails Quota)
is_string_quota s t h = ap answers (limited_past (string (s ++ t)) h)
