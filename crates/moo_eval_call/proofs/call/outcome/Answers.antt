use Rattle.std.proofs.Common.{None, Some, ap, ◌∙◌}
use Rattle.moo_value.specs.declared.error_code.ErrorCode.TheVariants.{InvalidArgument}
use Rattle.moo_builtin_value.specs.Conversions.{to_text}
use Rattle.moo_builtin_value.specs.Calls.{plainly}
use Rattle.moo_builtin.specs.Telling.{Faults}
use Rattle.moo_builtin.specs.Calls.{CallsPlain, unknown}
use Rattle.moo_eval_call.specs.declared.spliced.Extreme.TheVariants.{Least, Greatest}
use Rattle.moo_eval_call.specs.Spliced.{extreme_from}
use Rattle.moo_eval_call.proofs.AnyNumber.{settles, calls_text, calls_least, calls_greatest}
use Rattle.moo_eval_call.proofs.Replies.{raises_reply}
use Rattle.moo_eval_call.proofs.call.outcome.Goals as goal

pub returns-in_default : goal.returns-in_default
returns-in_default c = λ name named. raises_reply c.raised.result (plainly InvalidArgument) c.args.world.now (CallsPlain Faults name c.args.values c.args.world.now c.args.caller) c.raised.ensures (unknown (named ∙ c.in_default.is))

pub returns-in-Tostr : goal.returns-in-Tostr
returns-in-Tostr c =
    λ name named. settles c.settled.result c.joined_text.result (to_text c.args.values) c.args.world.now (CallsPlain Faults name c.args.values c.args.world.now c.args.caller) c.settled.ensures c.joined_text.ensures
    (calls_text name c.args.values c.args.world.now c.args.caller (named ∙ c.in-Some.is ∙ ap Some c.in-Tostr.is))

pub returns-in-Min : goal.returns-in-Min
returns-in-Min c =
    λ name named. settles c.settled-in-Min.result c.extreme_number.result (extreme_from Least None c.args.values) c.args.world.now (CallsPlain Faults name c.args.values c.args.world.now c.args.caller) c.settled-in-Min.ensures c.extreme_number.ensures
    (calls_least name c.args.values c.args.world.now c.args.caller (named ∙ c.in-Some.is ∙ ap Some c.in-Min.is))

pub returns-in-Max : goal.returns-in-Max
returns-in-Max c =
    λ name named. settles c.settled-in-Max.result c.extreme_number-in-Max.result (extreme_from Greatest None c.args.values) c.args.world.now (CallsPlain Faults name c.args.values c.args.world.now c.args.caller) c.settled-in-Max.ensures c.extreme_number-in-Max.ensures
    (calls_greatest name c.args.values c.args.world.now c.args.caller (named ∙ c.in-Some.is ∙ ap Some c.in-Max.is))
