use Rattle.moo_eval_control.proofs.Shared.{values_are_dealt}
use Rattle.moo_eval_control.proofs.OneSharing.{dealt_so, dealt_fits}
use Rattle.moo_eval_control.proofs.laws.every_value_is_dealt.Goals as goal

pub returns-clause-all : goal.returns-clause-all
returns-clause-all c = values_are_dealt

pub returns-clause-only : goal.returns-clause-only
returns-clause-only c = dealt_so

pub returns-clause-fitting : goal.returns-clause-fitting
returns-clause-fitting c = dealt_fits
