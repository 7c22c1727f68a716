use Rattle.std.proofs.Common.{ap, ◌∙◌, length, unwrap_or}
use Rattle.moo_world_object.proofs.Fitting.{least_is}
use Rattle.moo_world_object.proofs.pattern.least_length.Goals as goal

pub returns : goal.returns
returns c = c.unwrap_or.ensures ∙ ap (λ o. unwrap_or o (length c.args.pattern.now)) c.first_star.ensures ∙ least_is c.args.pattern.now
