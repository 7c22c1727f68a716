use Rattle.std.proofs.Common.{ap}
use Rattle.std.specs.Prelude.{Some}
use Rattle.moo_value.specs.View.{tree}
use Rattle.moo_syntax_ast.specs.Given.{given_names}
use Rattle.moo_eval_frame.specs.Seen.{variables_of}
use Rattle.moo_eval_frame.proofs.variables.Variables.player.Goals as goal

pub returns : goal.returns
unfolding given_names variables_of
returns c = ap (λ v. Some (tree v)) c.player.ensures
