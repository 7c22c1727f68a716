use Rattle.std.proofs.Common.{sym, ap, ◌∙◌}
use Rattle.moo_syntax_ast.specs.Given.{all_given, is_given, given_name}
use Rattle.moo_syntax_ast.proofs.GivenNames.{passes, same_name, named_own}
use Rattle.moo_eval_frame.specs.Seen.{own_variables, variables_of}
use Rattle.moo_eval_frame.proofs.GivenNames.{given_at, other_at}
use Rattle.moo_eval_frame.proofs.variables.Variables.get_unknown.Goals as goal

pub returns-in-Some : goal.returns-in-Some
unfolding variables_of
returns-in-Some c =
    let self = c.args.self.now in
    let is = passes (is_given c.args.name.now) c.in-Some.given all_given (sym c.in-Some.ensures) in
    given_at self.given (own_variables self) (given_name c.in-Some.given) c.in-Some.given (named_own c.in-Some.given) c.get.result.now c.get.ensures
    ∙ ap (variables_of self) (same_name c.args.name.now c.in-Some.given is)

pub returns-in-None : goal.returns-in-None
unfolding variables_of
returns-in-None c = c.searched.ensures ∙ other_at c.args.self.now.given (own_variables c.args.self.now) c.args.name.now (sym c.in-None.ensures)
