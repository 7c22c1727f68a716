use Rattle.std.proofs.Common.{◌≡◌, ap, ◌∙◌, Some, rules}
use Rattle.moo_syntax_ast.specs.Given.{all_given, is_given, given_name, given_of}
use Rattle.moo_syntax_ast.specs.declared.given.Given.TheVariants.{This}
use Rattle.moo_syntax_ast.proofs.GivenNames.{passes, same_name, named_own}
use Rattle.moo_eval_frame.specs.Seen.{own_variables, variables_of}
use Rattle.moo_eval_frame.proofs.GivenNames.{given_at}
use Rattle.moo_eval_frame.proofs.variables.Variables.get_base.Goals as goal

pub returns-in-Some-This : goal.returns-in-Some-This
unfolding variables_of
returns-in-Some-This c =
    let self = c.args.self.now in
    let found : given_of c.args.name.now ≡ Some This = search rules in
    let is = passes (is_given c.args.name.now) This all_given found in
    given_at self.given (own_variables self) (given_name This) This (named_own This) c.get.result.now c.get.ensures ∙ ap (variables_of self) (same_name c.args.name.now This is)
