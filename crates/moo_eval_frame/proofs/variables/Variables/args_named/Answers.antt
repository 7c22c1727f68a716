use Rattle.std.proofs.Common.{◌≡◌, sym, ap, ◌∙◌, Some, rules}
use Rattle.moo_syntax_ast.specs.Given.{all_given, is_given, given_name, given_of}
use Rattle.moo_syntax_ast.specs.declared.given.Given.TheVariants.{Args}
use Rattle.moo_syntax_ast.proofs.GivenNames.{passes, same_name, named_own}
use Rattle.moo_eval_frame.specs.Seen.{own_variables, variables_of}
use Rattle.moo_eval_frame.proofs.GivenNames.{given_at}
use Rattle.moo_eval_frame.proofs.variables.Variables.args_named.Goals as goal

pub returns-in-Some-Args : goal.returns-in-Some-Args
unfolding variables_of
returns-in-Some-Args c =
    let self = c.args.self.now in
    let found : given_of c.args.name.now ≡ Some Args = search rules in
    let is = passes (is_given c.args.name.now) Args all_given found in
    sym (given_at self.given (own_variables self) (given_name Args) Args (named_own Args) c.get.result.now c.get.ensures ∙ ap (variables_of self) (same_name c.args.name.now Args is))
