use Rattle.std.proofs.lemmas.Bool.{ltb-true}
use Rattle.moo_syntax_ast.proofs.Numbered.{same_number}
use Rattle.moo_syntax_ast.proofs.numbering.is_code.Goals as goal

pub returns-clause-one : goal.returns-clause-one
returns-clause-one c = λ low a b x y. same_number a b c.args.number (ltb-true _ _ low) x y
