use Rattle.std.proofs.Common.{arith}
use Rattle.moo_syntax_ast.proofs.Spelled.{before_more}
use Rattle.moo_syntax_ast.proofs.name.small_number_of.Goals as goal

pub loop-last-preserved : goal.loop-last-preserved
loop-last-preserved c = grind (arith, before_more)
