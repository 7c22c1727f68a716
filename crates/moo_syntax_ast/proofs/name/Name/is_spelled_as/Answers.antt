use Rattle.std.proofs.Common.{refl}
use Rattle.moo_syntax_ast.proofs.name.Name.is_spelled_as.Goals as goal

pub returns-then-is_known_as : goal.returns-then-is_known_as
returns-then-is_known_as c = (λ t. c.is_known_as.ensures.same c.if-is_known_as.true, λ e. refl)
