use Rattle.std.proofs.Common.{append_assoc}
use Rattle.moo_syntax.proofs.syntax_fault.write_kind.Goals as goal

pub returns-in-UnknownFunction : goal.returns-in-UnknownFunction
returns-in-UnknownFunction c = rw c.in-UnknownFunction.is (rw append_assoc at c.write_unknown.ensures)
