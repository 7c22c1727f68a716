use Rattle.std.proofs.Common.{arith}
use Rattle.moo_value.proofs.Replaced.{measured_alike}
use Rattle.moo_value.proofs.elements.puts_integer.Goals as goal

pub returns-clause-alike : goal.returns-clause-alike
returns-clause-alike c = λ w d m.
    measured_alike c.args.elements.now.items c.args.index w d _ c.replaces_integer.new.place c.replaces_integer.ensures.alike (omega (arith, c.if-index-len.false, c.len.ensures)) c.index_mut.ensures.value m
