use Rattle.std.proofs.Common.{◌∙◌}
use Rattle.moo_command.proofs.Naming.{begins_cut}
use Rattle.moo_command.proofs.named.begins.Goals as goal

pub returns-then-text-name : goal.returns-then-text-name
returns-then-text-name c = c.same_name.ensures.value ∙ begins_cut c.args.text.now c.args.name.now
