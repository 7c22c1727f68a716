use Rattle.std.proofs.Common.{sym, ◌∙◌, ap}
use Rattle.std.specs.Option.{option_map, option_copied}
use Rattle.moo_value.specs.Compare.{folded}
use Rattle.moo_value.specs.View.{tree}
use Rattle.moo_world.proofs.Raising.{unread_raises}
use Rattle.moo_world.proofs.World.get_defined.Goals as goal

pub returns-in-None-clause-value : goal.returns-in-None-clause-value
returns-in-None-clause-value c = unread_raises c.args.self.now c.args.x (folded c.args.name.now) c.is_well_formed.ensures (sym (ap (λ r. option_map tree (option_copied r)) c.in-None.is) ∙ c.value_from.ensures)
