use Rattle.std.proofs.Common.{sym}
use Rattle.moo_value.specs.Compare.{folded}
use Rattle.moo_world.proofs.Literals.{numbered_property}
use Rattle.moo_world.proofs.written.built_in_written.Goals as goal

pub returns-then-is_code : goal.returns-then-is_code
returns-then-is_code c =
    numbered_property (folded c.args.name.now) c.number-number.result c.in_ok-property.property (c.is_code.ensures.one c.if-is_code.true) (sym c.number-number.ensures) c.in_ok-property.ensures.some
