use Rattle.std.proofs.Common.{ap, sym, ◌∙◌}
use Rattle.moo_value.specs.Compare.{folded}
use Rattle.moo_world_object.specs.Cells.{is_named}
use Rattle.moo_world_object.proofs.Numbered.{apart, together}
use Rattle.moo_world_object.proofs.cell.PropCell.is_numbered.Goals as goal

pub returns-then-self-number : goal.returns-then-self-number
returns-then-self-number c =
    let name = folded c.args.name.now in
    sym (ap (is_named name) (sym c.self.view_is) ∙ apart (folded c.self.inside.name) name c.self.inside.number c.args.number c.self.invariant.1 c.requires c.if-self-number.true)

pub returns-then-is_code : goal.returns-then-is_code
returns-then-is_code c =
    let name = folded c.args.name.now in
    sym (ap (is_named name) (sym c.self.view_is) ∙ together (folded c.self.inside.name) name c.self.inside.number (c.is_code.ensures.one c.if-is_code.true) c.self.invariant.1 (c.if-self-number.false ∙ c.requires))
