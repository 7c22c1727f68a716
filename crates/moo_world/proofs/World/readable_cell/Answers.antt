use Rattle.std.proofs.Common.{w32, rules, sym, ◌∙◌, ap}
use Rattle.std.proofs.lemmas.Int.{to_z-of_z}
use mir.Val.{SFits}
use Rattle.std.specs.Option.{option_copied}
use Rattle.moo_value.specs.Compare.{folded}
use Rattle.moo_world.specs.Rights.{may_read_cell}
use Rattle.moo_world.proofs.ByRight.{unreadable, readable_hidden, readable_here, readable_not}
use Rattle.moo_world.proofs.World.readable_cell.Goals as goal

pub returns-in_default : goal.returns-in_default
returns-in_default c =
    unreadable c.args.self.now c.args.programmer c.args.x (folded c.args.name.now) (sym c.requires ∙ ap option_copied c.in_default.is)

pub returns-then-is_hidden : goal.returns-then-is_hidden
returns-then-is_hidden c =
    let found = sym c.requires ∙ ap option_copied c.in-Some.is in
    readable_hidden c.args.self.now c.args.programmer c.args.x (folded c.args.name.now) c.in-Some.cell.now found (sym c.if-is_hidden.true ∙ c.is_hidden.ensures)

pub returns-then-may_read_cell : goal.returns-then-may_read_cell
returns-then-may_read_cell c =
    let found = sym c.requires ∙ ap option_copied c.in-Some.is in
    let fits : SFits w32 c.args.programmer = search rules in
    let may = sym (ap (may_read_cell c.args.self.now c.args.programmer) (ap option_copied c.in-Some.is)) ∙ sym (rw (to_z-of_z w32 c.args.programmer fits) at c.may_read_cell.ensures) ∙ c.if-may_read_cell.true in
    ap option_copied c.in-Some.is ∙ readable_here c.args.self.now c.args.programmer c.args.x (folded c.args.name.now) c.in-Some.cell.now found (sym c.if-is_hidden.false ∙ c.is_hidden.ensures) may

pub returns-else-may_read_cell : goal.returns-else-may_read_cell
returns-else-may_read_cell c =
    let found = sym c.requires ∙ ap option_copied c.in-Some.is in
    let fits : SFits w32 c.args.programmer = search rules in
    let may = sym (ap (may_read_cell c.args.self.now c.args.programmer) (ap option_copied c.in-Some.is)) ∙ sym (rw (to_z-of_z w32 c.args.programmer fits) at c.may_read_cell.ensures) ∙ c.if-may_read_cell.false in
    readable_not c.args.self.now c.args.programmer c.args.x (folded c.args.name.now) c.in-Some.cell.now found (sym c.if-is_hidden.false ∙ c.is_hidden.ensures) may
