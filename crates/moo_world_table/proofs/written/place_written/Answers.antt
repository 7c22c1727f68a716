use Rattle.moo_value.specs.Compare.{folded}
use Rattle.moo_world_table.proofs.Once.{place_found}
use Rattle.moo_world_table.proofs.written.place_written.Goals as goal

pub returns-in-Some : goal.returns-in-Some
returns-in-Some c = place_found (folded c.args.name.now) c.args.cells.now c.in-Some.place c.requires.once c.in-Some.ensures.0 c.in-Some.ensures.1
