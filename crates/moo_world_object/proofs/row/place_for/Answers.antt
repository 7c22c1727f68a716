use Rattle.std.proofs.Common.{rules, Some, sym, ◌∙◌, ap}
use Rattle.moo_world_object.specs.Cells.{is_key, key_of}
use Rattle.moo_world_object.proofs.Seeking.{hinted, absent_key, place_found, same_some}
use Rattle.moo_world_object.proofs.row.place_for.Goals as goal

pub returns-in-Some-clause-found : goal.returns-in-Some-clause-found
returns-in-Some-clause-found c =
    hinted c.args.cells.now c.args.next c.in-Some.cell.now (key_of c.args.other.now) c.requires.distinct (search rules) (search rules) (sym c.has_key_of.ensures ∙ c.if-has_key_of.true)

pub returns-in_default-clause-found : goal.returns-in_default-clause-found
returns-in_default-clause-found c =
    let known = same_some c.args.absent c.definer.result (sym c.eq.ensures ∙ c.if-eq.true) ∙ ap (λ d. Some d) c.definer.ensures in
    sym (absent_key c.args.cells.now (key_of c.args.other.now) (c.requires.absent c.args.other.now.definer known))

pub returns-in_default-2-clause-found : goal.returns-in_default-2-clause-found
returns-in_default-2-clause-found c = place_found (is_key (key_of c.args.other.now)) c.args.cells.now c.position_of_key.result c.position_of_key.ensures
