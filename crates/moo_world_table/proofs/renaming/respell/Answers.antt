use Rattle.std.proofs.Common.{sym, ◌∙◌, ap}
use Rattle.moo_value.specs.Compare.{folded}
use Rattle.moo_world_object.specs.Objects.{Object}
use Rattle.moo_world_table.proofs.Respelling.{spelled, unspelled}
use Rattle.moo_world_table.proofs.renaming.respell.Goals as goal

pub returns-in-Some : goal.returns-in-Some
returns-in-Some c =
    let o = c.args.object.now in
    c.rename_definition.ensures ∙
    ap (λ ds. (let p : Object = record o { defined = ds } in p)) (spelled (folded c.args.name.now) c.args.new_name o.defined c.in-Some.index (sym c.in-Some.is ∙ c.definition_position.ensures))

pub returns-in_default : goal.returns-in_default
returns-in_default c =
    let o = c.args.object.now in
    ap (λ ds. (let p : Object = record o { defined = ds } in p)) (unspelled (folded c.args.name.now) c.args.new_name o.defined (sym c.in_default.is ∙ c.definition_position.ensures))
