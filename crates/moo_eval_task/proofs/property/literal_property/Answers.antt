use Rattle.std.proofs.Common.{w32, rules, refl}
use Rattle.std.proofs.lemmas.Int.{to_z-of_z}
use mir.Val.{SFits}
use Rattle.moo_syntax_node.specs.Source.{source}
use Rattle.moo_eval_task.proofs.property.literal_property.Goals as goal

pub returns : goal.returns
returns c =
    let object : SFits w32 c.in_ok-object.object = search rules in
    (source c.in-Property.base.value, rw (c.in-Property.is, ← c.deref.ensures, c.in_ok-name.ensures) refl, rw (to_z-of_z w32 c.in_ok-object.object object, ← c.deref-2.ensures) c.in_ok-object.ensures)
