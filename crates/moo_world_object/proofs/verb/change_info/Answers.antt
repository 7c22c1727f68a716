use Rattle.std.proofs.Common.{◌∙◌, ap}
use Rattle.std.proofs.lemmas.Int.{to_z-of_z}
use Rattle.std.specs.Int.{w32}
use Rattle.moo_world_object.specs.Verbs.{with_verb_info}
use Rattle.moo_world_object.proofs.Verbs.{set_changed}
use Rattle.moo_world_object.proofs.verb.change_info.Goals as goal

pub returns : goal.returns
returns c =
    set_changed (with_verb_info c.args.names c.args.owner c.args.perms) c.args.verbs.now.items c.args.index c.index_mut.result.now c.set_info.new.self c.requires c.index_mut.ensures.value
    (c.set_info.ensures ∙ ap (λ owner. with_verb_info c.args.names owner c.args.perms c.index_mut.result.now) (to_z-of_z w32 c.args.owner c.ranges.owner))
