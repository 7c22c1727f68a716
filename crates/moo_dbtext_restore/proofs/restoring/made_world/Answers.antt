use Rattle.std.proofs.Common.{subst, ◌∙◌, FitsSigned, w32}
use Rattle.std.specs.List.{All}
use Rattle.moo_dbtext_restore.specs.Links.{IsTreeOf}
use Rattle.moo_dbtext_restore.specs.Plain.{programs_by_object}
use Rattle.moo_dbtext_restore.proofs.Checked.{parents_sound, places_sound, world_is_formed, world_is_said}
use Rattle.moo_dbtext_restore.proofs.restoring.made_world.Goals as goal

pub forest_in-requires : goal.forest_in-requires
forest_in-requires c = parents_sound c.args.objects.now c.args.parents.now c.requires.links c.requires.placed

pub forest_in-requires-2 : goal.forest_in-requires-2
forest_in-requires-2 c = places_sound c.args.objects.now c.deref.result.now (c.deref.ensures.value ∙ c.in_ok-places.ensures) c.requires.placed

pub from_parts-requires : goal.from_parts-requires
from_parts-requires c =
    let objects = c.args.objects.now in
    world_is_formed objects (programs_by_object c.args.programs.now) c.args.players.items c.requires.limits (subst (All (FitsSigned w32)) c.deref-2.ensures.value c.players_fit.ensures) c.requires.placed c.requires.counted
    c.in_ok-made.made.items c.in_ok-inheritance.inheritance c.in_ok-containment.containment c.in_ok-made.ensures c.in_ok-inheritance.ensures.forest c.in_ok-containment.ensures.forest
    (subst (λ l. IsTreeOf l c.in_ok-inheritance.inheritance) c.requires.links c.in_ok-inheritance.ensures.tree)
    (subst (λ l. IsTreeOf l c.in_ok-containment.containment) (c.deref.ensures.value ∙ c.in_ok-places.ensures) c.in_ok-containment.ensures.tree)

pub returns : goal.returns
returns c =
    let objects = c.args.objects.now in
    rw c.from_parts.ensures
    (world_is_said objects (programs_by_object c.args.programs.now) c.args.players.items c.requires.limits (subst (All (FitsSigned w32)) c.deref-2.ensures.value c.players_fit.ensures) c.requires.placed c.requires.counted
    c.in_ok-made.made.items c.in_ok-inheritance.inheritance c.in_ok-containment.containment c.in_ok-made.ensures c.in_ok-inheritance.ensures.forest c.in_ok-containment.ensures.forest
    (subst (λ l. IsTreeOf l c.in_ok-inheritance.inheritance) c.requires.links c.in_ok-inheritance.ensures.tree)
    (subst (λ l. IsTreeOf l c.in_ok-containment.containment) (c.deref.ensures.value ∙ c.in_ok-places.ensures) c.in_ok-containment.ensures.tree))
