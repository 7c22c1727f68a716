use Rattle.std.proofs.Common.{sym, ◌∙◌, ap}
use Rattle.moo_world_table.specs.World.{World}
use Rattle.moo_world.specs.Calls.{parent_raises}
use Rattle.moo_world_table.proofs.Staying.{place_same}
use Rattle.moo_world.proofs.Raising.{unmoved}
use Rattle.moo_world.proofs.World.test_parent.Goals as goal

pub returns-then-eq-clause-raises : goal.returns-then-eq-clause-raises
returns-then-eq-clause-raises c =
    let w : World = record { objects = c.self.inside.objects.items; inheritance = c.self.inside.inheritance; containment = c.self.inside.containment; players = c.self.inside.players.items } in
    let same = sym c.above.ensures.value ∙ place_same c.above.result c.args.p (sym c.eq.ensures ∙ c.if-eq.true) in
    (ap (λ v. parent_raises v c.args.x c.args.p) (sym c.self.view_is) ∙ unmoved w c.args.x c.args.p c.self.invariant.formed same, tt)
