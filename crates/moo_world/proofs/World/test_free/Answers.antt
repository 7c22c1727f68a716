use Rattle.std.proofs.Common.{◌≡◌, ◌<◌, ℕ, sym, ◌∙◌, ap, subst, arith, length, IsSome, refl}
use Rattle.std.specs.List.{list_any}
use Rattle.moo_value.specs.Compare.{folded}
use Rattle.moo_world_tree.specs.Walk.{met, step_at}
use Rattle.moo_world_object.specs.Cells.{is_named}
use Rattle.moo_world_table.specs.World.{World, object_of, thing_of}
use Rattle.moo_world_table.specs.Properties.{is_taken}
use Rattle.moo_world.specs.InfoCalls.{taken_raises}
use Rattle.moo_world_table.proofs.Changing.{valid_within}
use Rattle.moo_world_table.proofs.Joining.{walk_low}
use Rattle.moo_world_table.proofs.Allowing.{taken_tested}
use Rattle.moo_world.proofs.World.test_free.Goals as goal

pub walk_down-requires : goal.walk_down-requires
walk_down-requires c =
    let w : World = record { objects = c.self.inside.objects.items; inheritance = c.self.inside.inheritance; containment = c.self.inside.containment; players = c.self.inside.players.items } in
    let valid = subst (λ v. IsSome (object_of v.objects c.args.x)) (sym c.self.view_is) c.requires in
    let low = valid_within w.objects c.args.x valid in omega (arith, low, c.self.invariant.formed.parents.many)

pub some_named-requires : goal.some_named-requires
some_named-requires c =
    let w : World = record { objects = c.self.inside.objects.items; inheritance = c.self.inside.inheritance; containment = c.self.inside.containment; players = c.self.inside.players.items } in
    let valid = subst (λ v. IsSome (object_of v.objects c.args.x)) (sym c.self.view_is) c.requires in
    subst (λ os. (k : ℕ) → k < length c.deref-2.result.now → (step_at c.deref-2.result.now k).node < length os) (sym c.deref.ensures.value)
    (subst (λ ys. (k : ℕ) → k < length ys → (step_at ys k).node < length w.objects) (sym c.deref-2.ensures.value) (walk_low w.objects w.inheritance c.self.invariant.formed.parents c.args.x valid c.in_ok-walk.walk.items c.in_ok-walk.ensures))

pub returns-then-some_named : goal.returns-then-some_named
returns-then-some_named c =
    let w : World = record { objects = c.self.inside.objects.items; inheritance = c.self.inside.inheritance; containment = c.self.inside.containment; players = c.self.inside.players.items } in
    let valid = subst (λ v. IsSome (object_of v.objects c.args.x)) (sym c.self.view_is) c.requires in
    let taken : c.some_named.result ≡ is_taken w.objects w.inheritance c.args.x (folded c.args.name.now) = c.some_named.ensures ∙
    ap (λ ys. list_any (λ y. list_any (is_named (folded c.args.name.now)) (thing_of c.deref.result.now y).cells) (met ys)) c.deref-2.ensures.value ∙
    ap (λ os. list_any (λ y. list_any (is_named (folded c.args.name.now)) (thing_of os y).cells) (met c.in_ok-walk.walk.items)) c.deref.ensures.value ∙
    taken_tested w c.args.x c.self.invariant.formed valid c.in_ok-walk.walk.items c.in_ok-walk.ensures (folded c.args.name.now) in
    let on = sym taken ∙ c.if-some_named.true in
    ap (λ v. taken_raises v c.args.x (folded c.args.name.now)) (sym c.self.view_is) ∙ (rw on refl)

pub returns : goal.returns
returns c =
    let w : World = record { objects = c.self.inside.objects.items; inheritance = c.self.inside.inheritance; containment = c.self.inside.containment; players = c.self.inside.players.items } in
    let valid = subst (λ v. IsSome (object_of v.objects c.args.x)) (sym c.self.view_is) c.requires in
    let taken : c.some_named.result ≡ is_taken w.objects w.inheritance c.args.x (folded c.args.name.now) = c.some_named.ensures ∙
    ap (λ ys. list_any (λ y. list_any (is_named (folded c.args.name.now)) (thing_of c.deref.result.now y).cells) (met ys)) c.deref-2.ensures.value ∙
    ap (λ os. list_any (λ y. list_any (is_named (folded c.args.name.now)) (thing_of os y).cells) (met c.in_ok-walk.walk.items)) c.deref.ensures.value ∙
    taken_tested w c.args.x c.self.invariant.formed valid c.in_ok-walk.walk.items c.in_ok-walk.ensures (folded c.args.name.now) in
    let off = sym taken ∙ c.if-some_named.false in
    (ap (λ v. taken_raises v c.args.x (folded c.args.name.now)) (sym c.self.view_is) ∙ (rw off refl), tt)
