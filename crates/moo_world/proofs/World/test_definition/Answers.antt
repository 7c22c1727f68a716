use Rattle.std.proofs.Common.{◌≡◌, ◌<◌, ℕ, leb, sym, ◌∙◌, ap, subst, arith, length, IsSome, refl}
use Rattle.std.specs.List.{list_any}
use Rattle.moo_value.specs.Compare.{folded}
use Rattle.moo_world_tree.specs.Walk.{met, step_at, IsWalkDown}
use Rattle.moo_world_object.specs.Cells.{is_named}
use Rattle.moo_world_table.specs.World.{World, object_of, thing_of, most}
use Rattle.moo_world.specs.PropertyCalls.{define_raises}
use Rattle.moo_world_table.specs.Properties.{is_taken, is_full}
use Rattle.moo_world_table.proofs.Changing.{valid_within}
use Rattle.moo_world_table.proofs.Joining.{walk_low}
use Rattle.moo_world_table.proofs.Allowing.{taken_tested, full_tested}
use Rattle.moo_world.proofs.World.test_definition.Goals as goal

pub walk_down-requires : goal.walk_down-requires
walk_down-requires c =
    let w : World = record { objects = c.self.inside.objects.items; inheritance = c.self.inside.inheritance; containment = c.self.inside.containment; players = c.self.inside.players.items } in
    let valid = subst (λ v. IsSome (object_of v.objects c.args.x)) (sym c.self.view_is) c.requires in
    let low = valid_within w.objects c.args.x valid in omega (arith, low, c.self.invariant.formed.parents.many)

pub some_named-requires : goal.some_named-requires
some_named-requires c =
    let w : World = record { objects = c.self.inside.objects.items; inheritance = c.self.inside.inheritance; containment = c.self.inside.containment; players = c.self.inside.players.items } in
    let valid = subst (λ v. IsSome (object_of v.objects c.args.x)) (sym c.self.view_is) c.requires in
    subst (λ os. (k : ℕ) → k < length c.deref-2.result.now → (step_at c.deref-2.result.now k).node < length os) (sym c.deref.ensures.value)
    (subst (λ ys. (k : ℕ) → k < length ys → (step_at ys k).node < length w.objects) (sym c.deref-2.ensures.value) (walk_low w.objects w.inheritance c.self.invariant.formed.parents c.args.x valid c.in_ok-walk.walk.items c.in_ok-walk.ensures))

pub some_full-requires : goal.some_full-requires
some_full-requires c =
    let w : World = record { objects = c.self.inside.objects.items; inheritance = c.self.inside.inheritance; containment = c.self.inside.containment; players = c.self.inside.players.items } in
    let valid = subst (λ v. IsSome (object_of v.objects c.args.x)) (sym c.self.view_is) c.requires in
    subst (λ os. (k : ℕ) → k < length c.deref-4.result.now → (step_at c.deref-4.result.now k).node < length os) (sym c.deref-3.ensures.value)
    (subst (λ ys. (k : ℕ) → k < length ys → (step_at ys k).node < length w.objects) (sym c.deref-4.ensures.value) (walk_low w.objects w.inheritance c.self.invariant.formed.parents c.args.x valid c.in_ok-walk.walk.items c.in_ok-walk.ensures))

pub returns-then-some_named : goal.returns-then-some_named
returns-then-some_named c =
    let w : World = record { objects = c.self.inside.objects.items; inheritance = c.self.inside.inheritance; containment = c.self.inside.containment; players = c.self.inside.players.items } in
    let valid = subst (λ v. IsSome (object_of v.objects c.args.x)) (sym c.self.view_is) c.requires in
    let taken : c.some_named.result ≡ is_taken w.objects w.inheritance c.args.x (folded c.args.name.now) = c.some_named.ensures ∙
    ap (λ ys. list_any (λ y. list_any (is_named (folded c.args.name.now)) (thing_of c.deref.result.now y).cells) (met ys)) c.deref-2.ensures.value ∙
    ap (λ os. list_any (λ y. list_any (is_named (folded c.args.name.now)) (thing_of os y).cells) (met c.in_ok-walk.walk.items)) c.deref.ensures.value ∙
    taken_tested w c.args.x c.self.invariant.formed valid c.in_ok-walk.walk.items c.in_ok-walk.ensures (folded c.args.name.now) in
    let on = sym taken ∙ c.if-some_named.true in
    ap (λ v. define_raises v c.args.x (folded c.args.name.now)) (sym c.self.view_is) ∙ (rw on refl)

pub returns-then-some_full : goal.returns-then-some_full
returns-then-some_full c =
    let w : World = record { objects = c.self.inside.objects.items; inheritance = c.self.inside.inheritance; containment = c.self.inside.containment; players = c.self.inside.players.items } in
    let valid = subst (λ v. IsSome (object_of v.objects c.args.x)) (sym c.self.view_is) c.requires in
    let taken : c.some_named.result ≡ is_taken w.objects w.inheritance c.args.x (folded c.args.name.now) = c.some_named.ensures ∙
    ap (λ ys. list_any (λ y. list_any (is_named (folded c.args.name.now)) (thing_of c.deref.result.now y).cells) (met ys)) c.deref-2.ensures.value ∙
    ap (λ os. list_any (λ y. list_any (is_named (folded c.args.name.now)) (thing_of os y).cells) (met c.in_ok-walk.walk.items)) c.deref.ensures.value ∙
    taken_tested w c.args.x c.self.invariant.formed valid c.in_ok-walk.walk.items c.in_ok-walk.ensures (folded c.args.name.now) in
    let full : c.some_full.result ≡ is_full w.objects w.inheritance c.args.x = c.some_full.ensures ∙
    ap (λ ys. list_any (λ y. leb most (length (thing_of c.deref-3.result.now y).cells)) (met ys)) c.deref-4.ensures.value ∙
    ap (λ os. list_any (λ y. leb most (length (thing_of os y).cells)) (met c.in_ok-walk.walk.items)) c.deref-3.ensures.value ∙
    full_tested w c.args.x c.self.invariant.formed valid c.in_ok-walk.walk.items c.in_ok-walk.ensures in
    let off = sym taken ∙ c.if-some_named.false in
    let on = sym full ∙ c.if-some_full.true in
    ap (λ v. define_raises v c.args.x (folded c.args.name.now)) (sym c.self.view_is) ∙ (rw (off, on) refl)

pub returns : goal.returns
returns c =
    let w : World = record { objects = c.self.inside.objects.items; inheritance = c.self.inside.inheritance; containment = c.self.inside.containment; players = c.self.inside.players.items } in
    let valid = subst (λ v. IsSome (object_of v.objects c.args.x)) (sym c.self.view_is) c.requires in
    let taken : c.some_named.result ≡ is_taken w.objects w.inheritance c.args.x (folded c.args.name.now) = c.some_named.ensures ∙
    ap (λ ys. list_any (λ y. list_any (is_named (folded c.args.name.now)) (thing_of c.deref.result.now y).cells) (met ys)) c.deref-2.ensures.value ∙
    ap (λ os. list_any (λ y. list_any (is_named (folded c.args.name.now)) (thing_of os y).cells) (met c.in_ok-walk.walk.items)) c.deref.ensures.value ∙
    taken_tested w c.args.x c.self.invariant.formed valid c.in_ok-walk.walk.items c.in_ok-walk.ensures (folded c.args.name.now) in
    let full : c.some_full.result ≡ is_full w.objects w.inheritance c.args.x = c.some_full.ensures ∙
    ap (λ ys. list_any (λ y. leb most (length (thing_of c.deref-3.result.now y).cells)) (met ys)) c.deref-4.ensures.value ∙
    ap (λ os. list_any (λ y. leb most (length (thing_of os y).cells)) (met c.in_ok-walk.walk.items)) c.deref-3.ensures.value ∙
    full_tested w c.args.x c.self.invariant.formed valid c.in_ok-walk.walk.items c.in_ok-walk.ensures in
    let off = sym taken ∙ c.if-some_named.false in
    let free = sym full ∙ c.if-some_full.false in (
      ap (λ v. define_raises v c.args.x (folded c.args.name.now)) (sym c.self.view_is) ∙ (rw (off, free) refl),
      subst (λ v. IsWalkDown v.inheritance c.args.x c.in_ok-walk.walk.items) c.self.view_is c.in_ok-walk.ensures,
    )
