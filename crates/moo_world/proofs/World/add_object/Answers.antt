use Rattle.std.proofs.Common.{◌≡◌, ◌++◌, ◌∷◌, [], Some, refl, sym, ◌∙◌, ap, arith, length, subst, map, w32}
use Rattle.std.proofs.lemmas.Int.{to_z-of_z}
use Rattle.std.proofs.lemmas.Grind.{common_steps}
use Rattle.moo_world_tree.specs.Forest.{alone, moved}
use Rattle.moo_world_object.specs.Cells.{cleared}
use Rattle.moo_world_table.specs.World.{World, cells_of}
use Rattle.moo_world_table.proofs.Counting.{programs_added}
use Rattle.moo_world_table.proofs.Changing.{IsValidPlace, valid_within}
use Rattle.moo_world_table.proofs.Newborns.{create_well_formed, made}
use Rattle.moo_world.proofs.World.add_object.Goals as goal

pub cells_of-requires : goal.cells_of-requires
cells_of-requires c up is =
    let valid = subst (λ v. IsValidPlace v.objects c.args.p) (sym c.self.view_is) c.requires in
    let len = ap length c.deref.ensures.value in
    omega (arith, valid_within c.self.inside.objects.items up (valid up is), len)

pub invariant_of-self-then-is_err : goal.invariant_of-self-then-is_err
invariant_of-self-then-is_err c =
    let objects : c.pop_object.new.objects.items ≡ c.self.inside.objects.items = grind (arith, common_steps) in
    let places : c.add.new.self ≡ c.self.inside.containment = grind (arith, common_steps) in
    rw (objects, places) c.self.invariant

pub invariant_of-self-then-is_err-2 : goal.invariant_of-self-then-is_err-2
invariant_of-self-then-is_err-2 c =
    let objects : c.pop_object-then-is_err-2.new.objects.items ≡ c.self.inside.objects.items = grind (arith, common_steps) in
    let parents : c.add_below.new.self ≡ c.self.inside.inheritance = grind (arith, common_steps) in
    let places : c.remove_last.new.self ≡ c.self.inside.containment = grind (arith, common_steps) in
    rw (objects, parents, places) c.self.invariant

pub invariant_of-self-else-is_err-2 : goal.invariant_of-self-else-is_err-2
invariant_of-self-else-is_err-2 c =
    let w : World = record { objects = c.self.inside.objects.items; inheritance = c.self.inside.inheritance; containment = c.self.inside.containment; players = c.self.inside.players.items } in
    let valid = subst (λ v. IsValidPlace v.objects c.args.p) (sym c.self.view_is) c.requires in
    let cells : c.cells_of.result.now ≡ cells_of w.objects c.args.p = c.cells_of.ensures ∙ ap (λ os. cells_of os c.args.p) c.deref.ensures.value in
    let owner = to_z-of_z w32 c.args.owner c.ranges.owner in
    let child : c.in_ok-object.object ≡ record (made w c.args.p c.args.owner) { cells = map (cleared c.args.owner) c.cells_of.result.now } = simp owner at c.in_ok-object.ensures in
    let object : c.in_ok-object.object ≡ made w c.args.p c.args.owner = child ∙ ap (λ cs. record (made w c.args.p c.args.owner) { cells = map (cleared c.args.owner) cs }) cells in
    let objects : c.push.new.self.items ≡ w.objects ++ Some (made w c.args.p c.args.owner) ∷ [] = c.in_ok-push.ensures.items ∙ ap (λ o. w.objects ++ Some o ∷ []) object in
    let told : c.add_below.new.self ≡ moved (c.self.inside.inheritance ++ alone ∷ []) (length c.self.inside.inheritance) c.args.p = grind (arith, common_steps) in
    let parents : c.add_below.new.self ≡ moved (w.inheritance ++ alone ∷ []) (length w.objects) c.args.p = told ∙ ap (λ n. moved (w.inheritance ++ alone ∷ []) n c.args.p) c.self.invariant.formed.parents.many in
    let places : c.add.new.self ≡ w.containment ++ alone ∷ [] = grind (arith, common_steps) in
    rw (objects, parents, places) (record { formed = (create_well_formed w c.self.invariant.formed c.args.p c.args.owner c.ranges.owner valid (omega (arith, c.len.ensures, c.self.inside.objects.ok.0))); counted = c.self.invariant.counted ∙ sym (programs_added w.objects (made w c.args.p c.args.owner) refl) })
