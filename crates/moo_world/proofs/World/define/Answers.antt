use Rattle.std.proofs.Common.{◌≡◌, Some, None, sym, ◌∙◌, ap, subst, w32, FitsSigned}
use Rattle.std.specs.Option.{is_some}
use Rattle.std.proofs.lemmas.Int.{to_z-of_z}
use Rattle.moo_value.specs.Compare.{folded}
use Rattle.moo_value.specs.View.{tree}
use Rattle.moo_world_tree.specs.Walk.{IsWalkDown}
use Rattle.moo_world_object.specs.BuiltIn.{built_in_of}
use Rattle.moo_world_object.specs.Cells.{Cell, key_of, own_cell}
use Rattle.moo_world_table.specs.World.{HasStored}
use Rattle.moo_world_table.specs.Changes.{after_define}
use Rattle.moo_world.specs.Calls.{Changes}
use Rattle.moo_world.specs.PropertyCalls.{add_property_raises, define_raises}
use Rattle.moo_world_table.specs.Properties.{is_taken, is_full}
use Rattle.moo_world_table.proofs.Allowing.{define_free, property_free}
use Rattle.moo_world.proofs.Raising.{name_allowed, nothing_first}
use Rattle.moo_world.proofs.World.define.Goals as goal

pub put_definition-requires : goal.put_definition-requires
put_definition-requires c =
    let w = c.args.self.now in
    let owner = to_z-of_z w32 c.args.owner c.ranges.owner in
    let raises : add_property_raises w (Some c.args.x) (folded c.args.name) ≡ None = ap (λ n. add_property_raises w (Some c.args.x) (folded n)) (sym c.as_bytes.ensures.value) ∙ c.in_ok-walk.ensures.walk.0 in
    let free = define_free (is_taken w.objects w.inheritance c.args.x (folded c.args.name)) (is_full w.objects w.inheritance c.args.x)
    (property_free (is_some (built_in_of (folded c.args.name))) (define_raises w c.args.x (folded c.args.name)) raises) in
    record {
      object = c.requires;
      allowed = record {
        free = free.0;
        roomy = free.1;
        own = ap key_of c.defined-cell.ensures ∙ ap (λ n. (c.args.x, folded n)) c.in_ok-try_clone.ensures;
        filled = ap (λ (l : Cell). is_some l.value) c.defined-cell.ensures;
        owner = subst (FitsSigned w32) (sym (ap (λ (l : Cell). l.owner) (simp owner at c.defined-cell.ensures))) c.ranges.owner;
        stored = subst (λ v. HasStored v) (sym (ap (λ (l : Cell). l.value) c.defined-cell.ensures)) (c.weight-weight.ensures.value, c.weight-weight.ensures.limits);
        string = c.as_bytes.ensures.string;
      };
      walk = subst (λ ys. IsWalkDown w.inheritance c.args.x ys) (sym c.deref.ensures.value) c.in_ok-walk.ensures.walk.1;
    }

pub returns-clause-world : goal.returns-clause-world
returns-clause-world c =
    let w = c.args.self.now in
    let raises : add_property_raises w (Some c.args.x) (folded c.args.name) ≡ None = ap (λ n. add_property_raises w (Some c.args.x) (folded n)) (sym c.as_bytes.ensures.value) ∙ c.in_ok-walk.ensures.walk.0 in
    let owner = to_z-of_z w32 c.args.owner c.ranges.owner in
    let cell : c.defined-cell.result ≡ own_cell c.args.x (folded c.args.name) (tree c.args.value) c.args.owner c.args.perms =
    simp owner at c.defined-cell.ensures ∙ ap (λ n. own_cell c.args.x (folded n) (tree c.args.value) c.args.owner c.args.perms) c.in_ok-try_clone.ensures in
    subst (λ r. Changes c.put_definition.result w c.put_definition.new.self r (after_define w c.args.x c.args.name (own_cell c.args.x (folded c.args.name) (tree c.args.value) c.args.owner c.args.perms))) (sym raises)
    (subst (λ l. Changes c.put_definition.result w c.put_definition.new.self None (after_define w c.args.x c.args.name l)) cell c.put_definition.ensures)

pub returns-clause-memory : goal.returns-clause-memory
returns-clause-memory c =
    let w = c.args.self.now in
    let raises : add_property_raises w (Some c.args.x) (folded c.args.name) ≡ None = ap (λ n. add_property_raises w (Some c.args.x) (folded n)) (sym c.as_bytes.ensures.value) ∙ c.in_ok-walk.ensures.walk.0 in
    nothing_first c.put_definition.result _ (name_allowed w c.args.x (folded c.args.name) raises)
