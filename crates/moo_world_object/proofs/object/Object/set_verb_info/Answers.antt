use Rattle.std.proofs.Common.{◌≡◌, ◌∙◌, ℤ, List, ap, subst}
use Rattle.std.proofs.lemmas.Int.{to_z-of_z}
use Rattle.std.specs.Int.{w32}
use Rattle.moo_world_object.specs.Verbs.{changed_at, with_verb_info}
use Rattle.moo_world_object.specs.declared.verb.Verb.{Verb}
use Rattle.moo_world_object.specs.Objects.{Object as Contents}
use Rattle.moo_world_object.proofs.object.Object.set_verb_info.Goals as goal

pub returns : goal.returns
returns c =
    let F = λ (owner : ℤ). changed_at c.args.index (with_verb_info c.args.names owner c.args.perms) in
    let P : ℤ → Type 0 = λ owner. c.set_info.new.self ≡ F owner c.self.inside.verbs in
    let changed = subst P (to_z-of_z w32 c.args.owner c.ranges.owner) c.set_info.ensures in
    let G : Contents → Contents = λ v. record v { verbs = F c.args.owner v.verbs } in
    ap (λ (verbs : List Verb). record { name = c.self.inside.name; owner = c.self.inside.owner; flags = c.self.inside.flags; verbs = verbs; defined = c.self.inside.defined.items; cells = c.self.inside.cells }) changed
    ∙ ap G c.self.view_is
