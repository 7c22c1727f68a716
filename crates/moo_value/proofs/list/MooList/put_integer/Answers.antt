use Rattle.std.proofs.Common.{ap, ◌∙◌, arith, length, set, ◌≡◌, w32}
use Rattle.std.proofs.lemmas.Int.{to_z-of_z}
use Rattle.std.proofs.lemmas.List.{length-map}
use Rattle.moo_value.specs.View.{tree, trees}
use Rattle.moo_value.specs.Tree.{integer}
use Rattle.moo_value.specs.declared.value.Value.TheVariants.{Int}
use Rattle.moo_value.proofs.Replaced.{trees_set}
use Rattle.moo_value.proofs.list.MooList.put_integer.Goals as goal

pub returns-clause-put : goal.returns-clause-put
returns-clause-put c = λ t.
    let p = rw (to_z-of_z w32 c.args.number c.ranges.number) at c.puts_integer.ensures.put t in
    let view : trees c.in-Some.own.now.0.items ≡ c.args.self.now = ap (λ v. trees v.0.items) c.in-Some.ensures.value ∙ c.self.view_is in
    (omega (arith, p.0, length-map c.in-Some.own.now.0.items tree, ap length view), ap trees p.1 ∙ trees_set c.in-Some.own.now.0.items c.args.index (Int c.args.number) ∙ ap (λ ts. set ts c.args.index (integer c.args.number)) view)
