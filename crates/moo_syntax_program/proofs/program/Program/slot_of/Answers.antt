use Rattle.std.proofs.Common.{◌≡◌, ◌∙◌, subst}
use Rattle.moo_syntax_ast.specs.Slots.{slots}
use Rattle.moo_syntax_ast.proofs.EachOnce.{once}
use Rattle.moo_value.specs.Compare.{folded}
use Rattle.moo_syntax_program.specs.Order.{AreOrdered}
use Rattle.moo_syntax_program.proofs.Folded.{slot_folded}
use Rattle.moo_syntax_program.proofs.program.Program.slot_of.Goals as goal

pub returns : goal.returns
returns c =
    let p = c.args.self.now in
    let inside = c.self.inside in
    let names : inside.parts.value.names.items ≡ slots p = cc in
    let order : inside.parts.value.order.items ≡ c.as_slice.result.now = cc in
    let o : AreOrdered (slots p) c.as_slice.result.now = subst (AreOrdered (slots p)) order (subst (λ v. AreOrdered v inside.parts.value.order.items) names c.self.invariant.3) in
    c.slot_among.ensures (slots p) o (once p) ∙ slot_folded p (folded c.args.name.now)
