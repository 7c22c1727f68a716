use Rattle.std.proofs.Common.{◌≡◌, ◌<◌, [], length, get_or, Some, position, subst, sym, ap, ◌∙◌, arith}
use Rattle.std.proofs.lemmas.List.{get_or_default}
use Rattle.moo_syntax_ast.specs.Slots.{slots}
use Rattle.moo_eval_slot.proofs.Names.{is_own}
use Rattle.moo_eval_slot.proofs.Hinted.{spelled}
use Rattle.moo_eval_slot.proofs.slots.Slots.known_slot.Goals as goal

pub returns-then-is_known_as-clause-there : goal.returns-then-is_known_as-clause-there
returns-then-is_known_as-clause-there c =
    let name = c.args.name.now in
    let p = c.self.inside.program in
    let i = c.hint-hint.result in
    let all = c.slot_names-names.ensures in
    let within : i < length (slots p) = omega (arith, c.if-hint-names.false, ap length all) in
    let own = c.index-names-hint.result in
    let placed = c.index-names-hint.is ∙ ap (λ x. get_or x i own) all ∙ get_or_default (slots p) i own [] within in
    let same : get_or (slots p) i [] ≡ name = sym placed ∙ c.is_known_as.ensures.same c.if-is_known_as.true in
    subst (λ h. position (is_own name) h.names ≡ Some i) c.self.view_is (spelled p i name within same)
