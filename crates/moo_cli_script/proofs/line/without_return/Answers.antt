use Rattle.std.proofs.Common.{rules, ◌≡◌, ◌≢◌, ◌++◌, [], ◌∷◌, sym, ◌∙◌, ap}
use Rattle.moo_cli_script.specs.Lines.{without_return}
use Rattle.moo_cli_script.proofs.Cutting.{not_returned, nothing_returned, returned}
use Rattle.moo_cli_script.proofs.line.without_return.Goals as goal

pub returns-in_default : goal.returns-in_default
returns-in_default c = nothing_returned c.args.line.now (search rules)

pub returns-then-last-eq13 : goal.returns-then-last-eq13
returns-then-last-eq13 c =
    let front = c.in-Some.front.now in
    let is : c.in-Some.last.now ≡ 13 = search rules in
    sym (ap without_return (c.in-Some.ensures.cases.0 ∙ ap (λ b. front ++ b ∷ []) is) ∙ returned front)

pub returns : goal.returns
returns c =
    let other : c.in-Some.last.now ≢ 13 = search rules in
    c.in-Some.ensures.cases.0 ∙ sym (not_returned c.in-Some.front.now c.in-Some.last.now other) ∙ ap without_return (sym c.in-Some.ensures.cases.0)
