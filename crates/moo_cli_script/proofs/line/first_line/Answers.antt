use Rattle.std.proofs.Common.{rules, ◌≡◌, ◌+◌, ◌-◌, ◌<◌, length, take, drop, refl, ap, arith}
use Rattle.moo_cli_script.proofs.Cutting.{all_from, cut_found, cut_none}
use Rattle.moo_cli_script.proofs.line.first_line.Goals as goal

pub returns-in-Some : goal.returns-in-Some
returns-in-Some c =
    let text = c.args.text.now in
    cut_found text _ _ c.in-Some.at refl (all_from text (c.in-Some.at + 1)) c.in-Some.ensures.0 c.in-Some.ensures.1

pub returns-in-None : goal.returns-in-None
returns-in-None c =
    let text = c.args.text.now in
    let some : 0 < length text = search rules in
    let zero : length text - length text ≡ 0 = omega arith in
    cut_none text _ some (ap (λ k. length (take k (drop (length text) text))) zero) c.in-None.ensures
