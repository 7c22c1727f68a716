use Rattle.std.proofs.Common.{w32, SFits, rules, subst, ℤ}
use Rattle.std.proofs.lemmas.Int.{to_z-of_z}
use Rattle.std.proofs.lemmas.Result.{IfOk-weaker}
use Rattle.moo_command.specs.Commands.{IsCommandOf, says}
use Rattle.moo_command.specs.Seen.{command_of}
use Rattle.moo_command.proofs.parsing.parse_typed.Goals as goal

pub returns : goal.returns
returns c =
    let t = c.in_ok-typed.typed in
    let fits : SFits w32 c.args.player = search rules in
    IfOk-weaker c.command.result _ _ (λ command h.
    says c.in_ok-typed.ensures.split (
    subst (λ (o : ℤ). IsCommandOf c.args.world.now o t.verb t.rest t.args.items (command_of command)) (to_z-of_z w32 c.args.player fits) h
    )
    ) c.command.ensures
