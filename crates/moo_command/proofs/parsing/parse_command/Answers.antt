use Rattle.std.proofs.Common.{◌≡◌, w32, SFits, rules, subst, ℤ, List, [], ℕ, to_z, of_z}
use Rattle.std.proofs.lemmas.Int.{to_z-of_z}
use Rattle.std.proofs.lemmas.Result.{IfOk-weaker}
use Rattle.moo_command.specs.Commands.{Commands, IsCommandOf, says_nothing}
use Rattle.moo_command.specs.Words.{Words}
use Rattle.moo_command.specs.Seen.{command_of}
use Rattle.moo_command.proofs.Signs.{some_then, nothing_expanded}
use Rattle.moo_command.proofs.parsing.parse_command.Goals as goal

pub returns-in-Some : goal.returns-in-Some
returns-in-Some c =
    let same = some_then c.in_ok-typed.field-0 c.in-Some.typed (λ t. t.line ≡ c.args.line.now) c.in-Some.is c.in_ok-typed.ensures.line in
    let fits : SFits w32 c.args.player = search rules in
    IfOk-weaker c.parse_typed.result _ _ (λ command h.
    subst (λ (o : ℤ). Commands c.args.world.now o c.args.line.now (command_of command)) (to_z-of_z w32 c.args.player fits) (
    subst (λ (line : List ℕ). Commands c.args.world.now (to_z w32 (of_z w32 c.args.player)) line (command_of command)) same h
    )
    ) c.parse_typed.ensures

pub returns-in_ok-nothing_typed-in-None : goal.returns-in_ok-nothing_typed-in-None
returns-in_ok-nothing_typed-in-None c =
    let w = c.args.world.now in
    let z : ℤ = to_z w32 (of_z w32 c.args.player) in
    let t = c.in_ok-nothing_typed-in-None.field-0 in
    let is = c.in_ok-nothing_typed-in-None.ensures in
    let none : Words c.args.line.now [] = rw c.in-None.is at c.in_ok-typed.ensures.none in
    let fits : SFits w32 c.args.player = search rules in
    IfOk-weaker c.command.result _ _ (λ command h.
    says_nothing (nothing_expanded c.args.line.now none) (
    subst (λ (o : ℤ). IsCommandOf w o [] [] [] (command_of command)) (to_z-of_z w32 c.args.player fits) (
    subst (λ (verb : List ℕ). IsCommandOf w z verb [] [] (command_of command)) is.verb (
    subst (λ (rest : List ℕ). IsCommandOf w z t.verb rest [] (command_of command)) is.rest (
    subst (λ (args : List (List ℕ)). IsCommandOf w z t.verb t.rest args (command_of command)) is.args h
    )
    )
    )
    )
    ) c.command.ensures
