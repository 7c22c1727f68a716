use Rattle.std.proofs.Common.{◌≡◌, ℕ, List, ◌++◌, IfSome, Some, MatchOption, sym, subst}
use Rattle.std.specs.Prelude.{Option}
use Rattle.moo_cli_io.proofs.GivenUp.{if_some}
use Rattle.moo_cli_check.specs.Answers.{HaveFed, IsHalted, Answers}
use Rattle.moo_cli_check.specs.declared.readers.Halt.{Halt}
use Rattle.moo_cli_check.proofs.readers.survey.Goals as goal

pub returns-in-None-clause-answer : goal.returns-in-None-clause-answer
returns-in-None-clause-answer g c =
    let known = g.I.Read.remaining c.args.input.now in
    let readers = c.feed_all.new.readers in
    let fed : Option Halt → List ℕ → Type 0 = λ halt b. MatchOption halt (HaveFed readers b) (λ h. (front : List ℕ) × (more : List ℕ) × (b ≡ front ++ more) × IsHalted front readers.survey.faults.items h) in
    if_some (HaveFed readers) (Answers c.finish.result) known c.finish.ensures (subst (λ halt. IfSome known (fed halt)) c.in-None.is c.in_ok-feed_all.ensures.fed)

pub returns-clause-answer : goal.returns-clause-answer
returns-clause-answer g c =
    let known = g.I.Read.remaining c.args.input.now in
    let readers = c.feed_all.new.readers in
    let fed : Option Halt → List ℕ → Type 0 = λ halt b. MatchOption halt (HaveFed readers b) (λ h. (front : List ℕ) × (more : List ℕ) × (b ≡ front ++ more) × IsHalted front readers.survey.faults.items h) in
    if_some (fed (Some c.in-Some.halt)) (Answers c.halted.result) known (λ b h. subst (Answers c.halted.result) (sym h.2) (c.halted.ensures h.0 h.1 h.3))
    (subst (λ halt. IfSome known (fed halt)) c.in-Some.is c.in_ok-feed_all.ensures.fed)
