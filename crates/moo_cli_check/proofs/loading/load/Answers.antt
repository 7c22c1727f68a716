use Rattle.std.proofs.Common.{ℕ, List, IfSome, Err, MatchResult, subst}
use Rattle.moo_dbtext_read.specs.Feeding.{HasFed}
use Rattle.moo_dbtext_read.specs.Loading.{LoadAnswers}
use Rattle.moo_cli_io.proofs.GivenUp.{if_some}
use Rattle.moo_cli_check.proofs.loading.load.Goals as goal

pub returns-in-Ok-2-clause-answer : goal.returns-in-Ok-2-clause-answer
returns-in-Ok-2-clause-answer g c =
    let known = g.I.Read.remaining c.args.input.now in
    let reader = c.feed_all.new.reader in
    if_some (λ (b : List ℕ). HasFed reader b) (λ (b : List ℕ). LoadAnswers c.finish_leaving.result b) known (λ b h. c.finish_leaving.ensures.answer b h)
    (subst (λ r. IfSome known (λ (b : List ℕ). MatchResult r (λ _. HasFed reader b) (λ e. LoadAnswers (Err e) b))) c.in-Ok-2.is c.in_ok-feed_all.ensures.fed)

pub returns-in-Err-clause-answer : goal.returns-in-Err-clause-answer
returns-in-Err-clause-answer g c =
    let known = g.I.Read.remaining c.args.input.now in
    subst (λ r. IfSome known (λ (b : List ℕ). MatchResult r (λ _. HasFed c.feed_all.new.reader b) (λ e. LoadAnswers (Err e) b))) c.in-Err.is c.in_ok-feed_all.ensures.fed
