use Rattle.std.proofs.Common.{ℕ, List, subst}
use Rattle.moo_cli_script.specs.ScriptLines.{IsAddressed}
use Rattle.moo_cli_script.proofs.Splits.{cancel_word}
use Rattle.moo_cli_script.proofs.Forms.{match_more}
use Rattle.moo_cli_script.proofs.connection_line.addressed_after.Goals as goal

pub returns : goal.returns
returns c =
    match_more c.addressed.result
    (λ none other d text e a. none d text (subst (λ (l : List ℕ). IsAddressed l d text) (cancel_word c.args.line.now c.args.word.now other c.in-Some.argument.now e c.in-Some.ensures) a))
    (λ x a. (c.in-Some.argument.now, c.in-Some.ensures, a)) c.addressed.ensures
