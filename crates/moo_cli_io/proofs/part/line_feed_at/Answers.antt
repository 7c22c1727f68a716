use Rattle.std.proofs.Common.{◌≢◌, ℕ, List, All, subst, take_all}
use Rattle.moo_cli_io.proofs.part.line_feed_at.Goals as goal

pub returns-clause-none : goal.returns-clause-none
returns-clause-none c =
    let P : List ℕ → Type 0 = λ bytes. All (λ b. b ≢ 10) bytes in
    subst P (take_all _ _ c.loop-i-test.false) c.loop-i.invariant
