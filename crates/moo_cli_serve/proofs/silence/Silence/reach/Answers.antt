use Rattle.std.proofs.Common.{ℕ, List, ◌+◌, length, get_or, ◌∙◌, ap, arith}
use Rattle.std.proofs.lemmas.List.{length_push}
use Rattle.moo_cli_serve.proofs.Hearing.{padded}
use Rattle.moo_cli_serve.proofs.silence.Silence.reach.Goals as goal

pub loop-filled-preserved : goal.loop-filled-preserved
loop-filled-preserved c = record {
  reached = ap (λ (xs : List ℕ). length xs) c.in_ok-push.ensures.items ∙ length_push c.loop-filled.self.heard.items 0 ∙ ap (λ (n : ℕ). n + 1) c.loop-filled.invariant.reached;
  heard = λ k. ap (λ (xs : List ℕ). get_or xs k 0) c.in_ok-push.ensures.items ∙ padded c.loop-filled.self.heard.items k ∙ c.loop-filled.invariant.heard k;
  limit = c.loop-filled.invariant.limit;
}

pub returns-clause-reaches : goal.returns-clause-reaches
returns-clause-reaches c = omega (arith, c.loop-filled-test.false, c.loop-filled.invariant.reached)
