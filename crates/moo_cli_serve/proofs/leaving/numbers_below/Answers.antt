use Rattle.std.proofs.Common.{◌≡◌, ℕ, List, [], ◌∷◌, ◌++◌, Contains, sym, ◌∙◌, ap, subst, rules}
use Rattle.moo_cli_serve.proofs.Idling.{listed_more}
use Rattle.moo_cli_serve.proofs.leaving.numbers_below.Goals as goal

pub loop-key-preserved : goal.loop-key-preserved
loop-key-preserved c k less =
    let same : c.in-Ok.c ≡ c.loop-key.key = search rules in
    subst (λ (ns : List ℕ). Contains ns k) (sym (c.in_ok-push.ensures.items ∙ ap (λ (n : ℕ). c.loop-key.numbers.items ++ n ∷ []) same))
    (listed_more c.loop-key.numbers.items c.loop-key.key c.loop-key.invariant k less)
