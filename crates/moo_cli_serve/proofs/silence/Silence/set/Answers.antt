use Rattle.std.proofs.Common.{◌≡◌, ℕ, get_or, set, sym, ◌∙◌, ap, subst, rules}
use Rattle.std.specs.Prelude.{eqb, if◌then◌else◌}
use Rattle.moo_cli_serve.specs.Silence.{heard_in}
use Rattle.moo_cli_serve.proofs.Hearing.{set_one}
use Rattle.moo_cli_serve.proofs.silence.Silence.set.Goals as goal

pub returns-clause-heard : goal.returns-clause-heard
returns-clause-heard c k =
    let place : c.from.result ≡ c.args.c = search rules in
    subst (λ (n : ℕ). get_or (set c.reach.new.self.heard.items n c.args.now) k 0 ≡ (if eqb c.args.c k then c.args.now else heard_in c.args.self.now k)) (sym place)
    (set_one c.reach.new.self.heard.items c.args.c c.args.now c.in_ok-reach.ensures.reaches k
    ∙ ap (λ (n : ℕ). if eqb c.args.c k then c.args.now else n) (c.in_ok-reach.ensures.heard k))
