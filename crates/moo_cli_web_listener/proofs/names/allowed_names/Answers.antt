use Rattle.std.proofs.Common.{ℕ, List, Bor, arith, map}
use Rattle.std.proofs.lemmas.List.{get_or-map, length-map}
use Rattle.moo_cli_web_listener.proofs.Naming.{none_allowed}
use Rattle.moo_cli_web_listener.proofs.names.allowed_names.Goals as goal

pub loop-origin-init : goal.loop-origin-init
loop-origin-init c =
    let given = map (λ (origin : Bor (List ℕ)). origin.now) c.args.origins.now in
    c.in_ok-allow_own.ensures given (c.in_ok-allow_name-3.ensures given (c.in_ok-allow_name-2.ensures given (c.in_ok-allow_name.ensures given
    (none_allowed c.args.address given _ c.new.ensures.items c.new-2.ensures.items))))

pub loop-origin-preserved : goal.loop-origin-preserved
loop-origin-preserved c =
    let now = λ (origin : Bor (List ℕ)). origin.now in
    let i = c.loop-origin.origin-index in
    c.in_ok-allow_origin.ensures c.args.address (map now c.args.origins.now)
    (i, omega (arith, c.loop-origin-test.true, length-map c.args.origins.now now), get_or-map now c.args.origins.now i _ _ c.loop-origin-test.true) c.loop-origin.invariant
