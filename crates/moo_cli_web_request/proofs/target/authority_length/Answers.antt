use Rattle.std.proofs.Common.{◌≡◌, length, sym, arith, rules}
use Rattle.std.proofs.lemmas.List.Sums.{position_or_len_is}
use Rattle.moo_cli_web_request.specs.Requests.{ends_authority}
use Rattle.moo_cli_web_request.proofs.target.authority_length.Goals as goal

pub returns-then-ends_authority-clause-length : goal.returns-then-ends_authority-clause-length
returns-then-ends_authority-clause-length c =
    sym (position_or_len_is ends_authority c.args.bytes.now c.loop-i.i 0 (omega (arith, c.loop-i-test.true)) c.loop-i.invariant (λ _. search rules))

pub returns-clause-length : goal.returns-clause-length
returns-clause-length c =
    let all : c.loop-i.i ≡ length c.args.bytes.now = omega (arith, c.loop-i-test.false, c.loop-i.auto.i-end) in
    rw (← all) (sym (position_or_len_is ends_authority c.args.bytes.now c.loop-i.i 0 c.loop-i.auto.i-end c.loop-i.invariant (λ h. absurd (omega (arith, all, h)))))
