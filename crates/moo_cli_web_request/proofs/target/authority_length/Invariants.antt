use Rattle.std.proofs.Common.{◌≡◌, ℕ, ◌<◌, false, get_or}
use Rattle.moo_cli_web_request.specs.Requests.{ends_authority}
use Rattle.moo_cli_web_request.proofs.target.authority_length.Given as goal

abbrev pub invariant-loop-i : goal.invariant-loop-i
invariant-loop-i l = (k : ℕ) → k < l.i → ends_authority (get_or l.bytes k 0) ≡ false
