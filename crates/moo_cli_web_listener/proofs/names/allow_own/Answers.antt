use Rattle.std.proofs.Common.{◌≡◌, true, false, inr, arith, append_assoc}
use Rattle.std.specs.Net.Socket.{socket_ip}
use Rattle.std.specs.Net.Text.{socket_text}
use Rattle.std.proofs.lemmas.Grind.{common_steps}
use Rattle.moo_cli_web_listener.specs.Names.{IsOfAllNetworks}
use Rattle.moo_cli_web_listener.proofs.names.allow_own.Goals as goal

pub allow_local-requires : goal.allow_local-requires
allow_local-requires c =
    let host : c.in_ok-host.host.bytes.items ≡ socket_text c.args.address = grind (arith, common_steps, append_assoc) in
    let one : IsOfAllNetworks (socket_ip c.args.address) → ⊥ = λ all.
    let t : c.is_unspecified.result ≡ true = c.is_unspecified.ensures.1 (rw (← c.ip.ensures) at all) in
    let f : c.is_unspecified.result ≡ false = c.if-is_unspecified.false in
    absurd cc in
    inr (one, host)
