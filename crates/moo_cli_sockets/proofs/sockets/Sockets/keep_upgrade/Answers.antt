use Rattle.std.proofs.Common.{◌≡◌, ℕ, List, ◌∙◌, rules, subst}
use Rattle.moo_cli_sockets.specs.Framing.{Hears}
use Rattle.moo_cli_sockets.proofs.Keeping.{is_browsers, is_upgraded}
use Rattle.moo_cli_sockets.proofs.sockets.Sockets.keep_upgrade.Goals as goal

pub returns-clause-fresh : goal.returns-clause-fresh
returns-clause-fresh g c =
    let here : c.args.c ≡ c.insert_reserved.result = search rules in
    let frames : List ℕ = c.args.upgrade.frames.items in
    is_upgraded c.reserve.new.self c.insert_reserved.new.self c.insert_reserved.result c.args.c frames c.keep_payload.new.self c.insert_reserved.ensures.updates here
    (is_browsers c.in_ok-channel.channel c.in_ok-channel.ensures.0 frames c.new-socket.result c.keep_payload.new.self c.in_ok-channel.ensures.1 c.new-socket.ensures.kind.1
    (c.in_ok-keep_payload.ensures.filter.0 ∙ c.new-socket.ensures.kind.0)
    (subst (λ (bytes : List ℕ). Hears bytes c.new-socket.result c.keep_payload.new.self) c.deref.ensures.value c.in_ok-keep_payload.ensures.hears))
