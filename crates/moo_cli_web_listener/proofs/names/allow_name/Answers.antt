use Rattle.std.proofs.Common.{◌≡◌, ◌++◌, ◌∙◌, ap, arith, append_assoc, inl}
use Rattle.std.specs.Prelude.{codes}
use Rattle.std.specs.Fmt.{decimal}
use Rattle.std.proofs.lemmas.Grind.{common_steps}
use Rattle.moo_cli_web_listener.proofs.names.allow_name.Goals as goal

pub allow_local-requires : goal.allow_local-requires
allow_local-requires c =
    let host : c.in_ok-host.host.bytes.items ≡ c.args.name.now ++ (codes ":" ++ decimal c.port-port.result) = grind (arith, common_steps, append_assoc) in
    inl (c.args.name.now, c.requires, host ∙ ap (λ port. c.args.name.now ++ (codes ":" ++ decimal port)) c.port-port.ensures)
