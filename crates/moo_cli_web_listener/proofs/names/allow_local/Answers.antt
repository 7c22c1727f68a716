use Rattle.std.proofs.Common.{◌≡◌, ◌++◌, ◌∙◌, refl, sym, subst, List, ℕ, arith, append_assoc}
use Rattle.std.specs.Prelude.{codes}
use Rattle.std.proofs.lemmas.Grind.{common_steps}
use Rattle.moo_cli_web_listener.specs.Names.{IsLocalHost}
use Rattle.moo_cli_web_listener.proofs.Naming.{local_allowed}
use Rattle.moo_cli_web_listener.proofs.names.allow_local.Goals as goal

pub returns : goal.returns
returns c given allows =
    let host : c.into_bytes.result.items ≡ c.args.host.bytes.items = grind (arith, common_steps, append_assoc) in
    let origin : c.into_bytes-2.result.items ≡ codes "http://" ++ c.into_bytes.result.items = grind (arith, common_steps, append_assoc) in
    local_allowed c.args.address given c.args.allowed.now _ c.into_bytes.result c.into_bytes-2.result c.in_ok-push.ensures.items c.in_ok-push-2.ensures.items
    (subst (IsLocalHost c.args.address) (sym host) c.requires) origin allows
