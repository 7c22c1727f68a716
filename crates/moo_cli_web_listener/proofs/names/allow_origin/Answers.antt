use Rattle.std.proofs.Common.{◌≡◌, ◌⊎◌, ◌++◌, List, ℕ, ◌∙◌, ap, sym, subst}
use Rattle.std.specs.Prelude.{codes}
use Rattle.moo_cli_web_listener.specs.Names.{IsHostOf}
use Rattle.moo_cli_web_listener.proofs.Naming.{origin_allowed}
use Rattle.moo_cli_web_listener.proofs.names.allow_origin.Goals as goal

pub returns : goal.returns
returns c port given is allows =
    let text = c.without_slash-origin.result.now in
    let origin : text ≡ c.in_ok-origin.origin.items = sym (c.in_ok-origin.ensures.items ∙ c.as_bytes-2.ensures.value) in
    let host : c.host_of.result.now ≡ c.in_ok-host.host.items = sym (c.in_ok-host.ensures.items ∙ c.as_bytes.ensures.value) in
    origin_allowed port given c.args.allowed.now _ c.args.origin.now c.in_ok-host.host c.in_ok-origin.origin c.in_ok-push.ensures.items c.in_ok-push-2.ensures.items is
    (subst (λ (bytes : List ℕ). (c.args.origin.now ≡ bytes) ⊎ (c.args.origin.now ≡ bytes ++ codes "/")) origin c.without_slash-origin.ensures)
    (subst (λ (bytes : List ℕ). IsHostOf bytes c.in_ok-host.host.items) origin (subst (λ (bytes : List ℕ). IsHostOf text bytes) host c.host_of.ensures))
    allows
