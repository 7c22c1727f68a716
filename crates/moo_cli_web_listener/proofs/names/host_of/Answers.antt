use Rattle.std.proofs.Common.{List, ℕ, ◌++◌, ◌∙◌, ap, inr, sym, take}
use Rattle.std.specs.Prelude.{codes}
use Rattle.std.proofs.lemmas.List.{take-append-drop}
use Rattle.moo_cli_web_listener.proofs.names.host_of.Goals as goal

pub returns-in-Some : goal.returns-in-Some
returns-in-Some c =
    let at = c.in-Some.ensures.cases in
    let text = c.args.origin.now in
    inr (
      take at.0 text,
      sym (take-append-drop at.0 text) ∙ ap (λ (bytes : List ℕ). take at.0 text ++ bytes) (at.2.1.split ∙ ap (λ (bytes : List ℕ). codes "//" ++ bytes) (sym at.4)),
    )
