use Rattle.std.proofs.Common.{◌≡◌, sym, ◌∙◌}
use Rattle.std.specs.Str.{bytes_eq}
use Rattle.std.proofs.lemmas.Slice.Eq.{bytes_eq-Decides}
use Rattle.moo_syntax_ast.proofs.name.Name.has_bytes_of.Goals as goal

pub returns : goal.returns
returns c =
    let a = c.as_bytes.result.now in
    let b = c.as_bytes-2.result.now in
    let one : a ≡ c.args.self.now = c.as_bytes.ensures.value ∙ c.self.view_is in
    let two : b ≡ c.args.other.now = c.as_bytes-2.ensures.value ∙ c.other.view_is in
    let same : c.eq.result ≡ bytes_eq a b = c.eq.ensures in
    (λ t. sym one ∙ (bytes_eq-Decides a b).0 (sym same ∙ t) ∙ two, λ e. same ∙ (bytes_eq-Decides a b).1 (one ∙ e ∙ sym two))
