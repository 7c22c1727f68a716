use Rattle.std.proofs.Common.{◌≡◌, ◌∙◌, ap, sym, subst, Ok}
use Rattle.std.proofs.lemmas.Slice.Eq.{bytes_eq-Decides}
use Rattle.moo_value.specs.Size.{IsString}
use Rattle.moo_dbtext_object.specs.Lines.{limited}
use Rattle.moo_dbtext_object.proofs.TextLaws.{text_again}
use Rattle.moo_dbtext_object.proofs.string_interner.StringInterner.text.Goals as goal

pub returns-then-eq : goal.returns-then-eq
returns-then-eq c =
    let same : c.in-Some.known.now ≡ c.args.line.now = sym c.as_bytes.ensures.value ∙ (bytes_eq-Decides c.as_bytes.result.now c.args.line.now).0 (sym c.if-eq.ensures) in
    text_again limited c.args.line.now (subst IsString same c.as_bytes.ensures.string) ∙ ap Ok (sym same ∙ sym c.in_ok-try_clone.ensures)
