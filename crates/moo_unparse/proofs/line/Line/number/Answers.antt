use Rattle.std.proofs.Common.{◌≡◌, ap, sym, ◌∙◌, subst}
use Rattle.std.specs.Fmt.{signed_decimal}
use Rattle.std.specs.Int.{w32}
use Rattle.std.proofs.lemmas.Int.{to_z-of_z}
use Rattle.moo_value.specs.Tree.{IsText}
use Rattle.moo_unparse.proofs.Texts.{number_is_text}
use Rattle.moo_unparse.proofs.line.Line.number.Goals as goal

pub text-requires : goal.text-requires
text-requires c =
    let written : c.as_bytes.result.now ≡ signed_decimal c.args.number = c.as_bytes.ensures.value ∙ c.format.ensures.text ∙ ap signed_decimal (to_z-of_z w32 c.args.number c.ranges.number) in
    subst IsText (sym written) (number_is_text c.args.number c.ranges.number)
