use Rattle.std.proofs.Common.{◌∙◌, sym, ap, subst}
use Rattle.moo_syntax_ast.specs.Limits.{AllFit}
use Rattle.moo_syntax_ast.specs.View.{block}
use Rattle.moo_syntax_ast.specs.Listing.{listing}
use Rattle.moo_unparse.proofs.Full.{full_is_a_form}
use Rattle.moo_unparse.proofs.Refusals.{too_heavy}
use Rattle.moo_unparse.proofs.listing.list_full.Goals as goal

pub unreachable-requires : goal.unreachable-requires
unreachable-requires c =
    let same = full_is_a_form (block c.statements.result.now) ∙ ap listing c.statements.ensures.statements in
    too_heavy c.in-Err-TooHeavy.field-0 _ c.in-Err-TooHeavy.field-0-is c.in-Err-TooHeavy.ensures.refused (subst AllFit (sym same) c.statements.ensures.limits.lines)

pub returns-in-Ok : goal.returns-in-Ok
returns-in-Ok c = c.in-Ok.ensures.ok ∙ full_is_a_form (block c.statements.result.now) ∙ ap listing c.statements.ensures.statements
