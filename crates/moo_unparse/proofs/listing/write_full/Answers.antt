use Rattle.std.proofs.Common.{List, ℕ, ◌≡◌, ◌++◌, ◌∙◌, ap, subst, Result, Ok, Err}
use Rattle.std.specs.Prelude.{OnOk}
use Rattle.std.specs.List.{All, flat_map}
use Rattle.moo_value.specs.Tree.{IsText}
use Rattle.moo_syntax_ast.specs.View.{block}
use Rattle.moo_syntax_ast.specs.Listing.{listing}
use Rattle.moo_unparse.proofs.Full.{full_is_a_form}
use Rattle.moo_unparse.proofs.Written.{end, are_strings}
use Rattle.moo_unparse.proofs.listing.write_full.Goals as goal

on_ok : {A E P Q : Type 0} (r : Result A E) → (P → Q) → OnOk r P → OnOk r Q
on_ok (Ok a) f p = f p
on_ok (Err e) f p = p

pub returns-clause-lines : goal.returns-clause-lines
returns-clause-lines c =
    let same = c.deref.ensures.value ∙ c.in_ok-lines.ensures ∙ full_is_a_form (block c.statements.result.now) ∙ ap listing c.statements.ensures.statements in
    subst (λ (v : List (List ℕ)). OnOk c.put_lines.result (c.put_lines.new.out.items ≡ c.args.out.now.items ++ flat_map end v)) same c.put_lines.ensures.lines

pub returns-clause-strings : goal.returns-clause-strings
returns-clause-strings c =
    let same = c.deref.ensures.value ∙ c.in_ok-lines.ensures ∙ full_is_a_form (block c.statements.result.now) ∙ ap listing c.statements.ensures.statements in
    on_ok c.put_lines.result (λ text. are_strings (listing c.args.program.now) (subst (All IsText) same text) c.statements.ensures.limits.lines) c.put_lines.ensures.text
