use Rattle.std.proofs.Common.{negsuc, [], ◌∷◌, ap, ◌∙◌, refl, subst}
use Rattle.moo_syntax_grammar.specs.declared.names.Names.TheVariants.{Known}
use Rattle.moo_syntax_grammar.specs.Texts.{IsParsed}
use Rattle.moo_syntax.specs.Programs.{Blames}
use Rattle.moo_eval_semantics.specs.Line.{refused, runs}
use Rattle.moo_eval_semantics.specs.Task.{TaskEnds}
use Rattle.moo_builtin.specs.Telling.{Faults}
use Rattle.moo_eval_semantics.specs.Evaluating.{typed_frame}
use Rattle.moo_eval_semantics.specs.Typed.{nowhere}
use Rattle.moo_eval.proofs.line.eval_line.Goals as goal

pub returns-in-Ok : goal.returns-in-Ok
returns-in-Ok c =
    let text = rw c.in-Some.is at c.in_ok-text.ensures.text in
    let ended = c.in_ok-lines-in-Ok.ensures in
    let over = subst (λ w. TaskEnds Faults nowhere (typed_frame c.in-Ok.program (negsuc 0) (negsuc 0) (negsuc 0)) w ended.0 c.run_typed.new.world ended.1) c.empty-world.ensures ended.2 in
    runs (rw c.in-Some.is at c.in_ok-text.ensures.fits) ended.0 (record { program = c.in-Ok.program; after = c.run_typed.new.world; notices = ended.1; parsed = subst (λ x. IsParsed Known (x ∷ []) c.in-Ok.program) text c.in-Ok.ensures.program; ends = over }) ended.3 refl

pub returns : goal.returns
returns c =
    let text = rw c.in-Some.is at c.in_ok-text.ensures.text in
    let fault = c.in-Err.fault in
    refused (rw c.in-Some.is at c.in_ok-text.ensures.fits) fault (record { blames = subst (λ x. Blames Known (x ∷ []) fault.line fault.kind) text c.in-Err.ensures.fault; told = c.in_ok-fault_line-in-Err.ensures.told }) (c.in_ok-lines-in-Err.ensures ∙ ap (λ x. x ∷ []) c.in_ok-fault_line-in-Err.ensures.text) refl
