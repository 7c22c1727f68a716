use Rattle.std.proofs.Common.{negsuc, [], ◌∷◌, sym, subst}
use Rattle.moo_syntax_grammar.specs.declared.names.Names.TheVariants.{Known}
use Rattle.moo_syntax_grammar.proofs.Unique.{one_program_of_text}
use Rattle.moo_builtin.specs.Telling.{chosen_by}
use Rattle.moo_eval_semantics.proofs.CallUnique.{chosen_once}
use Rattle.moo_eval_semantics.proofs.Agreed.{alike}
use Rattle.moo_eval_semantics.specs.Task.{TaskEnds}
use Rattle.moo_eval_semantics.specs.Evaluating.{typed_frame}
use Rattle.moo_eval_semantics.specs.Typed.{nowhere}
use Rattle.moo_eval_semantics.specs.Line.{no_world}
use Rattle.moo_eval_semantics.proofs.UniqueTask.{one_end}
use Rattle.moo_eval_semantics.proofs.laws.one_end_of_text.Goals as goal

pub returns : goal.returns
returns c = λ choice passes text end other d d'.
    let p = d.parsed in
    let q = d'.parsed in
    let same = one_program_of_text Known (text ∷ []) d.program d'.program (record { spots = p.spots; tokens = p.tokens; program = p.program }) (record { spots = q.spots; tokens = q.tokens; program = q.program }) in
    (one_end (chosen_by choice) (chosen_by choice) (alike (chosen_by choice) (chosen_once choice passes)) d.ends (subst (λ x. TaskEnds (chosen_by choice) nowhere (typed_frame x (negsuc 0) (negsuc 0) (negsuc 0)) no_world other d'.after d'.notices) (sym same) d'.ends)).0
