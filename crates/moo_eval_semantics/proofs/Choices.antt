-- Choices of faults, and texts with one fault.
use Rattle.std.proofs.Common.{◌≡◌, List, Option, None, Some, refl}
use Rattle.moo_syntax_grammar.specs.declared.names.Names.TheVariants.{Known}
use Rattle.moo_syntax.specs.declared.syntax_fault.SyntaxFault.{SyntaxFault}
use Rattle.moo_syntax.proofs.Blamed.{parsed_is_not_blamed}
use Rattle.moo_world_table.specs.World.{World}
use Rattle.moo_eval_frame.specs.declared.frame.Frame.{Frame}
use Rattle.moo_eval_frame.specs.declared.notice.Notice.{Notice}
use Rattle.moo_eval_frame.specs.Surroundings.{Surroundings}
use Rattle.moo_builtin.specs.Telling.{Telling, Faults, Choice, PassesPrograms}
use Rattle.moo_eval_semantics.proofs.Agreed.{Agree}
use Rattle.moo_eval_semantics.proofs.CallWider.{Wider}
use Rattle.moo_eval_semantics.specs.Task.{End, TaskEnds}
use Rattle.moo_eval_semantics.specs.Laws.{ChoosesFaults, Texts, faults_of, HaveOneFault}
use Rattle.moo_eval_semantics.proofs.Wider.{wider_block}

pub wider_end : {T U : Telling} → Wider T U → {around : Surroundings} {start : Frame} {before after : World} {end : End} {notices : List Notice} → TaskEnds T around start before end after notices → TaskEnds U around start before end after notices
wider_end w d = record { outcome = d.outcome; last = d.last; runs = wider_block w d.runs; ends = d.ends; leaves = d.leaves; asks = d.asks }

-- for texts of which each has one fault the program reports no other
pub one_fault_told : (texts : Texts) → HaveOneFault texts → Agree (faults_of texts) Faults
one_fault_told texts have = record {
  same = λ lines f g p q. have lines f g p.0 p.1 q;
  none = λ lines b f parsed p. parsed_is_not_blamed Known lines f.line f.kind b p.1.0 p.1.1 parsed;
  neither = λ lines b f parsed p. parsed_is_not_blamed Known lines f.line f.kind b p.0 p.1 parsed;
}

none_there : (o : Option SyntaxFault) → ((f : SyntaxFault) → o ≡ Some f → ⊥) → o ≡ None
none_there None h = refl
none_there (Some f) h = absurd (h f refl)

-- a program has no fault to choose
pub passes_programs : (choice : Choice) → ChoosesFaults choice → PassesPrograms choice
passes_programs choice faults lines b parsed = none_there (choice lines) (λ f p. parsed_is_not_blamed Known lines f.line f.kind b (faults lines f p).0 (faults lines f p).1 parsed)
