-- Tellings that agree, and tellings of which one may tell more.
use Rattle.moo_syntax_grammar.specs.declared.names.Names.TheVariants.{Known}
use Rattle.moo_syntax.proofs.Blamed.{parsed_is_not_blamed}
use Rattle.moo_builtin.specs.Telling.{Faults, Choice, PassesPrograms, chosen_by}
use Rattle.moo_eval_semantics.proofs.CallUnique.{chosen_once}
use Rattle.moo_eval_semantics.specs.Task.{OneResultOfTasks}
use Rattle.moo_eval_semantics.specs.Laws.{ChoosesFaults, Texts, HaveOneFault, faults_of, OneResultOfTasksBy, TasksByChoice}
use Rattle.moo_command.specs.Commands.{OneCommand}
use Rattle.moo_session.proofs.ProgramUnique.{TellAlike}
use Rattle.moo_server_law.proofs.UniqueLines.{Agree, Within}

-- what is chosen of a text is one, and nothing of a program
choices_agree : (choice : Choice) → PassesPrograms choice → TellAlike (chosen_by choice) (chosen_by choice)
choices_agree choice passes = let tells = chosen_once choice passes in record { same = tells.one; none = tells.none; neither = tells.none }

pub by_choice : OneCommand → OneResultOfTasks → (choice : Choice) → PassesPrograms choice → Agree (chosen_by choice) (chosen_by choice)
by_choice one law choice passes = record {
  tasks = λ around start before after instead end other notices others d d'. law choice passes around start before after instead end other notices others d d';
  texts = choices_agree choice passes;
  commands = one;
}

-- a text with one fault is told that one, and a program none
single_faults_agree : (texts : Texts) → HaveOneFault texts → TellAlike (faults_of texts) Faults
single_faults_agree texts have = record {
  same = λ lines f g p q. have lines f g p.0 p.1 q;
  none = λ lines b f parsed p. parsed_is_not_blamed Known lines f.line f.kind b p.1.0 p.1.1 parsed;
  neither = λ lines b f parsed p. parsed_is_not_blamed Known lines f.line f.kind b p.0 p.1 parsed;
}

pub by_single_faults : OneCommand → OneResultOfTasksBy → (texts : Texts) → HaveOneFault texts → Agree (faults_of texts) Faults
by_single_faults one law texts have = record {
  tasks = λ around start before after instead end other notices others d d'. law texts have around start before after instead end other notices others d d';
  texts = single_faults_agree texts have;
  commands = one;
}

pub within : TasksByChoice → (choice : Choice) → ChoosesFaults choice → Within (chosen_by choice) Faults
within law choice faults = record {
  tasks = λ around start before after end notices d. law choice faults around start before after end notices d;
  texts = faults;
}
