use Rattle.moo_cli_check.proofs.Answered.{refused_answers}
use Rattle.moo_cli_check.proofs.readers.Readers.halted.Goals as goal

pub returns-in-Refused : goal.returns-in-Refused
returns-in-Refused c = λ front more h. refused_answers front more c.args.self.survey.faults.items c.args.halt c.in-Refused.fault c.in-Refused.is h
