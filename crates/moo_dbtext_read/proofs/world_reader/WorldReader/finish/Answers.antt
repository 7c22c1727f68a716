use Rattle.std.proofs.Common.{inl}
use Rattle.std.proofs.lemmas.Result.{err_from_is_err_and}
use Rattle.moo_dbtext_read.proofs.Whole.{kept_within, loaded_answer}
use Rattle.moo_dbtext_read.proofs.Pieces.{refused_alone, taken_failed, taken_going}
use Rattle.moo_dbtext_read.proofs.Turns.{end_refused, kept_faultless}
use Rattle.moo_dbtext_read.proofs.world_reader.WorldReader.finish.Goals as goal

pub returns-in_err-self-clause-answer : goal.returns-in_err-self-clause-answer
returns-in_err-self-clause-answer c = λ bytes h.
    let p = err_from_is_err_and c.from_residual.result c.from_residual.ensures.1 in
    rw (p.1, p.2) (refused_alone bytes c.in_err-self.field-0.0 (taken_failed c.args.self c.in_err-self.field-0.0 bytes c.in_err-self.was h))

pub returns-in_err-database-clause-answer : goal.returns-in_err-database-clause-answer
returns-in_err-database-clause-answer c = λ bytes h.
    let i = taken_going c.args.self bytes c.in_ok-self.was h in
    let p = err_from_is_err_and c.from_residual-in_err-database.result c.from_residual-in_err-database.ensures.1 in
    rw (p.1, p.2) (inl (end_refused c.args.self bytes c.in_err-database.field-0.0 i (c.in_err-database.ensures.answer bytes i.read)))

pub load-requires-clause-limits : goal.load-requires-clause-limits
load-requires-clause-limits c =
    let i = taken_going c.args.self c.requires.0 c.in_ok-self.was c.requires.1 in
    kept_within c.requires.0 c.in_ok-database.database (c.in_ok-database.ensures.answer c.requires.0 i.read)

pub load-requires-clause-faultless : goal.load-requires-clause-faultless
load-requires-clause-faultless c =
    let i = taken_going c.args.self c.requires.0 c.in_ok-self.was c.requires.1 in
    kept_faultless c.args.self c.requires.0 c.in_ok-database.database i (c.in_ok-database.ensures.answer c.requires.0 i.read)

pub returns-clause-answer : goal.returns-clause-answer
returns-clause-answer c = λ bytes h.
    let i = taken_going c.args.self bytes c.in_ok-self.was h in
    loaded_answer bytes c.in_ok-database.database c.load.result (c.in_ok-database.ensures.answer bytes i.read) c.load.ensures.saved c.load.ensures.fault
