use Rattle.std.proofs.Common.{sym, subst}
use Rattle.std.proofs.lemmas.Result.{err_from_is_err_and}
use Rattle.moo_dbtext_read.specs.Reading.{IsRead}
use Rattle.moo_dbtext_read.proofs.Refused.{refused_whole, end_refused, read_failed, read_well, read_says}
use Rattle.moo_dbtext_read.proofs.program_reader.ProgramReader.finish.Goals as goal

pub returns-in_err-self-clause-answer : goal.returns-in_err-self-clause-answer
returns-in_err-self-clause-answer c = λ bytes h.
    let p = err_from_is_err_and c.from_residual.result c.from_residual.ensures.1 in
    rw (p.1, p.2) (refused_whole bytes c.in_err-self.field-0.0 (read_failed c.args.self c.in_err-self.field-0.0 bytes c.in_err-self.was h))

pub returns-in_err-dump-clause-answer : goal.returns-in_err-dump-clause-answer
returns-in_err-dump-clause-answer c = λ bytes h.
    let following = read_well c.args.self bytes c.in_ok-self.was h in
    let e = c.in_err-dump.field-0.0 in
    let p = err_from_is_err_and c.from_residual-in_err-dump.result c.from_residual-in_err-dump.ensures.1 in
    rw (p.1, p.2) (end_refused c.args.self bytes e following (c.in_err-dump.ensures.spare following.going bytes following.at))

pub returns-clause-answer : goal.returns-clause-answer
returns-clause-answer c = λ bytes h.
    let following = read_well c.args.self bytes c.in_ok-self.was h in
    let t = c.in_ok-dump.ensures.spare following.going bytes following.at in
    subst (IsRead bytes) (sym c.with_programs.ensures) (read_says c.args.self bytes c.in_ok-dump.dump following t.0 t.1 t.2)
