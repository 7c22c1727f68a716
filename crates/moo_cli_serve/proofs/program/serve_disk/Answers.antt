use Rattle.std.proofs.Common.{[], inl, inr, refl}
use Rattle.std.proofs.KnownBytes.{Appends-nil}
use Rattle.std.proofs.lemmas.Result.{err_from_is_err_and}
use Rattle.moo_cli_serve.proofs.Closing.{saved_so}
use Rattle.moo_cli_serve.proofs.Coursing.{course_none}
use Rattle.moo_cli_serve.proofs.Events.{course_broken}
use Rattle.moo_cli_serve.proofs.program.serve_disk.Goals as goal

pub returns-in_err-serving-clause-ended : goal.returns-in_err-serving-clause-ended
returns-in_err-serving-clause-ended g c =
    let p = err_from_is_err_and c.from_residual.result c.from_residual.ensures.1 in rw (p.1, p.2) (inl c.in_err-serving.ensures.refused)

pub returns-in_err-address-clause-ended : goal.returns-in_err-address-clause-ended
returns-in_err-address-clause-ended g c =
    let s = c.in_ok-serving.serving in
    let p = err_from_is_err_and c.from_residual-in_err-address.result c.from_residual-in_err-address.ensures.1 in rw (p.1, p.2) (inr (record {
      start = s;
      end = s;
      begun = c.in_ok-serving.ensures.begun;
      events = [];
      breaks = inl (c.in_err-address.ensures, refl, refl);
      course = course_none g.S.Application.layer g.D.Disk.kind s.server s.disk;
    }))

pub returns-in_err-report_address-clause-ended : goal.returns-in_err-report_address-clause-ended
returns-in_err-report_address-clause-ended g c =
    let s = c.in_ok-serving.serving in
    let p = err_from_is_err_and c.from_residual-in_err-report_address.result c.from_residual-in_err-report_address.ensures.1 in rw (p.1, p.2) (inr (record {
      start = s;
      end = s;
      begun = c.in_ok-serving.ensures.begun;
      events = [];
      breaks = inl (c.in_err-report_address.ensures.outside, refl, refl);
      course = course_none g.S.Application.layer g.D.Disk.kind s.server s.disk;
    }))

pub returns-in_err-serve-clause-ended : goal.returns-in_err-serve-clause-ended
returns-in_err-serve-clause-ended g c =
    let s = c.in_ok-serving.serving in
    let p = err_from_is_err_and c.from_residual-in_err-serve.result c.from_residual-in_err-serve.ensures.1 in rw (p.1, p.2) (inr (record {
      start = s;
      end = c.serve.new.self;
      begun = c.in_ok-serving.ensures.begun;
      events = c.in_err-serve.ensures.ended.0;
      breaks = inr c.in_err-serve.ensures.ended.1;
      course = course_broken g.S.Application.layer g.D.Disk.kind _ _ s c.in_err-serve.ensures.ended.0 c.serve.new.self c.in_err-serve.ensures.ended.1;
    }))

pub returns-clause-served : goal.returns-clause-served
returns-clause-served g c =
    saved_so g.S.Application.layer g.D.Disk.kind g.D.Watched.has_failed g.met.D.Watched.counts_last c.args.served.limits c.args.served.rounds c.args.disk
    c.in_ok-serving.serving c.serve.new.self c.is_saved-is_saved.result c.in_ok-serving.ensures.begun c.in_ok-serve.ensures.served c.is_saved-is_saved.ensures

-- ---- what was printed

pub returns-in_err-serving-clause-printed : goal.returns-in_err-serving-clause-printed
returns-in_err-serving-clause-printed g c =
    let p = err_from_is_err_and c.from_residual.result c.from_residual.ensures.1 in rw p.1 ([], inl refl, inr (Appends-nil _))

pub returns-in_err-address-clause-printed : goal.returns-in_err-address-clause-printed
returns-in_err-address-clause-printed g c =
    let p = err_from_is_err_and c.from_residual-in_err-address.result c.from_residual-in_err-address.ensures.1 in rw p.1 ([], inl refl, inr (Appends-nil _))

pub returns-in_err-report_address-clause-printed : goal.returns-in_err-report_address-clause-printed
returns-in_err-report_address-clause-printed g c =
    let p = err_from_is_err_and c.from_residual-in_err-report_address.result c.from_residual-in_err-report_address.ensures.1 in
    rw p.1 ([], inl refl, c.in_err-report_address.ensures.nothing)

pub returns-in_err-serve-clause-printed : goal.returns-in_err-serve-clause-printed
returns-in_err-serve-clause-printed g c =
    let p = err_from_is_err_and c.from_residual-in_err-serve.result c.from_residual-in_err-serve.ensures.1 in
    rw p.1 (_, inr (c.in_ok-address.address, refl), inr c.in_ok-report_address.ensures.text)

pub returns-clause-listening : goal.returns-clause-listening
returns-clause-listening g c = (c.in_ok-address.address, c.in_ok-report_address.ensures.text)
