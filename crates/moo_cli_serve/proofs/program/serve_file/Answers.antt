use Rattle.std.proofs.Common.{[], inl, inr, refl}
use Rattle.std.proofs.KnownBytes.{Appends-nil}
use Rattle.moo_cli_serve.proofs.Serviced.{fails_file, serves_file}
use Rattle.moo_cli_serve.proofs.program.serve_file.Goals as goal

pub returns-in-Ok-clause-served : goal.returns-in-Ok-clause-served
returns-in-Ok-clause-served g c = serves_file g.S.Application.layer _ _ c.in-Ok.disk c.serve_disk.result c.in-Ok.ensures c.serve_disk.ensures.served

pub returns-in-Ok-clause-ended : goal.returns-in-Ok-clause-ended
returns-in-Ok-clause-ended g c = fails_file g.S.Application.layer _ _ c.in-Ok.disk c.serve_disk.result c.in-Ok.ensures c.serve_disk.ensures.ended

pub returns-in-Err-clause-ended : goal.returns-in-Err-clause-ended
returns-in-Err-clause-ended g c = inl c.no_disk.ensures

pub returns-in-Err-clause-printed : goal.returns-in-Err-clause-printed
returns-in-Err-clause-printed g c = ([], inl refl, inr (Appends-nil _))
