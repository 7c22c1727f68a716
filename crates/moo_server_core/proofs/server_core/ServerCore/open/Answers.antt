use Rattle.std.proofs.Common.{◌≡◌, ◌≢◌, ◌⊎◌, inl, inr, Option, sym, subst}
use Rattle.std.proofs.lemmas.Result.{err_from_is_err_and}
use Rattle.moo_dbtext_record.specs.declared.fault.DbFault.{DbFault}
use Rattle.moo_checkpoint.specs.declared.open_fault.OpenFault.{OpenFault}
use Rattle.moo_checkpoint.specs.declared.open_fault.OpenFault.TheVariants.{Device, Db, Memory}
use Rattle.moo_dbtext_read.specs.Saved.{saved_of}
use Rattle.moo_server_core.specs.declared.server_core.Open.{Open}
use Rattle.moo_server_core.specs.Server.{OpenFollows}
use Rattle.moo_server_core.proofs.server_core.ServerCore.open.Goals as goal

not_refused : (e : OpenFault) (f : DbFault) → (e ≡ Device) ⊎ (e ≡ Memory) → e ≢ Db f
not_refused Device f either is = cc
not_refused Memory f either is = cc
not_refused (Db g) f (inl device) is = cc
not_refused (Db g) f (inr memory) is = cc

pub returns-in_err-saved-clause-refused : goal.returns-in_err-saved-clause-refused
returns-in_err-saved-clause-refused g c = λ honest.
    let p = err_from_is_err_and c.from_residual.result c.from_residual.ensures.1 in
    rw (p.1, p.2) (c.in_err-saved.ensures.refused honest)

pub returns-in_err-saved-clause-accepted : goal.returns-in_err-saved-clause-accepted
returns-in_err-saved-clause-accepted g c = λ honest s spells.
    let p = err_from_is_err_and c.from_residual.result c.from_residual.ensures.1 in
    rw (p.1, p.2) (λ f. not_refused c.in_err-saved.field-0.0 f (c.in_err-saved.ensures.within honest s spells))

pub returns-clause-opened : goal.returns-clause-opened
returns-clause-opened g c = (
  saved_of c.in_ok-saved.saved,
  (λ honest. c.in_ok-saved.ensures.sizes honest),
  record {
    alive = c.in_ok-server.ensures.alive;
    no_checkpoint = c.in_ok-server.ensures.no_checkpoint;
    begins = c.in_ok-server.ensures.begins;
    only = λ honest s spells. sym (c.in_ok-saved.ensures.within honest s ((g.met.S.StartApplication.spells_is (g.D.Disk.kind.view c.args.disk.now).main_text s).0 spells));
    main = c.recover.ensures.main;
    reads = c.recover.ensures.reads;
    few = c.recover.ensures.few;
    honest_still = c.recover.ensures.honest.0;
  },
)

pub returns-clause-follows : goal.returns-clause-follows
returns-clause-follows g c = record {
  still = c.in_ok-server.ensures.still;
  continues = subst (λ (w : Option Open). OpenFollows g.D.Disk.kind w c.recover.new.disk) (sym c.in_ok-server.ensures.no_checkpoint) tt;
}
