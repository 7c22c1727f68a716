use Rattle.moo_checkpoint.proofs.Answered.{recovers_found, recovers_sizes, recovers_within, recovers_refused}
use Rattle.moo_checkpoint.proofs.recovery.recover.Goals as goal

pub returns-clause-found : goal.returns-clause-found
returns-clause-found g c = λ honest. recovers_found (g.D.Disk.kind.view c.args.disk.now).main_text c.recover_all.result (c.recover_all.ensures.answer honest)

pub returns-clause-sizes : goal.returns-clause-sizes
returns-clause-sizes g c = λ honest. recovers_sizes (g.D.Disk.kind.view c.args.disk.now).main_text c.recover_all.result (c.recover_all.ensures.answer honest)

pub returns-clause-within : goal.returns-clause-within
returns-clause-within g c = λ honest. recovers_within (g.D.Disk.kind.view c.args.disk.now).main_text c.recover_all.result (c.recover_all.ensures.answer honest)

pub returns-clause-refused : goal.returns-clause-refused
returns-clause-refused g c = λ honest. recovers_refused (g.D.Disk.kind.view c.args.disk.now).main_text c.recover_all.result (c.recover_all.ensures.answer honest)
