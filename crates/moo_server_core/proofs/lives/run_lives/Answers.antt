use Rattle.moo_server_core.proofs.lives.run_lives.Goals as goal

pub returns-in-Ok-clause-lives : goal.returns-in-Ok-clause-lives
returns-in-Ok-clause-lives g c = λ h s spells only. (c.in-Ok.left, c.in-Ok.ensures.lives h s spells only)

pub returns-in-Err-clause-fault : goal.returns-in-Err-clause-fault
returns-in-Err-clause-fault g c = λ h s spells only. (c.in-Err.left, c.in-Err.ensures.fault h s spells only)
