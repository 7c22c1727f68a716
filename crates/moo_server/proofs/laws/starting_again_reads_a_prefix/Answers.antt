use Rattle.moo_server.proofs.laws.starting_again_reads_a_prefix.Goals as goal

pub returns : goal.returns
returns g c = c.a_stopped_server_starts_again.ensures
