use Rattle.moo_server.proofs.laws.starting_again_reads_a_prefix_since_the_start.Goals as goal

pub returns : goal.returns
returns g c = c.starting_again_reads_a_prefix_since_the_start.ensures
