use Rattle.moo_cli_serve.specs.Found.{ended_at, served_to}
use Rattle.moo_cli_serve.proofs.Finding.{found_again}
use Rattle.moo_cli_serve.proofs.laws.a_served_world_is_found_again.Goals as goal

pub returns-clause-served : goal.returns-clause-served
returns-clause-served g c first limits rounds serves text stopped h spells found h' same =
    found_again g.S.Application.layer g.D.Disk.kind g.F.Disk.kind
    c.starting_again_reads_a_prefix.ensures c.starting_again_reads_a_prefix_since_the_start.ensures first limits text
    (served_to g.S.Application.layer g.D.Disk.kind serves stopped) h spells found h' same

pub returns-clause-ended : goal.returns-clause-ended
returns-clause-ended g c first limits rounds fault stops text stopped h spells found h' same =
    found_again g.S.Application.layer g.D.Disk.kind g.F.Disk.kind
    c.starting_again_reads_a_prefix.ensures c.starting_again_reads_a_prefix_since_the_start.ensures first limits text
    (ended_at g.S.Application.layer g.D.Disk.kind stops stopped) h spells found h' same
