use Rattle.moo_disk.proofs.laws.a_crash_leaves_what_may_be_left.Goals as goal

pub returns : goal.returns
returns g c disk left t honest past is_left = g.met.D.Disk.counts_now disk t (g.D.Disk.kind.view left).main_text honest past is_left.text
