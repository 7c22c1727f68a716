use Rattle.moo_disk.proofs.GainsLemmas.{history_gains}
use Rattle.moo_disk.proofs.laws.each_main_text_counts.Goals as goal

pub returns : goal.returns
returns g c texts first disk last before after honest earlier later =
    let t = (g.D.Disk.kind.view first).clock in
    let text = (g.D.Disk.kind.view disk).main_text in
    let past = (history_gains g.D.Disk.kind.view texts first disk before earlier).later in
    let now = (g.met.D.Disk.main_may_be_left disk honest).1 in
    (history_gains g.D.Disk.kind.view texts disk last after later).remembers t text past (g.met.D.Disk.counts_now disk t text honest past now)
