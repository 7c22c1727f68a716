use Rattle.moo_server_law.proofs.CutRun as run
use Rattle.moo_server_law.proofs.laws.runs.cutting_changes_only_marks.Goals as goal

pub returns : goal.returns
returns c = run.cutting_changes_only_marks
