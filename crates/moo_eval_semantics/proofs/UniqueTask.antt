-- A task has at most one end, and leaves one world and the same notices, by two ways to report faults that agree.
use Rattle.std.proofs.Common.{◌≡◌, List, sym, ap, ◌∙◌}
use Rattle.moo_world_table.specs.World.{World}
use Rattle.moo_eval_frame.specs.declared.frame.Frame.{Frame}
use Rattle.moo_eval_frame.specs.declared.notice.Notice.{Notice}
use Rattle.moo_eval_frame.specs.Surroundings.{Surroundings}
use Rattle.moo_eval_access.specs.State.{State}
use Rattle.moo_builtin.specs.Telling.{Telling}
use Rattle.moo_eval_semantics.proofs.Agreed.{Agree}
use Rattle.moo_eval_semantics.specs.Task.{End, TaskEnds, end_of}
use Rattle.moo_eval_semantics.proofs.Unique.{one_block}

pub one_end : (T U : Telling) (agree : Agree T U) {around : Surroundings} {start : Frame} {before after instead : World} {end other : End} {notices others : List Notice} → TaskEnds T around start before end after notices → TaskEnds U around start before other instead others → (end ≡ other) × (after ≡ instead) × (notices ≡ others)
one_end T U agree d d' =
    let h = one_block T U agree d.runs d'.runs in
    (sym d.ends ∙ ap end_of h.0 ∙ d'.ends, sym d.leaves ∙ ap (λ (x : State). x.world) h.1 ∙ d'.leaves, sym d.asks ∙ ap (λ (x : State). x.notices) h.1 ∙ d'.asks)
