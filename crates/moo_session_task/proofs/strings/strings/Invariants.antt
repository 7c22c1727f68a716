use Rattle.std.proofs.Common.{◌≡◌}
use Rattle.moo_value.specs.View.{trees}
use Rattle.moo_session_task.specs.WordList.{strings_of}
use Rattle.moo_session_task.proofs.strings.strings.Given as goal

abbrev pub invariant-loop-word : goal.invariant-loop-word
invariant-loop-word l = trees l.values.items ≡ strings_of l.yielded
