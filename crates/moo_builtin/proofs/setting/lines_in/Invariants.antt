use Rattle.std.proofs.Common.{◌≡◌, drop}
use Rattle.moo_value.specs.View.{trees}
use Rattle.moo_builtin.specs.Setting.{lines_in}
use Rattle.moo_builtin.proofs.Lines.{after_all}
use Rattle.moo_builtin.proofs.setting.lines_in.Given as goal

abbrev pub invariant-loop-element : goal.invariant-loop-element
invariant-loop-element l = lines_in (trees l.elements) ≡ after_all l.lines.items (lines_in (trees (drop l.element-index l.elements)))
