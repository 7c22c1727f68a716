use Rattle.std.proofs.Common.{◌≡◌, ◌++◌, map, take}
use Rattle.moo_eval_control.specs.Traceback.{caller_line, texts}
use Rattle.moo_eval_control.proofs.traceback.add_callers.Given as goal

abbrev pub invariant-loop-caller : goal.invariant-loop-caller
invariant-loop-caller l = texts l.lines.items ≡ texts l.initial.lines.items ++ map caller_line (take l.caller-index l.callers)
