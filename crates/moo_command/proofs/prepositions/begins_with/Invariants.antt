use Rattle.std.proofs.Common.{◌≡◌, drop, map}
use Rattle.moo_command.specs.Inner.{begins_with}
use Rattle.moo_command.proofs.prepositions.begins_with.Given as goal

abbrev pub invariant-loop-own : goal.invariant-loop-own
invariant-loop-own l = begins_with (map (λ w. w.now) l.form) l.words ≡ begins_with (map (λ w. w.now) (drop l.own-index l.form)) l.left
