use Rattle.std.proofs.Common.{◌≡◌}
use Rattle.moo_command.specs.Objects.{named_by}
use Rattle.moo_command.specs.Inner.{covers, with_all_found}
use Rattle.moo_command.proofs.named.found_among.Given as goal

abbrev pub invariant-loop-x : goal.invariant-loop-x
invariant-loop-x l =
    with_all_found l.fn.before (named_by l.world (covers l.extent l.text) l.fn.contents) ≡ with_all_found l.found (named_by l.world (covers l.extent l.text) l.x-iterator)
