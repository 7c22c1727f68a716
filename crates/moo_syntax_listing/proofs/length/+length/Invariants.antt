-- The bytes that the further items so far have taken, and those that are left.
use Rattle.std.proofs.Common.{◌≡◌, ◌+◌, sum_by, take}
use Rattle.moo_syntax_listing.specs.Length.{further_item_length}
use Rattle.moo_syntax_listing.proofs.length.+length.Given as goal

abbrev pub invariant-items_rest-loop-other : goal.invariant-items_rest-loop-other
invariant-items_rest-loop-other l = l.rest + sum_by further_item_length (take l.other-index l.others) ≡ l.initial.rest
