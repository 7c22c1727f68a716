-- The minuses so far, before those that are left.
use Rattle.std.proofs.Common.{◌≡◌, ◌+◌, ◌-◌, length}
use Rattle.moo_syntax.specs.Cursor.{left}
use Rattle.moo_syntax_grammar.specs.Minuses.{minuses}
use Rattle.moo_syntax.proofs.cursor.Cursor.take_minuses.Given as goal

abbrev pub invariant-loop-count : goal.invariant-loop-count
invariant-loop-count l = record {
  tokens : left l.fn.self ≡ minuses l.count (left l.self);
  at : l.self.at ≡ l.fn.self.at + l.count;
  spots : l.self.spots.now ≡ l.fn.self.spots.now;
}

abbrev pub decreases-loop-count : goal.decreases-loop-count
decreases-loop-count l = length l.self.spots.now - l.self.at
