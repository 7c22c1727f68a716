-- The lines so far were strings' bytes, and were written.
use Rattle.std.proofs.Common.{◌≡◌, ◌++◌, ◌∷◌, [], take}
use Rattle.std.specs.List.{AllWithin, flat_map}
use Rattle.moo_value.specs.Tree.{IsText}
use Rattle.moo_unparse.proofs.listing.put_lines.Given as goal

abbrev pub invariant-loop-line : goal.invariant-loop-line
invariant-loop-line l = record {
  text : AllWithin IsText l.lines 0 l.line-index;
  lines : l.out.items ≡ l.initial.out.items ++ flat_map (λ line. line ++ 10 ∷ []) (take l.line-index l.lines);
}
