use Rattle.std.proofs.lemmas.List.Filters.{dedup_is}
use Rattle.moo_cli_sockets.proofs.Rising.{sorted_keeps, sorted_rises}
use Rattle.moo_cli_sockets.proofs.numbers.sort_numbers.Goals as goal

pub returns-clause-rising : goal.returns-clause-rising
returns-clause-rising c = sorted_rises c.sort_unstable.new.self.items c.dedup.new.self.items c.sort_unstable.ensures.sorted (dedup_is _ _ _ c.dedup.ensures.filtered)

pub returns-clause-kept : goal.returns-clause-kept
returns-clause-kept c = sorted_keeps c.args.numbers.now.items c.sort_unstable.new.self.items c.dedup.new.self.items c.sort_unstable.ensures.permutation (dedup_is _ _ _ c.dedup.ensures.filtered)
