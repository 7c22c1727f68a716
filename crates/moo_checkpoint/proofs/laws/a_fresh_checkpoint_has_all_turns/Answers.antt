use Rattle.moo_checkpoint.proofs.TurnLemmas.{fresh_turns}
use Rattle.moo_checkpoint.proofs.laws.a_fresh_checkpoint_has_all_turns.Goals as goal

pub returns : goal.returns
returns c checkpoint fresh = fresh_turns checkpoint fresh
