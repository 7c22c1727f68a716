use Rattle.moo_syntax_test.proofs.exploring.+explore.Given as goal

abbrev pub decreases-explore : goal.decreases-explore
decreases-explore l = l.left
