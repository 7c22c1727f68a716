use Rattle.moo_unparse.proofs.Law.{listing_is_program, listing_is_no_other}
use Rattle.moo_unparse.proofs.laws.listing_has_its_program.Goals as goal

pub returns : goal.returns
returns c = record { program = listing_is_program; no_other = listing_is_no_other }
