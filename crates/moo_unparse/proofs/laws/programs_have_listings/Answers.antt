use Rattle.moo_syntax_grammar.specs.declared.names.Names.TheVariants.{Any}
use Rattle.moo_unparse.proofs.Law.{listing_is_parsed}
use Rattle.moo_unparse.proofs.laws.programs_have_listings.Goals as goal

pub returns : goal.returns
returns c = λ b t h. listing_is_parsed Any t.lines b t.program h
