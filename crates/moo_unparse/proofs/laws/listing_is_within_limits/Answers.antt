use Rattle.std.proofs.Common.{true}
use Rattle.moo_unparse.specs.declared.form.Parentheses.TheVariants.{All, Needed}
use Rattle.moo_unparse.proofs.Law.{form_is_parsed, listing_is_parsed}
use Rattle.moo_unparse.proofs.laws.listing_is_within_limits.Goals as goal

pub returns : goal.returns
returns c = record {
  full = listing_is_parsed;
  indented = form_is_parsed (record { parentheses = All; indent = true });
  short = λ names lines i. form_is_parsed (record { parentheses = Needed; indent = i }) names lines;
}
