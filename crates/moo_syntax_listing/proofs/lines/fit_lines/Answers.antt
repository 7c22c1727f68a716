use Rattle.moo_syntax_ast.specs.View.{block}
use Rattle.moo_syntax_listing.proofs.LineLengths.{fits_listing}
use Rattle.moo_syntax_listing.proofs.lines.fit_lines.Goals as goal

pub returns : goal.returns
returns c = rw c.block_fits.ensures (fits_listing (block c.args.statements.now))
