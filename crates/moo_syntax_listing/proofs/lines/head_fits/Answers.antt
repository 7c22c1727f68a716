use Rattle.moo_syntax_ast.specs.View.{statement as tree_of}
use Rattle.moo_syntax_listing.proofs.LineLengths.{length_head, fits_where_left}
use Rattle.moo_syntax_listing.proofs.lines.head_fits.Goals as goal

pub returns : goal.returns
returns c = rw (c.is_some.ensures, length_head (tree_of c.args.statement.now)) (fits_where_left _ c.head_rest.result c.head_rest.ensures)
