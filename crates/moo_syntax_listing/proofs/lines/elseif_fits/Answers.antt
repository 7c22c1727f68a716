use Rattle.std.proofs.Common.{arith}
use Rattle.moo_syntax_ast.specs.View.{tree}
use Rattle.moo_syntax_listing.proofs.Lengths.{leaves_after}
use Rattle.moo_syntax_listing.proofs.LineLengths.{length_elseif, fits_where_left}
use Rattle.moo_syntax_listing.proofs.lines.elseif_fits.Goals as goal

pub returns : goal.returns
returns c = rw (c.is_some.ensures, length_elseif (tree c.args.condition.now)) (fits_where_left _ c.expression.result (leaves_after 999999 999990 _ _ c.expression.result (omega arith) c.expression.ensures))
