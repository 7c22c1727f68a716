use Rattle.std.proofs.Common.{arith, Some}
use Rattle.moo_syntax_ast.specs.View.{codes_of}
use Rattle.moo_syntax_listing.proofs.Lengths.{leaves_after}
use Rattle.moo_syntax_listing.proofs.LineLengths.{length_except, fits_where_left}
use Rattle.moo_syntax_listing.proofs.lines.except_as_fits.Goals as goal

pub returns : goal.returns
returns c = rw (c.is_some.ensures, length_except (Some c.args.name.now) (codes_of c.args.codes.now)) (fits_where_left _ c.except_as_rest.result (leaves_after 999999 999999 _ _ c.except_as_rest.result (omega arith) c.except_as_rest.ensures))
