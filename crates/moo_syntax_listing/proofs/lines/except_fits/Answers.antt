use Rattle.std.proofs.Common.{arith, None}
use Rattle.moo_syntax_ast.specs.View.{codes_of}
use Rattle.moo_syntax_listing.proofs.Lengths.{leaves_after}
use Rattle.moo_syntax_listing.proofs.LineLengths.{length_except, fits_where_left}
use Rattle.moo_syntax_listing.proofs.lines.except_fits.Goals as goal

pub returns : goal.returns
returns c = rw (c.is_some.ensures, length_except None (codes_of c.args.codes.now)) (fits_where_left _ c.codes_rest.result (leaves_after 999999 999990 _ _ c.codes_rest.result (omega arith) c.codes_rest.ensures))
