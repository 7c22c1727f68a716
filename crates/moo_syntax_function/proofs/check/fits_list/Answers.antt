use Rattle.moo_value.specs.TreeCode.{trees_of-elements_of}
use Rattle.moo_syntax_function.proofs.check.fits_list.Goals as goal

pub returns-in-Lines : goal.returns-in-Lines
returns-in-Lines c = rw (c.in-Lines.is, trees_of-elements_of) c.are_lines.ensures
