use Rattle.moo_value.specs.TreeCode.{trees_of-elements_of}
use Rattle.moo_builtin.proofs.setting.given_lines.Goals as goal

pub returns-in-List-clause-ok : goal.returns-in-List-clause-ok
returns-in-List-clause-ok c = rw (c.in-List.is, trees_of-elements_of) (simp c.elements.ensures.value at c.lines_in.ensures.ok)

pub returns-in-List-clause-err : goal.returns-in-List-clause-err
returns-in-List-clause-err c = rw (c.in-List.is, trees_of-elements_of) (simp c.elements.ensures.value at c.lines_in.ensures.err)
