-- Operands that are compared without a copy.
use Rattle.moo_value.specs.Tree.{Tree, integer, object, error, string}
use Rattle.moo_value.specs.View.{tree}
use Rattle.moo_eval_integer.specs.declared.operand.Operand.{Operand}
use Rattle.moo_eval_integer.specs.declared.operand.Operand.TheVariants.{Integer, Object, Error, Text, List}

-- the value of an operand
abbrev pub operand_tree : Operand → Tree
operand_tree (Integer i) = integer i
operand_tree (Object o) = object o
operand_tree (Error e) = error e
operand_tree (Text s) = string s.now
operand_tree (List v) = tree v.now
