-- The parts of an expression, and what is made of their outcomes.
use Rattle.std.specs.Prelude.{pos, List, ◌++◌, Result, Ok, Err}
use Rattle.moo_value.specs.Tree.{Tree, integer}
use Rattle.moo_syntax_ast.specs.Tree as program
use Rattle.moo_syntax_ast.specs.Tree.{Expr, literal, variable, length_mark, unary, binary, logic, conditional, index, range, property, verb_call, call, assign, catch, catch_or, Items, no_items, element}
use Rattle.moo_eval_control.specs.Catching.{guards}
use Rattle.moo_eval_frame.specs.Outcome.{Stop, Failure, stops, Flow, next, returned, broken, continued}
use Rattle.moo_eval_access.specs.State.{State}
use Rattle.moo_eval_access.specs.Entering.{Entered}

-- the parts of an expression that are evaluated first, from left to right
abbrev pub operands : Expr → Items
operands (literal l) = no_items
operands (variable name) = no_items
operands length_mark = no_items
operands (unary op a) = element a no_items
operands (binary op a b) = element a (element b no_items)
operands (logic op a b) = element a no_items
operands (conditional test a b) = element test no_items
operands (index a i) = element a no_items
operands (range a i j) = element a no_items
operands (program.list items) = items
operands (property a b) = element a (element b no_items)
operands (verb_call a b items) = element a (element b items)
operands (call name items) = items
operands (assign t e) = no_items
operands (catch a codes) = guards codes
operands (catch_or a codes b) = guards codes

-- the parts that are evaluated next; in them `$` is the length of the first operand
abbrev pub places : Expr → Items
places (literal l) = no_items
places (variable name) = no_items
places length_mark = no_items
places (unary op a) = no_items
places (binary op a b) = no_items
places (logic op a b) = no_items
places (conditional test a b) = no_items
places (index a i) = element i no_items
places (range a i j) = element i (element j no_items)
places (program.list items) = no_items
places (property a b) = no_items
places (verb_call a b items) = no_items
places (call name items) = no_items
places (assign t e) = no_items
places (catch a codes) = no_items
places (catch_or a codes b) = no_items

-- the values so far before those of the rest
abbrev pub before : List Tree → Result (List Tree) Failure → Result (List Tree) Failure
before vs (Ok ws) = Ok (vs ++ ws)
before vs (Err failure) = Err failure

-- the assigned value, if nothing failed
abbrev pub with_value : Tree → Result (Unit {0}) Failure → Result Tree Failure
with_value v (Ok done) = Ok v
with_value v (Err failure) = Err failure

-- what a called verb returns: the value that it returns, and 0 if it comes to its end; no jump leaves a program of
-- the grammar
abbrev pub answered : Result Flow Stop → Result Tree Failure
answered (Ok next) = Ok (integer (pos 0))
answered (Ok (returned v)) = Ok v
answered (Ok (broken name)) = Ok (integer (pos 0))
answered (Ok (continued name)) = Ok (integer (pos 0))
answered (Err stop) = Err (stops stop)

-- the state in which a called verb begins
abbrev pub begun : Entered → State → State
begun e s = record s { variables = e.variables; programmer = e.programmer }

-- the caller's state after a called verb: its own variables and programmer, with the ticks and the world that are left
abbrev pub left : State → State → State
left s s' = record s' { variables = s.variables; programmer = s.programmer }
