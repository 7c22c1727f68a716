use Rattle.std.proofs.Common.{w32, rules}
use Rattle.std.proofs.lemmas.Int.{to_z-of_z}
use mir.Val.{SFits}
use Rattle.moo_eval_frame.specs.Seen.{variables_of}
use Rattle.moo_eval_integer.proofs.Given.{leaf_values_give, literal_leaf, map_both, variable_leaf}
use Rattle.moo_eval_integer.proofs.integer.leaves_integer.Goals as goal

pub returns-in-Integer-clause-value : goal.returns-in-Integer-clause-value
returns-in-Integer-clause-value c =
    let variables = variables_of c.args.active.now.variables in
    let first : SFits w32 c.in_ok-a.a = search rules in
    let second : SFits w32 c.in-Integer.b = search rules in
    map_both c.operated.result (λ n h z. rw c.in-Integer.is (leaf_values_give variables c.in_ok-a.ensures (literal_leaf variables) h z)) (rw (to_z-of_z w32 c.in_ok-a.a first, to_z-of_z w32 c.in-Integer.b second) at c.operated.ensures.number) c.operated.ensures.taken

pub returns-in-Variable-clause-value : goal.returns-in-Variable-clause-value
returns-in-Variable-clause-value c =
    let variables = variables_of c.args.active.now.variables in
    let first : SFits w32 c.in_ok-a-2.a = search rules in
    let second : SFits w32 c.in_ok-b.b = search rules in
    map_both c.operated-in-Variable.result (λ n h z. rw c.in-Variable.is (leaf_values_give variables c.in_ok-a-2.ensures (variable_leaf variables c.in_ok-b.ensures) h z)) (rw (to_z-of_z w32 c.in_ok-a-2.a first, to_z-of_z w32 c.in_ok-b.b second) at c.operated-in-Variable.ensures.number) c.operated-in-Variable.ensures.taken
