use Rattle.std.proofs.Common.{◌≡◌, ◌<◌, ◌-◌, ◌+ℤ◌, w32, rules, refl, arith}
use Rattle.std.proofs.lemmas.Int.{to_z-of_z}
use Rattle.std.specs.Int.{int_wrap}
use mir.Val.{SFits}
use Rattle.moo_syntax_ast.specs.declared.operator.BinaryOperator.TheVariants.{Add}
use Rattle.moo_syntax_ast.specs.Tree.{variable}
use Rattle.moo_eval_frame.specs.Seen.{variables_of}
use Rattle.moo_eval_integer.specs.Integers.{GivesInteger}
use Rattle.moo_eval_integer.proofs.Given.{operator_gives, variable_gives}
use Rattle.moo_eval_integer.proofs.integer.try_add_integer.Goals as goal

pub returns-in-Some-clause-added : goal.returns-in-Some-clause-added
returns-in-Some-clause-added c = λ t.
    let variables = variables_of c.args.active.now.variables in
    let left = c.args.left.now in
    let number : SFits w32 c.in-Some.number = search rules in
    let p = simp (to_z-of_z w32 c.in-Some.number number) at (c.try_add_integer.ensures.added t) in
    let b = c.in-Some.ensures.value in
    let first : (0 < left) × (left - 1 ≡ left - 1) = (omega (arith, b.1), refl) in
    let second : (0 < left - 1) × (b.0 ≡ left - 1 - 1) = (omega (arith, b.1), omega (arith, b.1, b.2)) in
    let held : GivesInteger variables (left - 1) (variable c.args.name.now) p.0 b.0 = variable_gives variables second p.1 in
    (int_wrap w32 (p.0 +ℤ c.in-Some.number), operator_gives variables {op = Add} first held b.3 refl, p.2)
