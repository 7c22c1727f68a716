use Rattle.std.proofs.Common.{◌≡◌, suc, pos, set, w32, rules}
use Rattle.std.proofs.lemmas.Int.{to_z-of_z}
use mir.Val.{SFits}
use Rattle.moo_value.specs.Tree.{integer, list_of}
use Rattle.moo_eval_integer.proofs.Given.{list_takes}
use Rattle.moo_eval_integer.proofs.element.try_put_integer.Goals as goal

pub returns-clause-put : goal.returns-clause-put
returns-clause-put c = λ t.
    let place : SFits w32 c.in-Some.place = search rules in
    let number : SFits w32 c.in-Some-operand_integer.number = search rules in
    let index : c.in-Some.place ≡ pos (suc c.in-Some-elements_before.index) = rw (to_z-of_z w32 c.in-Some.place place) at c.in-Some-elements_before.ensures in
    let p = simp (to_z-of_z w32 c.in-Some-operand_integer.number number) at (c.try_put_element.ensures.put t) in
    let new = list_of (set p.0 c.in-Some-elements_before.index (integer c.in-Some-operand_integer.number)) in
    let made = list_takes p.0 c.in-Some.place c.in-Some-operand_integer.number c.in-Some-elements_before.index index p.2 p.3 in
    record {
      index = c.in-Some.place;
      number = c.in-Some-operand_integer.number;
      between = c.integer_of.new.left;
      container = list_of p.0;
      new = new;
      placed = c.in-Some.ensures.value;
      valued = c.in-Some-operand_integer.ensures.value;
      held = p.1;
      made = made;
      sets = p.4;
    }
