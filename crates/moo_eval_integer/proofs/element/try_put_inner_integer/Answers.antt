use Rattle.std.proofs.Common.{◌∙◌, pos, suc, set, Ok, refl, sym, ap, w32, rules}
use Rattle.std.proofs.lemmas.Int.{to_z-of_z}
use mir.Val.{SFits}
use Rattle.moo_value.specs.Tree.{integer, list_of}
use Rattle.moo_eval_slot.proofs.InnerPuts.{if_ok_map}
use Rattle.moo_eval_integer.proofs.Given.{value_taken, list_takes, element_there}
use Rattle.moo_eval_integer.proofs.element.try_put_inner_integer.Goals as goal

pub returns-clause-put : goal.returns-clause-put
returns-clause-put c =
    let number : SFits w32 c.in-Some-operand_integer.number = search rules in
    let n = c.in-Some-operand_integer.number in
    let i = c.in-Some.outer in
    let j = c.in-Some-index_of_place.inner in
    if_ok_map c.try_put_inner.result (λ done h. λ t.
    let p = h t in
    let puts = p.3 in
    record {
      first = pos (suc i);
      second = pos (suc j);
      number = n;
      after_first = c.index_of_place.new.left;
      after_second = c.index_of_place-2.new.left;
      container = list_of p.0;
      element = list_of puts.own;
      new_element = list_of (set puts.own j (integer n));
      new = list_of p.1;
      placed = c.in-Some.ensures.value;
      placed_inside = c.in-Some-index_of_place.ensures.value;
      valued = c.in-Some-operand_integer.ensures.value;
      held = p.2;
      there = element_there p.0 i (list_of puts.own) puts.there;
      made_inside = list_takes puts.own (pos (suc j)) n j refl puts.inner_within puts.own_limits;
      made = value_taken p.0 (pos (suc i)) i (list_of (set puts.own j (integer n))) refl puts.outer_within (rw puts.made at puts.limits) ∙ ap (λ us. Ok (list_of us)) (sym puts.made);
      sets = p.4;
    }) (simp (to_z-of_z w32 n number) at c.try_put_inner.ensures.put)
