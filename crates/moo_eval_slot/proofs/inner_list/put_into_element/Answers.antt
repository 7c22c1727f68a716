use Rattle.std.proofs.Common.{◌≡◌, [], set, IsTrue, IsFalse, ◌∙◌, w32}
use Rattle.std.proofs.lemmas.Int.{to_z-of_z}
use Rattle.std.proofs.lemmas.List.{set-set}
use Rattle.moo_value.specs.Tree.{list_of, integer}
use Rattle.moo_eval_slot.proofs.InnerPuts.{empty_set, number_set, back_set, own_within}
use Rattle.moo_eval_slot.proofs.inner_list.put_into_element.Goals as goal

pub replaced-requires-clause-limits : goal.replaced-requires-clause-limits
replaced-requires-clause-limits c =
    rw (c.replace-whole.ensures.value, c.in_ok-empty.ensures) (empty_set c.args.list.now c.in-Some.element.now c.args.outer c.in-Some.ensures.there c.in-Some.ensures.limits)

pub replaced-requires-2-clause-limits : goal.replaced-requires-2-clause-limits
replaced-requires-2-clause-limits c =
    let ts = c.args.list.now in
    let own = c.in-Some.element.now in
    let us = c.put_integer-is_put.new.self in
    let n = to_z-of_z w32 c.args.number c.ranges.number in
    let was : c.in_ok-whole.whole ≡ set ts c.args.outer (list_of []) = rw (c.replace-whole.ensures.value, c.in_ok-empty.ensures) at c.in_ok-whole.ensures in
    let put : IsTrue c.put_integer-is_put.result → us ≡ set own c.args.inner (integer c.args.number) = λ t. simp (n, c.in_ok-own.ensures) at ((c.put_integer-is_put.ensures.put t).1) in
    let kept : IsFalse c.put_integer-is_put.result → us ≡ own = λ f. c.put_integer-is_put.ensures.kept f ∙ c.in_ok-own.ensures in
    own_within ts own us c.in_ok-whole.whole c.args.outer c.args.inner c.in-Some.ensures.integer.0 c.args.number c.put_integer-is_put.result was c.in-Some.ensures.there c.in-Some.ensures.limits c.in-Some.ensures.integer.1 put kept

pub returns-clause-put : goal.returns-clause-put
returns-clause-put c = λ t.
    let ts = c.args.list.now in
    let own = c.in-Some.element.now in
    let us = c.put_integer-is_put.new.self in
    let n = to_z-of_z w32 c.args.number c.ranges.number in
    let was : c.in_ok-whole.whole ≡ set ts c.args.outer (list_of []) = rw (c.replace-whole.ensures.value, c.in_ok-empty.ensures) at c.in_ok-whole.ensures in
    let put : us ≡ set own c.args.inner (integer c.args.number) = simp (n, c.in_ok-own.ensures) at ((c.put_integer-is_put.ensures.put t).1) in
    let made : c.in_ok-list.field-0 ≡ set ts c.args.outer (list_of (set own c.args.inner (integer c.args.number))) = c.in_ok-list.ensures ∙ rw (was, put) (set-set ts c.args.outer (list_of []) (list_of (set own c.args.inner (integer c.args.number)))) in
    record {
      own = own;
      outer_within = c.in-Some.ensures.within;
      there = c.in-Some.ensures.there;
      inner_within = c.in-Some.ensures.inner_within;
      own_limits = simp (n, c.in_ok-own.ensures) at (c.put_integer-is_put.ensures.limits t);
      limits = rw made (number_set ts own c.args.outer c.args.inner c.in-Some.ensures.integer.0 c.args.number c.in-Some.ensures.there c.in-Some.ensures.limits c.in-Some.ensures.integer.1);
      made = made;
    }

pub returns-clause-kept : goal.returns-clause-kept
returns-clause-kept c = λ f.
    let ts = c.args.list.now in
    let own = c.in-Some.element.now in
    let us = c.put_integer-is_put.new.self in
    let was : c.in_ok-whole.whole ≡ set ts c.args.outer (list_of []) = rw (c.replace-whole.ensures.value, c.in_ok-empty.ensures) at c.in_ok-whole.ensures in
    let kept : us ≡ own = c.put_integer-is_put.ensures.kept f ∙ c.in_ok-own.ensures in
    c.in_ok-list.ensures ∙ rw (was, kept) (back_set ts own c.args.outer c.in-Some.ensures.there)
