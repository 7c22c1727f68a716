use Rattle.std.proofs.Common.{◌≡◌, List, subst, IfOk, OnOk, IfErr}
use Rattle.moo_value.specs.Tree.{Tree, list_of}
use Rattle.moo_value.specs.Size.{IsWithinLimits}
use Rattle.moo_value.specs.Faults.{IsRefusedList}
use Rattle.moo_value.proofs.Joined.{front_stored, back_stored, trees_spliced}
use Rattle.moo_value.proofs.list.MooList.spliced_copy.Goals as goal

pub in_a_row-requires-clause-front : goal.in_a_row-requires-clause-front
in_a_row-requires-clause-front c =
    front_stored _ _ c.args.low c.elements-all.ensures.value c.elements-all.ensures.values c.elements-all.ensures.limits

pub in_a_row-requires-clause-back : goal.in_a_row-requires-clause-back
in_a_row-requires-clause-back c =
    back_stored _ _ c.args.high c.elements-all.ensures.value c.elements-all.ensures.values c.elements-all.ensures.limits

pub returns-clause-ok : goal.returns-clause-ok
returns-clause-ok c =
    let P : List Tree → Type 0 = λ ts. IfOk c.in_a_row.result (λ list. list ≡ ts) in
    subst P (trees_spliced _ _ _ _ c.args.low c.args.high c.elements-all.ensures.value c.elements.ensures.value) c.in_a_row.ensures.ok

pub returns-clause-limits : goal.returns-clause-limits
returns-clause-limits c =
    let P : List Tree → Type 0 = λ ts. OnOk c.in_a_row.result (IsWithinLimits (list_of ts)) in
    subst P (trees_spliced _ _ _ _ c.args.low c.args.high c.elements-all.ensures.value c.elements.ensures.value) c.in_a_row.ensures.limits

pub returns-clause-err : goal.returns-clause-err
returns-clause-err c =
    let P : List Tree → Type 0 = λ ts. IfErr c.in_a_row.result (λ fault. IsRefusedList fault ts) in
    subst P (trees_spliced _ _ _ _ c.args.low c.args.high c.elements-all.ensures.value c.elements.ensures.value) c.in_a_row.ensures.err
