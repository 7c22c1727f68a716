use Rattle.std.proofs.Common.{rules, FitsSigned, w32}
use Rattle.std.proofs.lemmas.Int.{to_z-of_z}
use Rattle.moo_value.specs.View.{tree}
use Rattle.moo_eval_deferred.proofs.ListCalls.{append_at_has, insert_at_has, set_has}
use Rattle.moo_eval_deferred.proofs.list_call.has_list_at.Goals as goal

pub returns-in-ListAppend : goal.returns-in-ListAppend
returns-in-ListAppend c = λ h. rw c.in-ListAppend.is (append_at_has c.args.list.now (tree c.args.value.now) c.args.place (c.has_room_for.ensures.first.0 h))

pub returns-in-ListInsert : goal.returns-in-ListInsert
returns-in-ListInsert c = λ h. rw c.in-ListInsert.is (insert_at_has c.args.list.now (tree c.args.value.now) c.args.place (c.has_room_for-in-ListInsert.ensures.first.0 h))

pub returns-in-ListSet : goal.returns-in-ListSet
returns-in-ListSet c =
    λ h.
    let fits : FitsSigned w32 c.args.place = search rules in
    rw c.in-ListSet.is (set_has c.args.list.now c.args.place (tree c.args.value.now) (simp to_z-of_z at (c.takes.ensures h)))
