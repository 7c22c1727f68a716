use Rattle.moo_value.specs.View.{tree}
use Rattle.moo_eval_deferred.proofs.ListCalls.{append_has, insert_has, add_has, delete_has, remove_has}
use Rattle.moo_eval_deferred.proofs.list_call.has_list_of.Goals as goal

pub returns-in-ListAppend : goal.returns-in-ListAppend
returns-in-ListAppend c = λ h. rw c.in-ListAppend.is (append_has c.args.list.now (tree c.args.value.now) (c.has_room_for.ensures.last.0 h))

pub returns-in-ListInsert : goal.returns-in-ListInsert
returns-in-ListInsert c = λ h. rw c.in-ListInsert.is (insert_has c.args.list.now (tree c.args.value.now) (c.has_room_for-in-ListInsert.ensures.first.0 h))

pub returns-in-SetAdd : goal.returns-in-SetAdd
returns-in-SetAdd c = λ h. rw c.in-SetAdd.is (add_has c.args.list.now (tree c.args.value.now) (c.has_room_for-in-SetAdd.ensures.last.0 h))

pub returns-in-ListDelete : goal.returns-in-ListDelete
returns-in-ListDelete c = λ h. rw c.in-ListDelete.is (delete_has c.args.list.now (tree c.args.value.now) (c.has_place.ensures h) c.weight.ensures.limits)

pub returns-in-SetRemove : goal.returns-in-SetRemove
returns-in-SetRemove c = λ h. rw c.in-SetRemove.is (remove_has c.args.list.now (tree c.args.value.now) c.weight.ensures.limits)
