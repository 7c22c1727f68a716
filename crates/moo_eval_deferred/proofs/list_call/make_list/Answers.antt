use Rattle.std.proofs.Common.{◌≡◌, ◌∙◌, sym, Some, None, Ok}
use Rattle.moo_eval_deferred.proofs.ListCalls.{answer_is, made_is, value_is, lacks_memory}
use Rattle.moo_eval_deferred.proofs.list_call.make_list.Goals as goal

pub returns-in-Ok : goal.returns-in-Ok
returns-in-Ok c = sym (value_is (made_is c.in-Ok.list c.requires c.in-Some.ensures.value c.in-Ok.is))

pub out_of_memory-requires : goal.out_of_memory-requires
out_of_memory-requires c = lacks_memory c.in-Err.fault c.requires c.in-Some.ensures.value c.in-Err.is

pub unreachable-requires : goal.unreachable-requires
unreachable-requires c =
    let none : None ≡ Some (Ok c.requires.0) = sym c.in_default.ensures.value ∙ answer_is c.requires.1 in
    absurd cc
