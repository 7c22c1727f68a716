-- The meaning of the program's entered verbs.
use Rattle.std.specs.Prelude.{ℤ, [], None}
use Rattle.moo_world_object.specs.declared.verb.Verb.{Verb}
use Rattle.moo_syntax_ast.specs.Given.{given_names}
use Rattle.moo_eval_slot.specs.Bindings.{value_of_name}
use Rattle.moo_eval_frame.specs.GivenValues.{given_values}
use Rattle.moo_eval_frame.specs.Seen.{context_of}
use Rattle.moo_eval_slot.specs.Held.{slot_value}
use Rattle.moo_eval_access.specs.declared.entering.Called.{Called}
use Rattle.moo_eval_access.specs.declared.entering.Found.{Found}
use Rattle.moo_eval_access.specs.Entering.{Entered}

abbrev pub found_of : Found → ℤ × Verb
found_of found = (found.definer, found.verb.now)

abbrev pub entered_of : Called → Entered
entered_of called = record {
  context = context_of called.stack None;
  variables = slot_value given_names (given_values called.given) (value_of_name []);
  programmer = called.stack.running.programmer;
}
