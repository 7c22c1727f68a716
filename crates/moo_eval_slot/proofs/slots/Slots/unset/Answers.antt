use Rattle.moo_syntax_ast.specs.Slots.{slots}
use Rattle.moo_eval_slot.proofs.Names.{unset_all}
use Rattle.moo_eval_slot.proofs.slots.Slots.unset.Goals as goal

pub returns : goal.returns
returns c = rw (c.in_ok-values.ensures, c.slot_names.ensures) (unset_all (slots c.args.program))
