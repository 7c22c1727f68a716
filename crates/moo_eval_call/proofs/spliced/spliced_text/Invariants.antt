use Rattle.std.proofs.Common.{[]}
use Rattle.moo_value.specs.Size.{IsString}
use Rattle.moo_eval_call.specs.Spliced.{text_from}
use Rattle.moo_eval_call.proofs.Stretches.{StandsAt}
use Rattle.moo_eval_call.proofs.spliced.spliced_text.Given as goal

abbrev pub invariant-loop-stretch : goal.invariant-loop-stretch
invariant-loop-stretch l = record {
  text : IsString l.text.items;
  stands : StandsAt (text_from []) l.stretches l.stretch-index (text_from l.text.items);
}
