-- The meaning of the program's handlers.
use Rattle.std.specs.Prelude.{option_copied, List, Result, Ok, Err, map}
use Rattle.std.specs.declared.vec.Vec.{Vec}
use Rattle.std.specs.declared.alloc.Global.{Global}
use Rattle.moo_syntax_node.specs.Source.{source_codes}
use Rattle.moo_syntax_node.specs.Blocks.{source_block}
use Rattle.moo_eval_control.specs.declared.handling.Guarded as code
use Rattle.moo_eval_frame.specs.declared.outcome.Stop as code_stop
use Rattle.moo_eval_frame.specs.Outcome.{Stop}
use Rattle.moo_eval_control.specs.Handling.{Guarded}
use Rattle.moo_eval_frame.specs.Seen.{stop_of}
use Rattle.moo_eval_control.specs.SeenCatching.{code_values}

abbrev pub guarded_of : code.Guarded → Guarded
guarded_of g = record { name = option_copied g.name; codes = source_codes g.codes.now; values = code_values g.codes.now g.values.items; body = source_block g.body.now }

abbrev pub seen_guarded : Result (Vec code.Guarded Global) code_stop.Stop → Result (List Guarded) Stop
seen_guarded (Ok gs) = Ok (map guarded_of gs.items)
seen_guarded (Err stop) = Err (stop_of stop)
