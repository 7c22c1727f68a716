use Rattle.moo_builtin_value.proofs.TextBytes.{along, literal_text}
use Rattle.moo_builtin_value.proofs.conversion.literal_of.Goals as goal

pub string_answer-requires : goal.string_answer-requires
string_answer-requires c = along _ _ c.in-Ok.ensures (literal_text _ c.weight-weight.ensures.value)
