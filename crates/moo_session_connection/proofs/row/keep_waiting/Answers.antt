use Rattle.std.proofs.Common.{rules}
use Rattle.std.proofs.lemmas.Fn.{filter_same}
use Rattle.moo_session_connection.proofs.row.keep_waiting.Goals as goal

pub returns : goal.returns
returns c = filter_same _ _ _ (λ y b f' k. search rules) _ _ c.retain.ensures.filtered
