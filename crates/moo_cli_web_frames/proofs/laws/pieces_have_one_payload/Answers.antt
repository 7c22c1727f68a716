use Rattle.std.proofs.Common.{ap}
use Rattle.websocket.proofs.StreamLemmas.{read_chunks-concat}
use Rattle.websocket.specs.Stream.{Trace}
use Rattle.moo_cli_web_frames.specs.Frames.{opened, payload_in}
use Rattle.moo_cli_web_frames.proofs.laws.pieces_have_one_payload.Goals as goal

pub returns : goal.returns
returns c = λ pieces. ap (λ (trace : Trace). payload_in trace.effects) (read_chunks-concat opened pieces)
