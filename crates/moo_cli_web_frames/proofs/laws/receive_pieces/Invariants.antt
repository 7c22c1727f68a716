use Rattle.std.proofs.Common.{◌≡◌, ℕ, List, ◌++◌, drop, Ok}
use Rattle.websocket.specs.Stream.{concat, read_all}
use Rattle.moo_cli_web_frames.specs.Frames.{Receives, pieces_of}
use Rattle.moo_cli_web_frames.proofs.laws.receive_pieces.Given as goal

abbrev pub invariant-loop-piece : goal.invariant-loop-piece
invariant-loop-piece l =
    (before : List ℕ)
    × (l.initial.endpoint.input.items ++ concat (pieces_of l.pieces) ≡ before ++ concat (pieces_of (drop l.piece-index l.pieces)))
    × Receives (read_all l.initial.endpoint.context before) (Ok (l.endpoint.context, l.endpoint.input.items)) l.initial.payload.items l.payload.items l.initial.output.items l.output.items
