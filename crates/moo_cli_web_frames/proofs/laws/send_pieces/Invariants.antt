use Rattle.std.proofs.Common.{◌≡◌, List, ◌++◌, ℕ, drop}
use Rattle.websocket.specs.Stream.{concat}
use Rattle.moo_cli_web_frames.specs.Frames.{Shows, pieces_of}
use Rattle.moo_cli_web_frames.proofs.laws.send_pieces.Given as goal

abbrev pub invariant-loop-piece : goal.invariant-loop-piece
invariant-loop-piece l =
    (before : List ℕ) × (frames : List ℕ)
    × (concat (pieces_of l.pieces) ≡ before ++ concat (pieces_of (drop l.piece-index l.pieces)))
    × (l.endpoint.context ≡ l.initial.endpoint.context)
    × (l.output.items ≡ l.initial.output.items ++ frames)
    × Shows frames before
