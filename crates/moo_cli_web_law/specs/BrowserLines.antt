-- The lines in the bytes of a WebSocket.
use Rattle.std.specs.Prelude.{◌≡◌, ℕ, List, []}
use Rattle.std.specs.List as list
use Rattle.websocket.specs.Stream.{concat, read_all, read_chunks}
use Rattle.moo_session_line.specs.Rest.{Rest}
use Rattle.moo_session_line.specs.Lines.{lines, rest}
use Rattle.moo_session_line.specs.Reading.{ReadsAll}
use Rattle.moo_cli_web_frames.specs.Frames.{opened, payload_in}

-- the payload in all bytes that a browser sends to an end that was just opened
abbrev pub payload : List ℕ → List ℕ
payload bytes = payload_in (read_all opened bytes).effects

-- The bytes of a browser come in pieces, and the payload in these is read in parts. Then the lines are those of the payload in
-- all bytes, and what is held at the end is its rest.
abbrev pub BrowserLinesUnderAnyCutting : Type 0
BrowserLinesUnderAnyCutting = (pieces parts answer : List (List ℕ)) (after : Rest) → list.concat parts ≡ payload_in (read_chunks opened pieces).effects → ReadsAll (rest []) parts answer after → (answer ≡ lines (payload (concat pieces))) × (after ≡ rest (payload (concat pieces)))
