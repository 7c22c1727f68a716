-- However a stream is cut.
use Rattle.std.proofs.Common.{◌≡◌, ℕ, List, [], ◌++◌, refl, sym, ◌∙◌, ap}
use Rattle.std.proofs.lemmas.List.{append-nil, append_assoc, append_cancel_left}
use Rattle.std.specs.List.{concat}
use Rattle.moo_session_line.specs.Rest.{Rest}
use Rattle.moo_session_line.specs.Lines.{lines, rest}
use Rattle.moo_session_line.specs.Reading.{Reads, ReadsAll, no_piece_more, one_piece_more, LinesUnderAnyCutting, OneReading}
use Rattle.moo_session_line.proofs.Streams.{lines_of, rest_of, lines-append, rest-append}

answer_is : (before after : Rest) (piece : List ℕ) (answer : List (List ℕ)) → Reads before piece answer after → answer ≡ lines_of before piece
answer_is before after piece answer r =
    append_cancel_left (lines r.sent) answer (lines_of before piece) (sym r.lines ∙ lines-append r.sent piece ∙ ap (λ h. lines r.sent ++ lines_of h piece) (sym r.holds))

after_is : (before after : Rest) (piece : List ℕ) (answer : List (List ℕ)) → Reads before piece answer after → after ≡ rest_of before piece
after_is before after piece answer r = sym r.rest ∙ rest-append r.sent piece ∙ ap (λ h. rest_of h piece) (sym r.holds)

pub one_reading : OneReading
one_reading before after other piece answer instead r q =
    (answer_is before after piece answer r ∙ sym (answer_is before other piece instead q), after_is before after piece answer r ∙ sym (after_is before other piece instead q))

-- the lines of pieces that follow any stream
all_read : (sent : List ℕ) {held after : Rest} {pieces answer : List (List ℕ)} → held ≡ rest sent → ReadsAll held pieces answer after →
    (lines sent ++ answer ≡ lines (sent ++ concat pieces)) × (after ≡ rest (sent ++ concat pieces))
all_read sent e no_piece_more = (append-nil (lines sent) ∙ ap lines (sym (append-nil sent)), e ∙ ap rest (sym (append-nil sent)))
all_read sent e (one_piece_more {r = held} {s = next} {piece = piece} {pieces = pieces} {answer = answer} {more = more} r d) =
    let here : lines sent ++ answer ≡ lines (sent ++ piece) =
    ap (λ w. lines sent ++ w) (answer_is held next piece answer r ∙ ap (λ h. lines_of h piece) e) ∙ sym (lines-append sent piece) in
    let then_held : next ≡ rest (sent ++ piece) = after_is held next piece answer r ∙ ap (λ h. rest_of h piece) e ∙ sym (rest-append sent piece) in
    let later = all_read (sent ++ piece) then_held d in
    let whole_is : (sent ++ piece) ++ concat pieces ≡ sent ++ (piece ++ concat pieces) = append_assoc sent piece (concat pieces) in
    (sym (append_assoc (lines sent) answer more) ∙ ap (λ w. w ++ more) here ∙ later.0 ∙ ap lines whole_is, later.1 ∙ ap rest whole_is)

pub lines_under_any_cutting : LinesUnderAnyCutting
lines_under_any_cutting pieces answer after d = all_read [] refl d
