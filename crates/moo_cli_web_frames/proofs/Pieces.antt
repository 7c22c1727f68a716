-- Runs of frames over bytes that come in pieces.
use Rattle.std.proofs.Common.{◌≡◌, inl, inr, ℕ, ◌+◌, ◌<◌, List, ◌++◌, length, get_or, drop, Result, Ok, Err, sym, ap, ◌∙◌, append_assoc}
use Rattle.std.specs.Global.{Vec}
use Rattle.std.proofs.lemmas.List.{at_drop_more}
use Rattle.websocket.specs.declared.error.Error.{Error}
use Rattle.websocket.specs.Connection.{Connection}
use Rattle.websocket.specs.Stream.{concat, prepend, read_all, resume}
use Rattle.websocket.proofs.StreamLemmas.{receive-read_all}
use Rattle.moo_cli_web_frames.specs.Frames.{FailsFor, Receives, payload_in, pieces_of}
use Rattle.moo_cli_web_frames.proofs.Reading.{Replies-append, payload_in-append}

-- a piece is received after a run that waits
pub Receives-append : (c0 c1 : Connection) (a i1 piece p0 p1 p2 o0 o1 o2 : List ℕ) (end : Result (Connection × List ℕ) Error)
    → Receives (read_all c0 a) (Ok (c1, i1)) p0 p1 o0 o1 → Receives (read_all c1 (i1 ++ piece)) end p1 p2 o1 o2
    → Receives (read_all c0 (a ++ piece)) end p0 p2 o0 o2
Receives-append c0 c1 a i1 piece p0 p1 p2 o0 o1 o2 end first second =
    let before = (read_all c0 a).effects in
    let after = (read_all c1 (i1 ++ piece)).effects in
    let joined : read_all c0 (a ++ piece) ≡ prepend before (read_all c1 (i1 ++ piece)) =
    sym (receive-read_all c0 a piece) ∙ ap (λ x. resume before x piece) first.0 in
    rw joined (
      second.0,
      (
        second.1.0 ∙ ap (λ x. x ++ payload_in after) first.1.0 ∙ append_assoc p0 (payload_in before) (payload_in after)
            ∙ ap (λ x. p0 ++ x) (sym (payload_in-append before after)),
        Replies-append before after o0 o1 o2 first.1.1 second.1.1,
      ),
    )

-- bytes after an error change nothing
pub read_all-ended : (c : Connection) (b rest : List ℕ) (e : Error) → (read_all c b).end ≡ Err e → read_all c (b ++ rest) ≡ read_all c b
read_all-ended c b rest e ends =
    let t = read_all c b in
    let same : record { effects = t.effects; end = Err e } ≡ t = ap (λ x. record { effects = t.effects; end = x }) (sym ends) in
    sym (receive-read_all c b rest) ∙ ap (λ x. resume t.effects x rest) ends ∙ same

-- a piece fails after a run that waits, whatever follows it
pub FailsFor-append : (c0 c1 : Connection) (a i1 piece rest p0 p1 p2 o0 o1 o2 : List ℕ) (e : Error)
    → Receives (read_all c0 a) (Ok (c1, i1)) p0 p1 o0 o1 → FailsFor (read_all c1 (i1 ++ piece)) p1 p2 o1 o2 e
    → FailsFor (read_all c0 ((a ++ piece) ++ rest)) p0 p2 o0 o2 e
FailsFor-append c0 c1 a i1 piece rest p0 p1 p2 o0 o1 o2 e first fails =
    elim fails [
      | inl memory ↦ inl memory
      | inr second ↦ inr (
          let whole = Receives-append c0 c1 a i1 piece p0 p1 p2 o0 o1 o2 (Err e) first second in
          rw (read_all-ended c0 (a ++ piece) rest e whole.0) whole)
    ]

-- the bytes of the pieces from one on
pub piece_next : (pieces : List (Vec ℕ)) (i : ℕ) (piece : Vec ℕ) → i < length pieces → piece ≡ get_or pieces i piece
    → concat (pieces_of (drop i pieces)) ≡ piece.items ++ concat (pieces_of (drop (i + 1) pieces))
piece_next pieces i piece less is =
    at_drop_more (λ (ps : List (Vec ℕ)). concat (pieces_of ps)) pieces i piece less
    ∙ ap (λ (p : Vec ℕ). p.items ++ concat (pieces_of (drop (i + 1) pieces))) (sym is)
