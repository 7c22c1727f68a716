use Rattle.std.proofs.Common.{◌≡◌, List, ◌++◌, ◌+◌, ℕ, Ok, drop, sym, ◌∙◌, ap, subst, append_assoc}
use Rattle.std.proofs.lemmas.Result.{err_from_is_err_and}
use Rattle.websocket.specs.Stream.{concat, read_all}
use Rattle.moo_cli_web_frames.specs.Frames.{FailsFor, pieces_of}
use Rattle.moo_cli_web_frames.proofs.Pieces.{FailsFor-append, Receives-append, piece_next}
use Rattle.moo_cli_web_frames.proofs.laws.receive_pieces.Goals as goal

pub returns-in_err-receive-clause-err : goal.returns-in_err-receive-clause-err
returns-in_err-receive-clause-err c =
    let l = c.loop-piece in
    let before = l.invariant.0 in
    let bytes = c.deref.result.now in
    let rest = concat (pieces_of (drop (l.piece-index + 1) c.args.pieces.now)) in
    let next : concat (pieces_of (drop l.piece-index c.args.pieces.now)) ≡ bytes ++ rest =
    piece_next c.args.pieces.now l.piece-index c.piece-item.result c.loop-piece-test.true c.piece-item.is
    ∙ ap (λ (x : List ℕ). x ++ rest) (sym c.deref.ensures.value) in
    let all : c.args.endpoint.now.input.items ++ concat (pieces_of c.args.pieces.now) ≡ (before ++ bytes) ++ rest =
    l.invariant.1 ∙ ap (λ (x : List ℕ). before ++ x) next ∙ sym (append_assoc before bytes rest) in
    let p = err_from_is_err_and c.from_residual.result c.from_residual.ensures.1 in
    rw (p.1, p.2) (subst
    (λ (x : List ℕ). FailsFor (read_all c.args.endpoint.now.context x) c.args.payload.now.items c.receive.new.payload.items c.args.output.now.items c.receive.new.output.items c.in_err-receive.field-0.0)
    (sym all)
    (FailsFor-append c.args.endpoint.now.context l.endpoint.context before l.endpoint.input.items bytes rest c.args.payload.now.items l.payload.items
    c.receive.new.payload.items c.args.output.now.items l.output.items c.receive.new.output.items c.in_err-receive.field-0.0 l.invariant.2 c.in_err-receive.ensures.err))

pub loop-piece-preserved : goal.loop-piece-preserved
loop-piece-preserved c =
    let l = c.loop-piece in
    let before = l.invariant.0 in
    let bytes = c.deref.result.now in
    let rest = concat (pieces_of (drop (l.piece-index + 1) c.args.pieces.now)) in
    let next : concat (pieces_of (drop l.piece-index c.args.pieces.now)) ≡ bytes ++ rest =
    piece_next c.args.pieces.now l.piece-index c.piece-item.result c.loop-piece-test.true c.piece-item.is
    ∙ ap (λ (x : List ℕ). x ++ rest) (sym c.deref.ensures.value) in (
      before ++ bytes,
      l.invariant.1 ∙ ap (λ (x : List ℕ). before ++ x) next ∙ sym (append_assoc before bytes rest),
      Receives-append c.args.endpoint.now.context l.endpoint.context before l.endpoint.input.items bytes c.args.payload.now.items l.payload.items
          c.receive.new.payload.items c.args.output.now.items l.output.items c.receive.new.output.items
          (Ok (c.receive.new.self.context, c.receive.new.self.input.items)) l.invariant.2 c.in_ok-receive.ensures.ok,
    )
