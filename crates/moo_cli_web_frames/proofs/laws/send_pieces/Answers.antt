use Rattle.std.proofs.Common.{◌≡◌, ◌≤◌, ℕ, List, [], ◌++◌, ◌+◌, length, drop, refl, sym, subst, ◌∙◌, ap, append_assoc, append-nil, arith}
use Rattle.std.specs.Global.{Vec}
use Rattle.std.specs.Prelude.{vec_len}
use Rattle.std.proofs.lemmas.List.{at_drop_all}
use Rattle.websocket.specs.declared.protocol.config.Role.TheVariants.{Server}
use Rattle.websocket.specs.Connection.{Connection}
use Rattle.websocket.specs.Stream.{concat}
use Rattle.moo_cli_web_frames.specs.Frames.{Shows, pieces_of}
use Rattle.moo_cli_web_frames.proofs.Pieces.{piece_next}
use Rattle.moo_cli_web_frames.proofs.Shown.{frame_of, sent_frame, shows_append, shows_frame, shows_nothing}
use Rattle.moo_cli_web_frames.proofs.laws.send_pieces.Goals as goal

pub loop-piece-init : goal.loop-piece-init
loop-piece-init c = ([], [], refl, refl, sym (append-nil c.args.output.now.items), shows_nothing)

pub loop-piece-preserved : goal.loop-piece-preserved
loop-piece-preserved c =
    let l = c.loop-piece in
    let before = l.invariant.0 in
    let frames = l.invariant.1 in
    let bytes = c.deref.result.now in
    let rest = concat (pieces_of (drop (l.piece-index + 1) c.args.pieces.now)) in
    let next : concat (pieces_of (drop l.piece-index c.args.pieces.now)) ≡ bytes ++ rest =
    piece_next c.args.pieces.now l.piece-index c.piece-item.result c.loop-piece-test.true c.piece-item.is
    ∙ ap (λ (x : List ℕ). x ++ rest) (sym c.deref.ensures.value) in
    let role : l.endpoint.context.role ≡ Server = ap (λ (conn : Connection). conn.role) l.invariant.3 ∙ c.requires.server in
    let piece = c.piece-item.result in
    let short : length bytes ≤ 16384 =
    omega (arith, c.requires.short l.piece-index piece c.loop-piece-test.true, ap (λ (p : Vec ℕ). vec_len p) c.piece-item.is, ap (λ (bs : List ℕ). length bs) c.deref.ensures.value) in
    let sent = sent_frame l.endpoint.context c.send.new.self.context bytes l.output.items c.send.new.output.items role c.in_ok-send.ensures.ok in (
      before ++ bytes,
      frames ++ frame_of bytes,
      l.invariant.2 ∙ ap (λ (x : List ℕ). before ++ x) next ∙ sym (append_assoc before bytes rest),
      sent.0 ∙ l.invariant.3,
      sent.1 ∙ ap (λ (x : List ℕ). x ++ frame_of bytes) l.invariant.4 ∙ append_assoc c.args.output.now.items frames (frame_of bytes),
      shows_append frames (frame_of bytes) before bytes l.invariant.5 (shows_frame bytes (omega (arith, short))),
    )

pub returns : goal.returns
returns c =
    let l = c.loop-piece in
    let all : concat (pieces_of c.args.pieces.now) ≡ l.invariant.0 =
    l.invariant.2 ∙ ap (λ (x : List ℕ). l.invariant.0 ++ x) (at_drop_all (λ (ps : List (Vec ℕ)). concat (pieces_of ps)) c.args.pieces.now l.piece-index (omega (arith, c.loop-piece-test.false)))
    ∙ append-nil l.invariant.0 in
    (l.invariant.1, l.invariant.4, subst (λ (p : List ℕ). Shows l.invariant.1 p) (sym all) l.invariant.5)
