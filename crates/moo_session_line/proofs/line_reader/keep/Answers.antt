use Rattle.std.proofs.Common.{arith, sym, ap, ◌∙◌, length, ◌<◌, ◌≤◌}
use Rattle.moo_session_line.specs.Rest.{line_limit}
use Rattle.moo_session_line.proofs.Pieces.{line_with-none, kept_more, dropped_more, full_more}
use Rattle.moo_session_line.proofs.line_reader.keep.Goals.{then-len-lt-LINE_LIMIT+then-is_kept+in_ok-push, else-len-lt-LINE_LIMIT, else-len-lt-LINE_LIMIT-via-then-len-lt-LINE_LIMIT+else-is_kept, else-len-lt-LINE_LIMIT-via-else-len-lt-LINE_LIMIT}
use Rattle.moo_session_line.proofs.line_reader.keep.Goals as goal

pub loop-byte-init : goal.loop-byte-init
loop-byte-init c = sym (line_with-none c.args.line.now.items c.requires)

pub loop-byte-preserved : goal.loop-byte-preserved
unfolding line_limit
loop-byte-preserved c =
    let inside : c.loop-byte.byte-index < length c.args.bytes.now = c.loop-byte-test.true in
    elim c.if-len-lt-LINE_LIMIT.branch [
      | then-len-lt-LINE_LIMIT+then-is_kept+in_ok-push w ↦
          let room : length c.loop-byte.line.items < line_limit = omega arith in
          ap (λ v. v.items) w.line-is ∙ w.in_ok-push.ensures.items
          ∙ kept_more c.args.line.now.items c.loop-byte.line.items c.args.bytes.now c.loop-byte.byte-index inside c.loop-byte.invariant room (sym w.is_kept.ensures ∙ w.if-is_kept.true)
      | else-len-lt-LINE_LIMIT w ↦ elim w.else-len-lt-LINE_LIMIT.branch [
        | else-len-lt-LINE_LIMIT-via-then-len-lt-LINE_LIMIT+else-is_kept v ↦
            ap (λ v. v.items) w.line-is
            ∙ dropped_more c.args.line.now.items c.loop-byte.line.items c.args.bytes.now c.loop-byte.byte-index inside c.loop-byte.invariant (sym v.is_kept.ensures ∙ v.if-is_kept.false)
        | else-len-lt-LINE_LIMIT-via-else-len-lt-LINE_LIMIT v ↦
            let full : line_limit ≤ length c.loop-byte.line.items = omega arith in
            ap (λ v. v.items) w.line-is
            ∙ full_more c.args.line.now.items c.loop-byte.line.items c.args.bytes.now c.loop-byte.byte-index inside c.loop-byte.invariant full
      ]
    ]
