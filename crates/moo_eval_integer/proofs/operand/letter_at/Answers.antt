use Rattle.std.proofs.Common.{◌≡◌, ◌<◌, pos, suc, Some, refl, ap, arith, length, w32, rules}
use Rattle.std.proofs.lemmas.Int.{to_z-of_z}
use mir.Val.{SFits}
use Rattle.moo_builtin_operator.specs.Assignment.{before_place}
use Rattle.moo_builtin_operator.proofs.Lists.{index_in_text}
use Rattle.moo_eval_integer.proofs.Given.{before}
use Rattle.moo_eval_integer.proofs.operand.letter_at.Goals as goal

pub returns : goal.returns
returns c =
    let place : SFits w32 c.args.place = search rules in
    let s = c.args.string.now in
    let k = c.in_ok-index.index in
    let value : c.as_bytes-bytes.result.now ≡ s = c.as_bytes-bytes.ensures.value in
    let at : c.args.place ≡ pos (suc k) = rw (to_z-of_z w32 c.args.place place) at c.in_ok-index.ensures in
    let low : k < length s = omega (arith, c.if-index-bytes.false, ap length value) in
    let there : Some k ≡ before_place c.args.place (length s) = before c.args.place k (length s) at low in
    rw value (index_in_text s c.args.place k (length s) refl low there)
