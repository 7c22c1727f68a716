use Rattle.std.proofs.Common.{◌≡◌, ◌+◌, ◌-◌, length, take, drop, ◌++◌, sym, ap, ◌∙◌, arith}
use Rattle.std.proofs.lemmas.List.{length-drop, take_all}
use Rattle.memchr.specs.Find.{matches}
use Rattle.moo_value.specs.Compare.{folded}
use Rattle.moo_builtin_value.proofs.Occurring.{next_match, no_match, match_fits}
use Rattle.moo_builtin_value.proofs.Replacing.{replaced_step, replaced_end}
use Rattle.moo_builtin_value.proofs.substitution.replaced_folded.Goals as goal

pub loop-start-preserved : goal.loop-start-preserved
loop-start-preserved c =
    let text = c.args.text.now in
    let wanted = c.args.wanted.now in
    let last = c.loop-start.last in
    let k = c.in-Some.start in
    let fits = match_fits text wanted last k c.in-Some.ensures in (
      omega (arith, fits),
      c.loop-start.invariant.1 ∙ replaced_step text (length wanted) c.args.other.now last k (matches (folded text) (folded wanted) last) (matches (folded text) (folded wanted) (k + length wanted)) c.loop-start.made.items c.extend_from_slice.new.self.items
          c.extend_from_slice-in-Some.new.self.items (next_match text wanted last k c.requires c.in-Some.ensures) c.in_ok-extend_from_slice.ensures.items c.in_ok-extend_from_slice-2.ensures.items,
    )

pub returns : goal.returns
returns c =
    let text = c.args.text.now in
    let wanted = c.args.wanted.now in
    let last = c.loop-start.last in
    let whole : take (length text - last) (drop last text) ≡ drop last text = take_all _ _ (omega (arith, length-drop last text)) in
    c.in_ok-extend_from_slice-3.ensures.items ∙ ap (λ t. c.loop-start.made.items ++ t) whole
    ∙ sym (c.loop-start.invariant.1 ∙ replaced_end text (length wanted) c.args.other.now last (matches (folded text) (folded wanted) last) c.loop-start.made.items (no_match text wanted last c.in_default.ensures))
