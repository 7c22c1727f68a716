use Rattle.std.proofs.Common.{◌++◌, ◌∷◌, ◌<◌, [], refl, sym, ◌∙◌, ap, subst, append_assoc, append-nil, length, arith}
use Rattle.std.specs.List.{All}
use Rattle.std.proofs.lemmas.List.{length-set}
use Rattle.moo_dbtext.proofs.NextNumbers.{among, put_one}
use Rattle.moo_dbtext.proofs.nexts.put_next.Goals as goal

pub loop-x-init : goal.loop-x-init
loop-x-init c = ([], append-nil c.args.list, refl, refl, λ y. refl)

pub loop-x-preserved : goal.loop-x-preserved
loop-x-preserved c =
    let at = c.loop-x in
    let x = c.in-Some.x in
    let done = at.invariant.0 in
    let left = c.take_last.new.self in
    let whole = sym (append_assoc left (x ∷ []) done) ∙ ap (λ ls. ls ++ done) (sym c.in-Some.ensures) ∙ at.invariant.1 in
    let low = among (length c.args.next.now) left done x (subst (All (λ y. y < length c.args.next.now)) (sym whole) c.requires) in (
      x ∷ done,
      whole,
      refl,
      length-set at.next x at.following ∙ at.invariant.3,
      put_one at.next c.args.next.now at.following x done (omega (arith, low, at.invariant.3)) at.invariant.2 at.invariant.4,
    )
