use Rattle.std.proofs.Common.{◌<◌, length, refl, arith}
use Rattle.std.proofs.lemmas.Bool.{false≢true}
use Rattle.moo_world_object.proofs.Names.{other_letter, letters_same}
use Rattle.moo_world_object.proofs.name.begin_alike.Goals as goal

pub returns-then-not-is_same_letter : goal.returns-then-not-is_same_letter
returns-then-not-is_same_letter c =
    let low : c.loop-i.i < length c.args.one.now = omega arith in (
      λ never. absurd (false≢true never),
      λ same. absurd (other_letter c.args.one.now c.args.other.now c.loop-i.i low c.requires (λ alike. false≢true (c.if-not-is_same_letter.ensures.1 alike)) same),
    )

pub returns : goal.returns
returns c = (λ _. letters_same c.args.one.now c.args.other.now c.loop-i.i c.requires (omega arith) c.loop-i.invariant, λ _. refl)
