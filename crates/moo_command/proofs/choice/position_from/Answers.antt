use Rattle.std.proofs.Common.{◌≡◌, ◌<◌, ◌∙◌, sym, ap, arith, length, get_or, ltb, inl, inr}
use Rattle.std.proofs.lemmas.Bool.{cases_Bool, ltb-true, ltb-false}
use Rattle.std.proofs.lemmas.List.{get_or_read}
use Rattle.moo_command.specs.Choice.{is_meant}
use Rattle.moo_command.specs.Seen.{command_of}
use Rattle.moo_command.proofs.Choosing.{first_place, no_place}
use Rattle.moo_command.proofs.choice.position_from.Goals as goal

pub loop-i-init : goal.loop-i-init
loop-i-init c = λ k v below low. c.requires.before k v low below

pub loop-i-preserved : goal.loop-i-preserved
loop-i-preserved c = λ k v below low. elim (cases_Bool (ltb k c.loop-i.i)) [
  | inl less ↦ c.loop-i.invariant k v (ltb-true k c.loop-i.i less) low
  | inr more ↦
      let same : k ≡ c.loop-i.i = omega (arith, below, ltb-false k c.loop-i.i more) in
      let at : c.loop-i.i < length c.args.verbs.now = omega (arith, low, same) in
      ap (λ n. is_meant (command_of c.args.wanted.now.command.now) c.args.wanted.now.looked_on (get_or c.args.verbs.now n v)) same
      ∙ ap (is_meant (command_of c.args.wanted.now.command.now) c.args.wanted.now.looked_on) (sym (get_or_read c.args.verbs.now c.loop-i.i _ at c.index-verbs-i.is v))
      ∙ sym c.is_meant.ensures ∙ c.if-is_meant.false
]

pub returns-then-is_meant : goal.returns-then-is_meant
returns-then-is_meant c =
    let low : c.loop-i.i < length c.args.verbs.now = omega (arith, c.loop-i-test.true) in
    let passes = ap (is_meant (command_of c.args.wanted.now.command.now) c.args.wanted.now.looked_on) (sym c.index-verbs-i.is) ∙ sym c.is_meant.ensures ∙ c.if-is_meant.true in
    first_place (is_meant (command_of c.args.wanted.now.command.now) c.args.wanted.now.looked_on) c.args.verbs.now c.loop-i.i _ low (λ k l. c.loop-i.invariant k _ l (omega (arith, l, low))) passes

pub returns : goal.returns
returns c = no_place (is_meant (command_of c.args.wanted.now.command.now) c.args.wanted.now.looked_on) c.args.verbs.now (λ k d l. c.loop-i.invariant k d (omega (arith, l, c.loop-i-test.false)) l)
