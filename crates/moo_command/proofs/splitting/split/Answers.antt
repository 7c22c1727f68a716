use Rattle.std.proofs.Common.{◌∙◌, sym, ap, refl, arith}
use Rattle.moo_command.specs.Inner.{form_among, form_table}
use Rattle.moo_command.proofs.Splits.{none_more, splits_at, splits_nowhere, rest_whole, none_yet}
use Rattle.moo_command.proofs.splitting.split.Goals as goal

pub loop-at-init : goal.loop-at-init
loop-at-init c = none_yet c.args.words.now

pub loop-at-preserved : goal.loop-at-preserved
loop-at-preserved c =
    none_more c.args.words.now c.loop-at.at c.loop-at.invariant (
    sym (ap (form_among form_table) (rest_whole c.args.words.now c.loop-at.at (omega arith))) ∙ sym c.preposition_at.ensures.value ∙ c.in_default.is
    )

pub returns-in-Some-clause-parts : goal.returns-in-Some-clause-parts
returns-in-Some-clause-parts c =
    splits_at c.args.words.now c.loop-at.at c.in-Some.preposition c.in-Some.length _ c.loop-at.invariant (
    sym (ap (form_among form_table) (rest_whole c.args.words.now c.loop-at.at (omega arith))) ∙ sym c.in-Some.ensures.value
    ) refl refl refl

pub returns-clause-parts : goal.returns-clause-parts
returns-clause-parts c = splits_nowhere c.args.words.now _ (λ j h. c.loop-at.invariant j (omega (arith, h, c.loop-at-test.false))) refl refl refl
