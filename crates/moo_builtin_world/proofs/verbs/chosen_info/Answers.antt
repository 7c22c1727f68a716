use Rattle.std.proofs.Common.{w32}
use Rattle.std.proofs.lemmas.Int.{to_z-of_z}
use Rattle.moo_value.specs.View.{tree}
use Rattle.moo_builtin_world.specs.Verbs.{chosen, told_of_verb, info_of_verb, chosen_info}
use Rattle.moo_builtin_world.proofs.Answered.{on_found}
use Rattle.moo_builtin_world.proofs.verbs.chosen_info.Goals as goal

pub returns-in-Some : goal.returns-in-Some
unfolding chosen_info
returns-in-Some c =
    let o = to_z-of_z w32 c.args.o c.ranges.o in
    let p = to_z-of_z w32 c.args.programmer c.ranges.programmer in
    on_found _ (chosen c.args.world.now c.args.o (tree c.args.choice.now)) _ (told_of_verb c.args.world.now c.args.programmer c.args.o info_of_verb) (simp o at c.in-Some.ensures) (simp (o, p) at c.info_at.ensures)
