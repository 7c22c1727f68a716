use Rattle.std.proofs.Common.{◌≡◌, ◌+◌, take, drop, Some, ◌∙◌, arith, to_z, of_z, w32, SFits, rules}
use Rattle.std.proofs.Common as common
use Rattle.std.specs.Prelude.{position}
use Rattle.std.proofs.lemmas.Grind.{common_steps}
use Rattle.std.proofs.lemmas.Int.{ints, to_z-of_z}
use Rattle.moo_command.specs.Objects.{matched}
use Rattle.moo_session.specs.DotProgram.{is_colon}
use Rattle.moo_session.proofs.ProgramSteps.{begun_so}
use Rattle.moo_session.proofs.dot_program.begin_by_word.Goals as goal

pub returns-in_ok-verb-in-Some : goal.returns-in_ok-verb-in-Some
returns-in_ok-verb-in-Some c =
    let word = c.args.word.now in
    let at : position is_colon word ≡ Some c.in-Some.colon = cc in
    let object : c.match_object-o.result ≡ matched c.args.world.now c.args.player (take c.in-Some.colon word) = first_of (cc, grind (arith, ints, to_z-of_z, common_steps)) in
    let verb : c.in_ok-verb-in-Some.verb ≡ drop (c.in-Some.colon + 1) word = grind (arith, common_steps) in
    let who : to_z w32 (of_z w32 c.args.player) ≡ c.args.player = (let fits : SFits w32 c.args.player = search rules in common.to_z-of_z fits) in
    let named : to_z w32 (of_z w32 c.match_object-o.result) ≡ matched c.args.world.now c.args.player (take c.in-Some.colon word) =
    (let fits : SFits w32 c.match_object-o.result = search rules in common.to_z-of_z fits ∙ object) in
    begun_so c.begin_for.result c.args.world.now c.args.number c.args.player word c.args.session.now c.begin_for.new.session c.in-Some.colon _ _ c.in_ok-verb-in-Some.verb at who named verb c.begin_for.ensures
