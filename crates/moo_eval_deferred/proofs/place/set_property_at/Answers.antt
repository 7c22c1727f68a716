use Rattle.std.proofs.Common.{w32, rules}
use Rattle.std.proofs.lemmas.Int.{to_z-of_z}
use mir.Val.{SFits}
use Rattle.moo_value.specs.View.{tree}
use Rattle.moo_eval_access.proofs.Written.{kept_after_drop}
use Rattle.moo_eval_deferred.proofs.place.set_property_at.Goals as goal

pub returns-clause-kept : goal.returns-clause-kept
returns-clause-kept c =
    let rights : SFits w32 c.args.programmer = search rules in
    kept_after_drop (rw (to_z-of_z w32 c.args.programmer rights) at c.drop_written.ensures) c.write_written.new.world (tree c.in_ok-whole.whole) c.write_written.result
    (rw (to_z-of_z w32 c.args.programmer rights) at c.write_written.ensures.world) c.write_written.ensures.kept
