use Rattle.std.proofs.Common.{ap, sym}
use Rattle.moo_value.specs.Compare.{folded}
use Rattle.moo_world_object.proofs.Names.{eq-same_name}
use Rattle.moo_world_object.proofs.name.same_hashed_name.Goals as goal

pub returns-then-has_same_bytes : goal.returns-then-has_same_bytes
returns-then-has_same_bytes c = sym (eq-same_name (folded c.args.one.now) (folded c.args.other.now) (ap folded (c.has_same_bytes.ensures c.if-has_same_bytes.true)))
