use Rattle.std.proofs.lemmas.Bool.Decides.{same_from_decides}
use Rattle.moo_builtin_operator.proofs.Equality.{same_tree_decides}
use Rattle.moo_value.specs.View.{tree}
use Rattle.moo_builtin_value.proofs.looks.is_same.Goals as goal

pub returns : goal.returns
returns c = same_from_decides _ _ c.same.ensures (same_tree_decides (tree c.args.a.now) (tree c.args.b.now))
