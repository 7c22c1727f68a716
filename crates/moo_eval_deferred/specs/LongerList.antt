-- Lists that values are added to.
use Rattle.std.specs.Prelude.{List, [], ◌∷◌, ◌++◌}
use Rattle.moo_value.specs.Tree.{Tree}
use Rattle.moo_value.specs.View.{tree, trees}
use Rattle.moo_eval_deferred.specs.declared.longer_list.Added.{Added}
use Rattle.moo_eval_deferred.specs.declared.longer_list.Added.TheVariants as added

-- the elements with those that are added
abbrev pub with_added : List Tree → Added → List Tree
with_added ts (added.First v) = tree v ∷ ts
with_added ts (added.Last v) = ts ++ tree v ∷ []
with_added ts (added.All vs) = ts ++ trees vs.items
