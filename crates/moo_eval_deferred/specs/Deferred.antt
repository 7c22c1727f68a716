-- Values that may still have to be made.
use Rattle.moo_value.specs.Tree.{Tree, list_of}
use Rattle.moo_value.specs.View.{tree}
use Rattle.moo_eval_deferred.specs.declared.deferred.Deferred.{Deferred}
use Rattle.moo_eval_deferred.specs.declared.deferred.Deferred.TheVariants as deferred_case

-- the value that is made
abbrev pub deferred_tree : Deferred → Tree
deferred_tree (deferred_case.Value v) = tree v
deferred_tree (deferred_case.Longer elements) = list_of elements
deferred_tree (deferred_case.Called value) = value
deferred_tree (deferred_case.Part elements) = list_of elements
