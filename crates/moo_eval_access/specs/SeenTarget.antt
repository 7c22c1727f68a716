-- The meaning of the program's targets.
use Rattle.std.specs.Prelude.{List, [], ◌∷◌, map, reverse}
use Rattle.moo_value.specs.Tree.{Tree, elements_of}
use Rattle.moo_value.specs.View.{tree}
use Rattle.moo_syntax_ast.specs.Tree.{Items, no_items, element}
use Rattle.moo_syntax_node.specs.Source.{source, source_items}
use Rattle.moo_syntax_node.specs.Spelling.{spelled_items}
use Rattle.moo_eval_access.specs.declared.target.Root as code_root
use Rattle.moo_eval_access.specs.declared.target.Root.TheVariants as root_case
use Rattle.moo_eval_access.specs.declared.target.Places.{Places}
use Rattle.moo_eval_access.specs.declared.target.Places.TheVariants as places_case
use Rattle.moo_eval_access.specs.declared.target.Step as code_step
use Rattle.moo_eval_access.specs.declared.target.Path as code_path
use Rattle.moo_eval_access.specs.declared.target.Spot.{Spot}
use Rattle.moo_eval_access.specs.declared.target.Spot.TheVariants as spot_case
use Rattle.moo_eval_access.specs.Target.{Root, named, owned, scattered, Step, Path}

abbrev pub root_seen : code_root.Root → Root
root_seen (root_case.Variable x) = named x.now
root_seen (root_case.Property base name) = owned (tree base) (tree name)
root_seen (root_case.Scatter items) = scattered (source_items items.now)
root_seen (root_case.Literals list) = scattered (spelled_items (elements_of list.now))

abbrev pub places_of : Places → List Tree
places_of (places_case.Element place) = tree place ∷ []
places_of (places_case.Part low high) = tree low ∷ tree high ∷ []

abbrev pub step_of : code_step.Step → Step
step_of step = record { container = tree step.container; places = places_of step.places }

-- the steps, the last one first
abbrev pub steps_of : List code_step.Step → List Step
steps_of steps = reverse (map step_of steps)

abbrev pub path_of : code_path.Path → Path
path_of path = record { root = root_seen path.root; steps = steps_of path.steps.items }

abbrev pub spot_of : Spot → Items
spot_of (spot_case.Element place) = element (source place.now) no_items
spot_of (spot_case.Part low high) = element (source low.now) (element (source high.now) no_items)
