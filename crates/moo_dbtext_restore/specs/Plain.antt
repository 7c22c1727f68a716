-- Objects made of their records, whose cells have no definitions yet.
use Rattle.std.specs.Prelude.{ℕ, List, [], ◌∷◌, Option, Some, None, map, reverse}
use Rattle.std.specs.Option.{option_map}
use Rattle.std.specs.Global.{Vec}
use Rattle.moo_value.specs.Compare.{folded}
use Rattle.moo_value.specs.View.{tree}
use Rattle.moo_syntax_ast.specs.Tree.{Block}
use Rattle.moo_world_object.specs.Cells.{Cell, Key}
use Rattle.moo_world_object.specs.Objects.{Object}
use Rattle.moo_world_object.specs.declared.verb.Verb.{Verb}
use Rattle.moo_dbtext_object.specs.declared.object_record.VerbRecord.{VerbRecord}
use Rattle.moo_dbtext_object.specs.declared.object_record.PropertyRecord.{PropertyRecord}
use Rattle.moo_dbtext_object.specs.declared.object_record.ObjectRecord.{ObjectRecord}

abbrev pub plain_verb : VerbRecord → Option Block → Verb
plain_verb v p = record { names = v.names; owner = v.owner; perms = v.perms; args = v.args; program = p }

-- verbs with their programs; past the last program they have none
abbrev pub plain_verbs : List VerbRecord → List (Option Block) → List Verb
plain_verbs [] ps = []
plain_verbs (v ∷ vs) [] = plain_verb v None ∷ plain_verbs vs []
plain_verbs (v ∷ vs) (p ∷ ps) = plain_verb v p ∷ plain_verbs vs ps

abbrev pub plain_cell : PropertyRecord → Cell
plain_cell c = record { definer = 0; name = []; owner = c.owner; perms = c.perms; value = option_map tree c.value }

abbrev pub plain_object : ObjectRecord → List (Option Block) → Object
plain_object o ps = record { name = o.name; owner = o.owner; flags = o.flags; verbs = plain_verbs o.verbs.items ps; defined = o.names.items; cells = map plain_cell o.cells.items }

abbrev pub plain_at : Option ObjectRecord → List (Option Block) → Option Object
plain_at None ps = None
plain_at (Some o) ps = Some (plain_object o ps)

-- the objects with the programs of their verbs; past the last row they have none
abbrev pub plain_objects : List (Option ObjectRecord) → List (List (Option Block)) → List (Option Object)
plain_objects [] rows = []
plain_objects (o ∷ os) [] = plain_at o [] ∷ plain_objects os []
plain_objects (o ∷ os) (row ∷ rows) = plain_at o row ∷ plain_objects os rows

-- the programs of each object
abbrev pub programs_by_object : List (Vec (Option Block)) → List (List (Option Block))
programs_by_object rows = map (λ row. row.items) rows

-- definitions on a way up, the nearest last, as keys, the nearest first
abbrev pub keys_on : List (ℕ × List ℕ) → List Key
keys_on way = reverse (map (λ d. (d.0, folded d.1)) way)
