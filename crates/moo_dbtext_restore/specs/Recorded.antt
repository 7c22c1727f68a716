-- The records of a world, as a database is written.
use Rattle.std.specs.Prelude.{ℕ, ◌==◌, List, [], ◌∷◌, Option, Some, None, length, map, if◌then◌else◌, option_map}
use Rattle.std.specs.List.{range_with_len}
use Rattle.moo_syntax_ast.specs.Tree.{Block}
use Rattle.moo_world_tree.specs.Forest.{Links, above_of, below_of}
use Rattle.moo_world_object.specs.Flags.{flags_number}
use Rattle.moo_world_object.specs.Objects.{Object}
use Rattle.moo_world_table.specs.World.{World, object_of, thing_of}
use Rattle.moo_dbtext_object.specs.Objects as recorded
use Rattle.moo_dbtext_restore.specs.declared.link.Link.{Link}
use Rattle.moo_dbtext_restore.specs.Links.{place_number}
use Rattle.moo_dbtext_restore.specs.Records.{Records}
use Rattle.moo_dbtext_restore.specs.Says.{recorded_verb, recorded_cell, program_of}

-- the first of a list
abbrev pub first_in : List ℕ → Option ℕ
first_in [] = None
first_in (y ∷ ys) = Some y

-- the number after x in a list
abbrev pub next_in : ℕ → List ℕ → Option ℕ
next_in x [] = None
next_in x (y ∷ ys) = if y == x then first_in ys else next_in x ys

-- the next child of the parent of x
abbrev pub next_below : List Links → Option ℕ → ℕ → Option ℕ
next_below tree None x = None
next_below tree (Some up) x = next_in x (below_of tree up)

-- the links of x in a tree
abbrev pub link_in : List Links → ℕ → Link
link_in tree x = record {
  above = place_number (above_of tree x);
  first = place_number (first_in (below_of tree x));
  next = place_number (next_below tree (above_of tree x) x);
}

abbrev pub body_with : Object → Link → Link → recorded.Body
body_with o parent place = record {
  flags = flags_number o.flags;
  owner = o.owner;
  location = place.above;
  contents = place.first;
  next = place.next;
  parent = parent.above;
  child = parent.first;
  sibling = parent.next;
  verbs = map recorded_verb o.verbs;
  names = o.defined;
  cells = map recorded_cell o.cells;
}

-- the record of object x of a world
abbrev pub recorded_object : World → ℕ → Object → recorded.Object
recorded_object w x o = record { name = o.name; body = body_with o (link_in w.inheritance x) (link_in w.containment x) }

abbrev pub recorded_at : World → ℕ → Option recorded.Object
recorded_at w x = option_map (recorded_object w x) (object_of w.objects x)

abbrev pub programs_at : World → ℕ → List (Option Block)
programs_at w x = map program_of (thing_of w.objects x).verbs

-- the records of a world
abbrev pub records_of : World → Records
records_of w = record {
  objects = map (recorded_at w) (range_with_len 0 (length w.objects));
  programs = map (programs_at w) (range_with_len 0 (length w.objects));
  players = w.players;
}
