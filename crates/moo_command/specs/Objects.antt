-- The object that a text names to a player.
use Rattle.std.specs.Prelude.{ℕ, ℤ, pos, negsuc, neg_ℤ, Bool, ◌==◌, ◌&&◌, not, List, [], ◌∷◌, ◌++◌, Option, Some, None, codes, length, is_some, filter, if◌then◌else◌}
use Rattle.std.specs.Option.{option_map_or}
use Rattle.std.specs.List.{list_any, list_all, filter_map}
use Rattle.moo_value.specs.Tree.{Tree, integer, object, error, string, list, trees_of}
use Rattle.moo_value.specs.Compare.{folded}
use Rattle.moo_world_tree.specs.Forest.{above_of, below_of}
use Rattle.moo_world_object.specs.Names.{same_name}
use Rattle.moo_world_object.specs.Patterns.{begins}
use Rattle.moo_value.specs.Digits.{is_digit, number}
use Rattle.moo_world_table.specs.World.{World, thing_of}
use Rattle.moo_world.specs.Calls.{number_of}
use Rattle.moo_world_table.specs.Properties.{read}
use Rattle.moo_world.specs.NamedProperties.{number_of_place}

-- the number that a text names: #-1 nothing, #-2 several objects, #-3 no object
abbrev pub nothing_named : ℤ
nothing_named = negsuc 0

abbrev pub several_named : ℤ
several_named = negsuc 1

abbrev pub none_named : ℤ
none_named = negsuc 2

-- the location of a player, #-1 for none
abbrev pub room_of : World → ℤ → ℤ
room_of w player = option_map_or (λ x. number_of_place (above_of w.containment x)) (number_of w.objects player) (negsuc 0)

-- the contents of an object, none if there is no object
abbrev pub contents_of : World → ℤ → List ℕ
contents_of w o = option_map_or (λ x. below_of w.containment x) (number_of w.objects o) []

-- the objects near a player: those in the player, and in the room
abbrev pub near : World → ℤ → List ℕ
near w player = contents_of w player ++ contents_of w (room_of w player)

-- the strings of a list, and none if there is no list
abbrev pub string_in : Tree → Option (List ℕ)
string_in (string s) = Some s
string_in (integer i) = None
string_in (object o) = None
string_in (error e) = None
string_in (list es) = None

abbrev pub strings_in : Option Tree → List (List ℕ)
strings_in (Some (list es)) = filter_map string_in (trees_of es)
strings_in (Some (integer i)) = []
strings_in (Some (object o)) = []
strings_in (Some (error e)) = []
strings_in (Some (string s)) = []
strings_in None = []

-- the names of an object: its own, and those in its property `aliases`
abbrev pub names_of : World → ℕ → List (List ℕ)
names_of w x = (thing_of w.objects x).name ∷ strings_in (read w x (codes "aliases"))

-- with letters folded, a name is the text, or begins with it
abbrev pub is_whole : List ℕ → List ℕ → Bool
is_whole text name = same_name (folded text) (folded name)

-- the objects among these of which a name passes
abbrev pub named_by : World → (List ℕ → Bool) → List ℕ → List ℕ
named_by w test xs = filter (λ x. list_any test (names_of w x)) xs

-- the one object that is found, though perhaps twice
abbrev pub sole : List ℕ → ℤ
sole [] = none_named
sole (x ∷ xs) = if list_all (λ y. x == y) xs then pos x else several_named

-- a whole match wins over a prefix
abbrev pub best : List ℕ → List ℕ → ℤ
best [] begun = sole begun
best (x ∷ xs) begun = sole (x ∷ xs)

abbrev pub named_near : World → List ℕ → List ℕ → ℤ
named_near w text xs = best (named_by w (is_whole text) xs) (named_by w (begins text) xs)

-- digits, and at least one
abbrev pub are_digits : List ℕ → Bool
are_digits s = not (length s == 0) && list_all is_digit s

-- the number below zero that digits after a minus write
abbrev pub negative : List ℕ → Option ℤ
negative bs = if are_digits bs then Some (neg_ℤ (pos (number bs))) else None

-- perhaps a minus, and digits
abbrev pub signed : List ℕ → Option ℤ
signed [] = None
signed (b ∷ bs) = if b == 45 then negative bs else (if are_digits (b ∷ bs) then Some (pos (number (b ∷ bs))) else None)

-- a `#`, and the number after it

abbrev pub typed_number : List ℕ → Option ℤ
typed_number [] = None
typed_number (b ∷ bs) = if b == 35 then signed bs else None

-- an object by its number, if it is valid
abbrev pub valid_or_none : World → ℤ → ℤ
valid_or_none w o = if is_some (number_of w.objects o) then o else none_named

-- a text that is no number: `me`, `here`, or a name
abbrev pub named : World → ℤ → List ℕ → ℤ
named w player text =
    if is_whole text (codes "me") then player
    else if is_whole text (codes "here") then room_of w player
    else named_near w text (near w player)

-- the object that a text names to a player
abbrev pub matched : World → ℤ → List ℕ → ℤ
matched w player text =
    if length text == 0 then nothing_named
    else option_map_or (valid_or_none w) (typed_number text) (named w player text)
