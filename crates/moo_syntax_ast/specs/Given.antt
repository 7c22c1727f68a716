-- The names of the variables that every frame has.
use Rattle.std.specs.Prelude.{ℕ, List, [], ◌∷◌, Bool, ◌==◌, ◌&&◌, Option, codes, length, map, find, get_or}
use Rattle.std.specs.Str.{bytes_eq}
use Rattle.moo_value.specs.Compare.{folded}
use Rattle.moo_syntax_ast.specs.declared.given.Given.{Given}
use Rattle.moo_syntax_ast.specs.declared.given.Given.TheVariants as given

abbrev pub given_name : Given → List ℕ
given_name given.Num = codes "NUM"
given_name given.Int = codes "INT"
given_name given.Obj = codes "OBJ"
given_name given.Str = codes "STR"
given_name given.Err = codes "ERR"
given_name given.List = codes "LIST"
given_name given.Float = codes "FLOAT"
given_name given.Player = codes "player"
given_name given.This = codes "this"
given_name given.Caller = codes "caller"
given_name given.Dobj = codes "dobj"
given_name given.Iobj = codes "iobj"
given_name given.Verb = codes "verb"
given_name given.Argstr = codes "argstr"
given_name given.Dobjstr = codes "dobjstr"
given_name given.Prepstr = codes "prepstr"
given_name given.Iobjstr = codes "iobjstr"
given_name given.Args = codes "args"

abbrev pub all_given : List Given
all_given =
    given.Num ∷ given.Int ∷ given.Obj ∷ given.Str ∷ given.Err ∷ given.List ∷ given.Float
    ∷ given.Player ∷ given.This ∷ given.Caller ∷ given.Dobj ∷ given.Iobj
    ∷ given.Verb ∷ given.Argstr ∷ given.Dobjstr ∷ given.Prepstr ∷ given.Iobjstr ∷ given.Args ∷ []

unfoldable pub given_names : List (List ℕ)
given_names = map given_name all_given

-- its place among all of them
abbrev pub given_slot : Given → ℕ
given_slot given.Num = 0
given_slot given.Int = 1
given_slot given.Obj = 2
given_slot given.Str = 3
given_slot given.Err = 4
given_slot given.List = 5
given_slot given.Float = 6
given_slot given.Player = 7
given_slot given.This = 8
given_slot given.Caller = 9
given_slot given.Dobj = 10
given_slot given.Iobj = 11
given_slot given.Verb = 12
given_slot given.Argstr = 13
given_slot given.Dobjstr = 14
given_slot given.Prepstr = 15
given_slot given.Iobjstr = 16
given_slot given.Args = 17

-- the name, in any case, is the variable's
abbrev pub is_given : List ℕ → Given → Bool
is_given name g = bytes_eq (folded (given_name g)) (folded name)

-- the variable that has this name, in any case
abbrev pub given_of : List ℕ → Option Given
given_of name = find (is_given name) all_given

-- for private clauses: the variable whose name has this length and begins with this lower-case letter
abbrev pub likely : ℕ → ℕ → Option Given
likely count letter = find (λ g. (length (given_name g) == count) && (get_or (folded (given_name g)) 0 0 == letter)) all_given
