-- The variables of a frame.
use Rattle.std.specs.Prelude.{ℕ, ℤ, pos, List, [], ◌∷◌, ◌++◌, Option, Some, None, codes}
use Rattle.moo_value.specs.Tree.{Tree, integer, object, string, list_of}
use Rattle.moo_eval_slot.specs.Bindings.{Binding, bind, value_of_name, with_variable}
use Rattle.moo_eval_frame.specs.declared.frame.Frame.{Frame}
use Rattle.moo_eval_frame.specs.declared.frame.Running.{Running}

abbrev pub type_bindings : List Binding
type_bindings =
    bind (codes "NUM") (integer (pos 0))
    ∷ bind (codes "INT") (integer (pos 0))
    ∷ bind (codes "OBJ") (integer (pos 1))
    ∷ bind (codes "STR") (integer (pos 2))
    ∷ bind (codes "ERR") (integer (pos 3))
    ∷ bind (codes "LIST") (integer (pos 4))
    ∷ bind (codes "FLOAT") (integer (pos 9))
    ∷ []

abbrev pub object_bindings : Frame → List Binding
object_bindings f =
    bind (codes "player") (object f.player)
    ∷ bind (codes "this") (object f.this)
    ∷ bind (codes "caller") (object f.caller)
    ∷ bind (codes "dobj") (object f.dobj)
    ∷ bind (codes "iobj") (object f.iobj)
    ∷ []

abbrev pub text_bindings : Frame → List Binding
text_bindings f =
    bind (codes "verb") (string f.verb)
    ∷ bind (codes "argstr") (string f.argstr)
    ∷ bind (codes "dobjstr") (string f.dobjstr)
    ∷ bind (codes "prepstr") (string f.prepstr)
    ∷ bind (codes "iobjstr") (string f.iobjstr)
    ∷ []

-- the variables that a frame begins with
abbrev pub first_bindings : Frame → List Binding
first_bindings f = type_bindings ++ object_bindings f ++ text_bindings f ++ bind (codes "args") (list_of f.args) ∷ []

-- the variables that the frame of a called verb begins with, but for those of the command
abbrev pub own_bindings : Running → ℤ → List Tree → List Binding
own_bindings f caller args =
    type_bindings
    ++ bind (codes "player") (object f.player)
    ∷ bind (codes "this") (object f.this)
    ∷ bind (codes "caller") (object caller)
    ∷ bind (codes "verb") (string f.verb)
    ∷ bind (codes "args") (list_of args)
    ∷ []

-- the variables of the command
abbrev pub command_names : List (List ℕ)
command_names = codes "argstr" ∷ codes "dobj" ∷ codes "dobjstr" ∷ codes "prepstr" ∷ codes "iobj" ∷ codes "iobjstr" ∷ []

-- with the value of a variable from elsewhere, if it is set there
abbrev pub with_taken : (List ℕ → Option Tree) → List ℕ → Option Tree → List ℕ → Option Tree
with_taken variables name None = variables
with_taken variables name (Some v) = with_variable variables (bind name v)

-- with the values of these variables from elsewhere
abbrev pub taken_over : (List ℕ → Option Tree) → List (List ℕ) → (List ℕ → Option Tree) → List ℕ → Option Tree
taken_over elsewhere [] variables = variables
taken_over elsewhere (name ∷ names) variables = taken_over elsewhere names (with_taken variables name (elsewhere name))

-- the variables of a called verb: its own, with those of the command as in the caller
abbrev pub called_variables : Running → ℤ → List Tree → (List ℕ → Option Tree) → List ℕ → Option Tree
called_variables f caller args variables = taken_over variables command_names (value_of_name (own_bindings f caller args))

-- with these set, one after another
abbrev pub with_all : (List ℕ → Option Tree) → List Binding → List ℕ → Option Tree
with_all variables [] = variables
with_all variables (b ∷ bs) = with_all (with_variable variables b) bs
