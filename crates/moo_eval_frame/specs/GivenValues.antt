-- The values of the names that every frame has, as a frame keeps them.
use Rattle.std.specs.Prelude.{ℤ, List, [], ◌∷◌, Option, Some, Bool, true, false}
use Rattle.moo_value.specs.declared.value.Value.{Value}
use Rattle.moo_value.specs.Tree.{Tree, object, string, list_of}
use Rattle.moo_value.specs.View.{tree}
use Rattle.moo_syntax_ast.specs.declared.given.Given.{Given}
use Rattle.moo_syntax_ast.specs.declared.given.Given.TheVariants as given
use Rattle.moo_eval_frame.specs.declared.frame.Frame.{Frame}
use Rattle.moo_eval_frame.specs.declared.frame.Running.{Running}
use Rattle.moo_eval_frame.specs.Shared.{Shared}
use Rattle.moo_eval_frame.specs.declared.given_values.GivenValues.{GivenValues}

-- in the order of the names
abbrev pub given_values : GivenValues → List (Option Value)
given_values v =
    Some v.shared.value.num
    ∷ Some v.shared.value.int
    ∷ Some v.shared.value.obj
    ∷ Some v.shared.value.str
    ∷ Some v.shared.value.err
    ∷ Some v.shared.value.list
    ∷ Some v.shared.value.float
    ∷ Some v.player
    ∷ Some v.this
    ∷ Some v.caller
    ∷ Some v.shared.value.dobj
    ∷ Some v.shared.value.iobj
    ∷ Some v.verb
    ∷ Some v.shared.value.argstr
    ∷ Some v.shared.value.dobjstr
    ∷ Some v.shared.value.prepstr
    ∷ Some v.shared.value.iobjstr
    ∷ Some v.args
    ∷ []

-- whether a name is that of a type
abbrev pub names_type : Given → Bool
names_type given.Num = true
names_type given.Int = true
names_type given.Obj = true
names_type given.Str = true
names_type given.Err = true
names_type given.List = true
names_type given.Float = true
names_type given.Player = false
names_type given.This = false
names_type given.Caller = false
names_type given.Dobj = false
names_type given.Iobj = false
names_type given.Verb = false
names_type given.Argstr = false
names_type given.Dobjstr = false
names_type given.Prepstr = false
names_type given.Iobjstr = false
names_type given.Args = false

-- with one of the shared ones set
abbrev pub with_shared : Shared → Given → Value → Shared
with_shared s given.Num v = record s { num = v }
with_shared s given.Int v = record s { int = v }
with_shared s given.Obj v = record s { obj = v }
with_shared s given.Str v = record s { str = v }
with_shared s given.Err v = record s { err = v }
with_shared s given.List v = record s { list = v }
with_shared s given.Float v = record s { float = v }
with_shared s given.Player v = s
with_shared s given.This v = s
with_shared s given.Caller v = s
with_shared s given.Dobj v = record s { dobj = v }
with_shared s given.Iobj v = record s { iobj = v }
with_shared s given.Verb v = s
with_shared s given.Argstr v = record s { argstr = v }
with_shared s given.Dobjstr v = record s { dobjstr = v }
with_shared s given.Prepstr v = record s { prepstr = v }
with_shared s given.Iobjstr v = record s { iobjstr = v }
with_shared s given.Args v = s

-- the values of the variables of the command
abbrev pub command_of : Shared → List Tree
command_of s = tree s.dobj ∷ tree s.iobj ∷ tree s.argstr ∷ tree s.dobjstr ∷ tree s.prepstr ∷ tree s.iobjstr ∷ []

-- the values of these variables from a frame
abbrev pub command_in : Frame → List Tree
command_in f = object f.dobj ∷ object f.iobj ∷ string f.argstr ∷ string f.dobjstr ∷ string f.prepstr ∷ string f.iobjstr ∷ []

-- the values that a frame begins with, in the order of the names: from its code, its caller's `this`, its arguments and
-- these shared values
abbrev pub values_with : Running → ℤ → List Tree → Shared → List (Option Tree)
values_with f caller args s =
    Some (tree s.num)
    ∷ Some (tree s.int)
    ∷ Some (tree s.obj)
    ∷ Some (tree s.str)
    ∷ Some (tree s.err)
    ∷ Some (tree s.list)
    ∷ Some (tree s.float)
    ∷ Some (object f.player)
    ∷ Some (object f.this)
    ∷ Some (object caller)
    ∷ Some (tree s.dobj)
    ∷ Some (tree s.iobj)
    ∷ Some (string f.verb)
    ∷ Some (tree s.argstr)
    ∷ Some (tree s.dobjstr)
    ∷ Some (tree s.prepstr)
    ∷ Some (tree s.iobjstr)
    ∷ Some (list_of args)
    ∷ []
