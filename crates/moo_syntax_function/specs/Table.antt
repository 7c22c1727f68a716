-- The table of the built-in functions: their names and their arguments.
use Rattle.std.specs.Prelude.{ℕ, List, [], ◌∷◌, Option, None, Some, codes}
use Rattle.moo_syntax_function.specs.declared.function.Function.{Function}
use Rattle.moo_syntax_function.specs.declared.function.Function.TheVariants as function
use Rattle.moo_syntax_function.specs.declared.table.Kind.{Kind}
use Rattle.moo_syntax_function.specs.declared.table.Kind.TheVariants.{Any, Integer, Error, Text, List as ListOf, TextOrList, ValidObject, AnyObject, Verb, PropertyInfo, PropertyChange, VerbInfo, VerbArguments, Lines}

-- the name, the kinds of the arguments that are needed, of those that may be left out, and of any number more
pub record Row : Type 0 where
  pub name : List ℕ
  pub needed : List Kind
  pub optional : List Kind
  pub more : Option Kind

-- these arguments, and optional ones
abbrev pub takes_perhaps : List ℕ → List Kind → List Kind → Row
takes_perhaps name needed optional = record { name = name; needed = needed; optional = optional; more = None }

-- just these arguments
abbrev pub takes : List ℕ → List Kind → Row
takes name needed = takes_perhaps name needed []

-- these arguments, and any number more
abbrev pub takes_more : List ℕ → List Kind → Kind → Row
takes_more name needed kind = record { name = name; needed = needed; optional = []; more = Some kind }

abbrev pub row : Function → Row
row function.Typeof = takes (codes "typeof") (Any ∷ [])
row function.Length = takes (codes "length") (TextOrList ∷ [])
row function.Tostr = takes_more (codes "tostr") [] Any
row function.Toliteral = takes (codes "toliteral") (Any ∷ [])
row function.Toint = takes (codes "toint") (Any ∷ [])
row function.Tonum = takes (codes "tonum") (Any ∷ [])
row function.Toobj = takes (codes "toobj") (Any ∷ [])
row function.Equal = takes (codes "equal") (Any ∷ Any ∷ [])
row function.Strcmp = takes (codes "strcmp") (Text ∷ Text ∷ [])
row function.Min = takes_more (codes "min") (Integer ∷ []) Integer
row function.Max = takes_more (codes "max") (Integer ∷ []) Integer
row function.Abs = takes (codes "abs") (Integer ∷ [])
row function.Index = takes_perhaps (codes "index") (Text ∷ Text ∷ []) (Any ∷ [])
row function.Rindex = takes_perhaps (codes "rindex") (Text ∷ Text ∷ []) (Any ∷ [])
row function.Strsub = takes_perhaps (codes "strsub") (Text ∷ Text ∷ Text ∷ []) (Any ∷ [])
row function.ListAppend = takes_perhaps (codes "listappend") (ListOf ∷ Any ∷ []) (Integer ∷ [])
row function.ListInsert = takes_perhaps (codes "listinsert") (ListOf ∷ Any ∷ []) (Integer ∷ [])
row function.ListSet = takes (codes "listset") (ListOf ∷ Any ∷ Integer ∷ [])
row function.ListDelete = takes (codes "listdelete") (ListOf ∷ Integer ∷ [])
row function.SetAdd = takes (codes "setadd") (ListOf ∷ Any ∷ [])
row function.SetRemove = takes (codes "setremove") (ListOf ∷ Any ∷ [])
row function.IsMember = takes (codes "is_member") (Any ∷ ListOf ∷ [])
row function.Valid = takes (codes "valid") (AnyObject ∷ [])
row function.Parent = takes (codes "parent") (ValidObject ∷ [])
row function.Children = takes (codes "children") (ValidObject ∷ [])
row function.MaxObject = takes (codes "max_object") []
row function.Players = takes (codes "players") []
row function.IsPlayer = takes (codes "is_player") (ValidObject ∷ [])
row function.SetPlayerFlag = takes (codes "set_player_flag") (ValidObject ∷ Any ∷ [])
row function.Properties = takes (codes "properties") (ValidObject ∷ [])
row function.Verbs = takes (codes "verbs") (ValidObject ∷ [])
row function.PropertyInfo = takes (codes "property_info") (ValidObject ∷ Text ∷ [])
row function.SetPropertyInfo = takes (codes "set_property_info") (ValidObject ∷ Text ∷ PropertyChange ∷ [])
row function.AddProperty = takes (codes "add_property") (ValidObject ∷ Text ∷ Any ∷ PropertyInfo ∷ [])
row function.DeleteProperty = takes (codes "delete_property") (ValidObject ∷ Text ∷ [])
row function.IsClearProperty = takes (codes "is_clear_property") (ValidObject ∷ Text ∷ [])
row function.ClearProperty = takes (codes "clear_property") (ValidObject ∷ Text ∷ [])
row function.VerbInfo = takes (codes "verb_info") (ValidObject ∷ Verb ∷ [])
row function.VerbArgs = takes (codes "verb_args") (ValidObject ∷ Verb ∷ [])
row function.VerbCode = takes_perhaps (codes "verb_code") (ValidObject ∷ Verb ∷ []) (Any ∷ Any ∷ [])
row function.SetVerbInfo = takes (codes "set_verb_info") (ValidObject ∷ Verb ∷ VerbInfo ∷ [])
row function.SetVerbArgs = takes (codes "set_verb_args") (ValidObject ∷ Verb ∷ VerbArguments ∷ [])
row function.SetVerbCode = takes (codes "set_verb_code") (ValidObject ∷ Verb ∷ Lines ∷ [])
row function.AddVerb = takes (codes "add_verb") (ValidObject ∷ VerbInfo ∷ VerbArguments ∷ [])
row function.DeleteVerb = takes (codes "delete_verb") (ValidObject ∷ Verb ∷ [])
row function.Chparent = takes (codes "chparent") (ValidObject ∷ AnyObject ∷ [])
row function.Time = takes (codes "time") []
row function.ServerVersion = takes (codes "server_version") []
row function.Create = takes_perhaps (codes "create") (AnyObject ∷ []) (AnyObject ∷ [])
row function.Recycle = takes (codes "recycle") (ValidObject ∷ [])
row function.Move = takes (codes "move") (ValidObject ∷ AnyObject ∷ [])
row function.Pass = takes_more (codes "pass") [] Any
row function.Eval = takes (codes "eval") (Text ∷ [])
row function.Raise = takes_perhaps (codes "raise") (Error ∷ []) (Text ∷ Any ∷ [])
row function.Callers = takes (codes "callers") []
row function.CallerPerms = takes (codes "caller_perms") []
row function.SetTaskPerms = takes (codes "set_task_perms") (AnyObject ∷ [])
row function.TicksLeft = takes (codes "ticks_left") []
row function.Notify = takes (codes "notify") (AnyObject ∷ Text ∷ [])
row function.BootPlayer = takes (codes "boot_player") (AnyObject ∷ [])
row function.ConnectedPlayers = takes_perhaps (codes "connected_players") [] (Any ∷ [])
row function.IdleSeconds = takes (codes "idle_seconds") (AnyObject ∷ [])
row function.ConnectedSeconds = takes (codes "connected_seconds") (AnyObject ∷ [])
row function.DumpDatabase = takes (codes "dump_database") []
row function.Shutdown = takes_perhaps (codes "shutdown") [] (Text ∷ [])
row function.ServerLog = takes (codes "server_log") (Text ∷ [])

abbrev pub function_name : Function → List ℕ
function_name f = (row f).name

abbrev pub all_functions : List Function
all_functions =
    function.Typeof ∷ function.Length ∷ function.Tostr ∷ function.Toliteral ∷ function.Toint ∷ function.Tonum
    ∷ function.Toobj ∷ function.Equal ∷ function.Strcmp ∷ function.Min ∷ function.Max ∷ function.Abs
    ∷ function.Index ∷ function.Rindex ∷ function.Strsub ∷ function.ListAppend ∷ function.ListInsert ∷ function.ListSet
    ∷ function.ListDelete ∷ function.SetAdd ∷ function.SetRemove ∷ function.IsMember ∷ function.Valid ∷ function.Parent
    ∷ function.Children ∷ function.MaxObject ∷ function.Players ∷ function.IsPlayer ∷ function.SetPlayerFlag ∷ function.Properties
    ∷ function.Verbs ∷ function.PropertyInfo ∷ function.SetPropertyInfo ∷ function.AddProperty ∷ function.DeleteProperty ∷ function.IsClearProperty
    ∷ function.ClearProperty ∷ function.VerbInfo ∷ function.VerbArgs ∷ function.VerbCode ∷ function.SetVerbInfo ∷ function.SetVerbArgs
    ∷ function.SetVerbCode ∷ function.AddVerb ∷ function.DeleteVerb ∷ function.Chparent ∷ function.Time ∷ function.ServerVersion
    ∷ function.Create ∷ function.Recycle ∷ function.Move ∷ function.Pass ∷ function.Eval ∷ function.Raise
    ∷ function.Callers ∷ function.CallerPerms ∷ function.SetTaskPerms ∷ function.TicksLeft ∷ function.Notify ∷ function.BootPlayer
    ∷ function.ConnectedPlayers ∷ function.IdleSeconds ∷ function.ConnectedSeconds ∷ function.DumpDatabase ∷ function.Shutdown ∷ function.ServerLog ∷ []
