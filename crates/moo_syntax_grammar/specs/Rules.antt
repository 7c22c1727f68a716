-- The rules of a grammar besides its forms.
use Rattle.std.specs.Prelude.{ℕ, List, [], ◌∷◌, ◌≡◌, Bool, true, false, not, ◌||◌, Option, Some, None, is_some}
use Rattle.std.specs.List.{list_any}
use Rattle.std.specs.Str.{str_eq_ignore_ascii_case}
use Rattle.moo_syntax_function.specs.Names.{function_of}
use Rattle.moo_syntax_ast.specs.Tree.{Expr}
use Rattle.moo_syntax_ast.specs.Target.{is_target}
use Rattle.moo_syntax_grammar.specs.declared.names.Names.{Names}
use Rattle.moo_syntax_grammar.specs.declared.names.Names.TheVariants.{Any, Known}

pub record Rules : Type 0 where
  -- whether only targets are allowed before `=`
  pub targets : Bool
  -- the names that may be called
  pub functions : List ℕ → Bool
  -- whether a jump must be in its loop
  pub loops : Bool

-- no rules besides the forms
abbrev pub loose : Rules
loose = record { targets = false; functions = λ _. true; loops = false }

-- the names that a program may call: all, or those of the built-in functions
abbrev pub may_call : Names → List ℕ → Bool
may_call Any name = true
may_call Known name = is_some (function_of name)

-- whether the expression is allowed before `=`
abbrev pub may_assign : Rules → Expr → Bool
may_assign g a = not g.targets || is_target a

-- whether a loop has the name, in any case
abbrev pub is_named : List ℕ → Option (List ℕ) → Bool
is_named name None = false
is_named name (Some other) = str_eq_ignore_ascii_case name other

-- whether there is a loop among them, or one with the name
abbrev pub has_loop : List (Option (List ℕ)) → Option (List ℕ) → Bool
has_loop [] None = false
has_loop (loop ∷ loops) None = true
has_loop loops (Some name) = list_any (is_named name) loops

-- whether a jump is allowed within the loops
abbrev pub may_jump : Rules → List (Option (List ℕ)) → Option (List ℕ) → Bool
may_jump g loops name = not g.loops || has_loop loops name

-- all rules of a program
abbrev pub strict : Names → Rules
strict names = record { targets = true; functions = may_call names; loops = true }

-- g requires nothing that h does not require
pub record Admits (g h : Rules) : Type 0 where
  pub targets : g.targets ≡ true → h.targets ≡ true
  pub functions : (name : List ℕ) → h.functions name ≡ true → g.functions name ≡ true
  pub loops : g.loops ≡ true → h.loops ≡ true
