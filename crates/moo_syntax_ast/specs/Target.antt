-- The targets of assignments.
use Rattle.std.specs.Prelude.{Bool, true, false, ◌&&◌}
use Rattle.moo_syntax_ast.specs.Tree.{Expr, variable, property, index, range, list, Items, no_items, element, splice, optional, defaulted}

abbrev pub is_variable : Expr → Bool
is_variable (variable s) = true
is_variable e = false

-- a variable, a property, or an index of one of these or of an index
abbrev pub is_place : Expr → Bool
is_place (variable s) = true
is_place (property a b) = true
is_place (index a b) = is_place a
is_place e = false

-- variables, names that may be left out, and at most one splice of a variable, or none if there was one before
abbrev pub are_names : (spliced : Bool) → Items → Bool
are_names spliced no_items = true
are_names spliced (element a xs) = is_variable a && are_names spliced xs
are_names false (splice a xs) = is_variable a && are_names true xs
are_names true (splice a xs) = false
are_names spliced (optional s xs) = are_names spliced xs
are_names spliced (defaulted s a xs) = are_names spliced xs

-- the names of a scatter, which are not empty
abbrev pub is_scatter : Items → Bool
is_scatter no_items = false
is_scatter xs = are_names false xs

-- a place, a range of one, or the names of a scatter
abbrev pub is_target : Expr → Bool
is_target (range a b c) = is_place a
is_target (list xs) = is_scatter xs
is_target e = is_place e
