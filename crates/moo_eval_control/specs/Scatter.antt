-- How a scatter deals the values of a list to its names.
use Rattle.std.specs.Prelude.{ℕ, zero, suc, ◌+◌, ◌-◌, List, [], ◌∷◌, ◌++◌, Bool, true, false, ◌&&◌, ◌||◌, nat_le, length, take, drop, if◌then◌else◌, Result, Ok, Err}
use Rattle.moo_value.specs.declared.error_code.ErrorCode.{ErrorCode}
use Rattle.moo_value.specs.declared.error_code.ErrorCode.TheVariants.{TypeMismatch, Arguments}
use Rattle.moo_value.specs.Tree.{Tree, list, list_of, trees_of}
use Rattle.moo_syntax_ast.specs.Tree.{Expr, variable, Items, no_items, element, splice, optional, defaulted}
use Rattle.moo_eval_slot.specs.Bindings.{Binding, bind}

-- how many names have to get a value
abbrev pub required : Items → ℕ
required no_items = 0
required (element e xs) = suc (required xs)
required (splice e xs) = required xs
required (optional x xs) = required xs
required (defaulted x d xs) = required xs

-- how many may be left out
abbrev pub optionals : Items → ℕ
optionals no_items = 0
optionals (element e xs) = optionals xs
optionals (splice e xs) = optionals xs
optionals (optional x xs) = suc (optionals xs)
optionals (defaulted x d xs) = suc (optionals xs)

-- one takes all that the others leave
abbrev pub takes_rest : Items → Bool
takes_rest no_items = false
takes_rest (element e xs) = takes_rest xs
takes_rest (splice e xs) = true
takes_rest (optional x xs) = takes_rest xs
takes_rest (defaulted x d xs) = takes_rest xs

-- n values can be dealt
abbrev pub fits : Items → ℕ → Bool
fits xs n = nat_le (required xs) n && (takes_rest xs || nat_le n (required xs + optionals xs))

-- the values of a list, if they can be assigned: E_TYPE without a list, E_ARGS for a wrong count
abbrev pub dealt : Items → Tree → Result (List Tree) ErrorCode
dealt xs (list es) = if fits xs (length (trees_of es)) then Ok (trees_of es) else Err Arguments
dealt xs _ = Err TypeMismatch

-- A variable gets this value. A scatter of a program has no other targets.
abbrev pub binds : Expr → Tree → List Binding
binds (variable x) v = bind x v ∷ []
binds _ v = []

-- Each name that gets a value, from the left. `spare` values are left for names that may be left out, and `rest` for
-- the one that takes what the others leave.
abbrev pub shares : Items → ℕ → ℕ → List Tree → List Binding
shares no_items spare rest vs = []
shares (element e xs) spare rest [] = shares xs spare rest []
shares (element e xs) spare rest (v ∷ vs) = binds e v ++ shares xs spare rest vs
shares (splice e xs) spare rest vs = binds e (list_of (take rest vs)) ++ shares xs spare rest (drop rest vs)
shares (optional x xs) zero rest vs = shares xs zero rest vs
shares (optional x xs) (suc spare) rest [] = shares xs spare rest []
shares (optional x xs) (suc spare) rest (v ∷ vs) = bind x v ∷ shares xs spare rest vs
shares (defaulted x d xs) zero rest vs = shares xs zero rest vs
shares (defaulted x d xs) (suc spare) rest [] = shares xs spare rest []
shares (defaulted x d xs) (suc spare) rest (v ∷ vs) = bind x v ∷ shares xs spare rest vs

-- a name and the expression of its value if the list has none
pub record LeftOut : Type 0 where
  pub name : List ℕ
  pub value : Expr

-- the defaults of the names that get no value, if `spare` of them get one
abbrev pub lacking : Items → ℕ → List LeftOut
lacking no_items spare = []
lacking (element e xs) spare = lacking xs spare
lacking (splice e xs) spare = lacking xs spare
lacking (optional x xs) zero = lacking xs zero
lacking (optional x xs) (suc spare) = lacking xs spare
lacking (defaulted x d xs) zero = record { name = x; value = d } ∷ lacking xs zero
lacking (defaulted x d xs) (suc spare) = lacking xs spare

-- what the names get of these values
abbrev pub given : Items → List Tree → List Binding
given xs vs = shares xs (length vs - required xs) (length vs - required xs - optionals xs) vs

-- the defaults that are needed
abbrev pub missing : Items → List Tree → List LeftOut
missing xs vs = lacking xs (length vs - required xs)
