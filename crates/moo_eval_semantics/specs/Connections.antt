-- What the functions that inspect the open connections give.
use Rattle.std.specs.Prelude.{ℕ, ◌+◌, ◌-◌, ◌^◌, ◌%◌, ℤ, List, [], ◌∷◌, ◌++◌, Bool, true, false, Option, None, Some, Result, Err, if◌then◌else◌}
use Rattle.std.specs.Int.{w32, cast_signed}
use Rattle.std.specs.Option.{unwrap_or, option_map}
use Rattle.std.specs.Ordering.{int_eq}
use Rattle.moo_value.specs.declared.error_code.ErrorCode.{ErrorCode}
use Rattle.moo_value.specs.declared.error_code.ErrorCode.TheVariants.{TypeMismatch, InvalidArgument}
use Rattle.moo_value.specs.Tree.{Tree, integer, object}
use Rattle.moo_builtin_operator.specs.Truth.{is_true}
use Rattle.moo_builtin_operator.specs.Places.{made_list}
use Rattle.moo_eval_frame.specs.declared.surroundings.Connection.{Connection}
use Rattle.moo_eval_frame.specs.declared.surroundings.Login.{Login}
use Rattle.moo_eval_frame.specs.Outcome.{or_error}
use Rattle.moo_eval_frame.specs.Surroundings.{Surroundings, own_number}

-- the player on a connection; if there is none the connection's own number, if those are asked for too
abbrev pub who : (all : Bool) → ℕ → Option Login → List Tree
who all c (Some login) = object login.player ∷ []
who true c None = object (own_number c) ∷ []
who false c None = []

abbrev pub all_on : (all : Bool) → List Connection → List Tree
all_on all [] = []
all_on all (c ∷ cs) = who all c.number c.login ++ all_on all cs

-- the argument that may be left out is there and true
abbrev pub is_asked : List Tree → Bool
is_asked [] = false
is_asked (t ∷ ts) = is_true t

abbrev pub connected_players : Surroundings → List Tree → Result Tree ErrorCode
connected_players around args = made_list (all_on (is_asked args) around.connections)

-- the connection of a player, with the login
abbrev pub or_elsewhere : ℤ → Connection → Option Login → Option (Connection × Login) → Option (Connection × Login)
or_elsewhere player c None elsewhere = elsewhere
or_elsewhere player c (Some login) elsewhere = if int_eq login.player player then Some (c, login) else elsewhere

abbrev pub connected : ℤ → List Connection → Option (Connection × Login)
connected player [] = None
connected player (c ∷ cs) = or_elsewhere player c c.login (connected player cs)

-- the seconds from one moment to another, in 32 bits with a sign
abbrev pub elapsed : ℕ → ℕ → Tree
elapsed from to = integer (cast_signed w32 ((to + (2 ^ 32 - from)) % 2 ^ 32))

-- the seconds since a moment of a player's connection; others are E_INVARG
abbrev pub elapsed_since : (Connection × Login → ℕ) → Surroundings → List Tree → Result Tree ErrorCode
elapsed_since moment around (object o ∷ []) = or_error (option_map (λ c. elapsed (moment c) around.moment) (connected o around.connections)) InvalidArgument
elapsed_since moment around _ = Err TypeMismatch

-- when bytes last came, or if none have come, when the connection was opened
abbrev pub last_heard : Connection × Login → ℕ
last_heard c = unwrap_or c.0.heard c.0.opened

abbrev pub last_login : Connection × Login → ℕ
last_login c = c.1.moment
