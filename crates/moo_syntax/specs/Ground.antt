-- The ground of a place: the loops around it and the kind of its next name, from the tokens before it.
use Rattle.std.specs.Prelude.{ℕ, List, [], ◌∷◌, Option, Some, None, take}
use Rattle.moo_syntax_token.specs.declared.sign.Sign.TheVariants.{Dot, Colon, Dollar}
use Rattle.moo_syntax_token.specs.declared.keyword.Keyword.TheVariants.{For, EndFor, While, EndWhile, Except}
use Rattle.moo_syntax_token.specs.declared.token.Token.{Token}
use Rattle.moo_syntax_token.specs.declared.token.Token.TheVariants.{Name, Keyword, Sign}
use Rattle.moo_syntax_token.specs.declared.token.Spot.{Spot}
use Rattle.moo_syntax_grammar.specs.Tokens.{words}

-- the kind of a name that comes next
pub data Naming : Type 0 where
  -- a variable or a function: an expression may begin
  of_value : Naming
  -- a property, a verb, or the variable of a handler
  of_member : Naming
  of_loop : Naming

pub record Ground : Type 0 where
  pub naming : Naming
  -- the names of the loops around it, the innermost first
  pub loops : List (Option (List ℕ))

-- at the first token
abbrev pub outside : Ground
outside = record { naming = of_value; loops = [] }

abbrev pub naming_after : Token → Naming
naming_after (Sign Dot) = of_member
naming_after (Sign Colon) = of_member
naming_after (Sign Dollar) = of_member
naming_after (Keyword Except) = of_member
naming_after (Keyword For) = of_loop
naming_after (Keyword While) = of_loop
naming_after _ = of_value

-- the loops without the innermost
abbrev pub outer : List (Option (List ℕ)) → List (Option (List ℕ))
outer [] = []
outer (l ∷ ls) = ls

-- the loops after a name
abbrev pub named_loops : Naming → List ℕ → List (Option (List ℕ)) → List (Option (List ℕ))
named_loops of_loop x ls = Some x ∷ outer ls
named_loops of_value x ls = ls
named_loops of_member x ls = ls

abbrev pub loops_after : Ground → Token → List (Option (List ℕ))
loops_after g (Keyword For) = None ∷ g.loops
loops_after g (Keyword While) = None ∷ g.loops
loops_after g (Name x) = named_loops g.naming x g.loops
loops_after g (Keyword EndFor) = outer g.loops
loops_after g (Keyword EndWhile) = outer g.loops
loops_after g _ = g.loops

-- the ground after the tokens, from the ground before them
abbrev pub ground_after : Ground → List Token → Ground
ground_after g [] = g
ground_after g (x ∷ ts) = ground_after (record { naming = naming_after x; loops = loops_after g x }) ts

-- the ground at the place, from the tokens before it
abbrev pub ground_at : List Spot → ℕ → Ground
ground_at spots n = ground_after outside (take n (words spots))
