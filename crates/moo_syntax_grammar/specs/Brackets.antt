-- The number of open brackets.
use Rattle.std.specs.Prelude.{ℕ, List, [], ◌∷◌, ◌+◌, ◌-◌, max}
use Rattle.moo_syntax_token.specs.declared.sign.Sign.TheVariants.{LeftParen, RightParen, LeftBrace, RightBrace, LeftBracket, RightBracket}
use Rattle.moo_syntax_token.specs.declared.token.Token.{Token}
use Rattle.moo_syntax_token.specs.declared.token.Token.TheVariants.{Sign}

-- how many are open after the token, if n are open before it
abbrev pub open_after : ℕ → Token → ℕ
open_after n (Sign LeftParen) = n + 1
open_after n (Sign LeftBracket) = n + 1
open_after n (Sign LeftBrace) = n + 1
open_after n (Sign RightParen) = n - 1
open_after n (Sign RightBracket) = n - 1
open_after n (Sign RightBrace) = n - 1
open_after n _ = n

-- the most that are open at one place of the tokens, if n are open before them
abbrev pub most_open_after : ℕ → List Token → ℕ
most_open_after n [] = n
most_open_after n (x ∷ ts) = max n (most_open_after (open_after n x) ts)

abbrev pub most_open : List Token → ℕ
most_open ts = most_open_after 0 ts
