-- The bytes that are written are text.
use Rattle.std.proofs.Common.{ℕ, suc, ℤ, pos, negsuc, List, [], ◌∷◌, ◌++◌, ◌≡◌, ◌+◌, ◌/◌, ◌%◌, ◌^◌, ◌<◌, ◌≤◌, refl, inl, inr, Bool, true, false, nat_eq, nat_le, ◌&&◌, ◌||◌, arith}
use Rattle.std.specs.Prelude.{FitsSigned}
use Rattle.std.specs.Int.{w32}
use Rattle.std.specs.List.{list_all, AllByRecursion}
use Rattle.std.specs.Fmt.{decimal, signed_decimal}
use Rattle.std.proofs.lemmas.List.Elements.{All-from_recursion}
use Rattle.std.proofs.lemmas.List.Folds.{list_all-append}
use Rattle.std.proofs.lemmas.Fmt.{decimal_by_steps}
use Rattle.std.proofs.lemmas.Bool.Decides.{nat_tests}
use Rattle.moo_value.specs.Tree.{IsTextByte, IsText}
use Rattle.moo_value.specs.Errors.{error_name}
use Rattle.moo_value.specs.declared.error_code.ErrorCode.{ErrorCode}
use Rattle.moo_value.specs.declared.error_code.ErrorCode.TheVariants as error
use Rattle.moo_syntax_token.specs.declared.sign.Sign.{Sign}
use Rattle.moo_syntax_token.specs.declared.sign.Sign.TheVariants as sign
use Rattle.moo_syntax_token.specs.declared.keyword.Keyword.{Keyword}
use Rattle.moo_syntax_token.specs.declared.keyword.Keyword.TheVariants as keyword
use Rattle.moo_syntax_token.specs.Spelling.{sign_text}
use Rattle.moo_syntax_token.specs.Words.{keyword_text}

abbrev pub passes : ℕ → Bool
passes b = nat_eq b 9 || (nat_le 32 b && nat_le b 126)

-- a byte that passes is a byte of text
of_tests : (b : ℕ) (t l h : Bool) → nat_eq b 9 ≡ t → nat_le 32 b ≡ l → nat_le b 126 ≡ h → (t || (l && h)) ≡ true → IsTextByte b
of_tests b true l h e f g p = inl (grind (arith, nat_tests))
of_tests b false true true e f g p = inr (grind (arith, nat_tests), grind (arith, nat_tests))
of_tests b false true false e f g p = absurd cc
of_tests b false false h e f g p = absurd cc

pub byte_is_text : (b : ℕ) → passes b ≡ true → IsTextByte b
byte_is_text b p = of_tests b (nat_eq b 9) (nat_le 32 b) (nat_le b 126) refl refl refl p

both : (a b : Bool) → (a && b) ≡ true → (a ≡ true) × (b ≡ true)
both true b h = (refl, h)
both false b h = absurd cc

each : (s : List ℕ) → list_all passes s ≡ true → AllByRecursion IsTextByte s
each [] h = tt
each (b ∷ s) h = let p = both (passes b) (list_all passes s) h in (byte_is_text b p.0, each s p.1)

pub text : (s : List ℕ) → list_all passes s ≡ true → IsText s
text s h = All-from_recursion IsTextByte s (each s h)

pub sign_is_text : (s : Sign) → IsText (sign_text s)
sign_is_text sign.LeftParen = text (sign_text sign.LeftParen) refl
sign_is_text sign.RightParen = text (sign_text sign.RightParen) refl
sign_is_text sign.LeftBrace = text (sign_text sign.LeftBrace) refl
sign_is_text sign.RightBrace = text (sign_text sign.RightBrace) refl
sign_is_text sign.LeftBracket = text (sign_text sign.LeftBracket) refl
sign_is_text sign.RightBracket = text (sign_text sign.RightBracket) refl
sign_is_text sign.Comma = text (sign_text sign.Comma) refl
sign_is_text sign.Dot = text (sign_text sign.Dot) refl
sign_is_text sign.DotDot = text (sign_text sign.DotDot) refl
sign_is_text sign.Colon = text (sign_text sign.Colon) refl
sign_is_text sign.Semicolon = text (sign_text sign.Semicolon) refl
sign_is_text sign.Question = text (sign_text sign.Question) refl
sign_is_text sign.Pipe = text (sign_text sign.Pipe) refl
sign_is_text sign.OrOr = text (sign_text sign.OrOr) refl
sign_is_text sign.AndAnd = text (sign_text sign.AndAnd) refl
sign_is_text sign.Assign = text (sign_text sign.Assign) refl
sign_is_text sign.Equal = text (sign_text sign.Equal) refl
sign_is_text sign.Arrow = text (sign_text sign.Arrow) refl
sign_is_text sign.Backquote = text (sign_text sign.Backquote) refl
sign_is_text sign.Quote = text (sign_text sign.Quote) refl
sign_is_text sign.Bang = text (sign_text sign.Bang) refl
sign_is_text sign.NotEqual = text (sign_text sign.NotEqual) refl
sign_is_text sign.Less = text (sign_text sign.Less) refl
sign_is_text sign.LessEqual = text (sign_text sign.LessEqual) refl
sign_is_text sign.Greater = text (sign_text sign.Greater) refl
sign_is_text sign.GreaterEqual = text (sign_text sign.GreaterEqual) refl
sign_is_text sign.Dollar = text (sign_text sign.Dollar) refl
sign_is_text sign.At = text (sign_text sign.At) refl
sign_is_text sign.Plus = text (sign_text sign.Plus) refl
sign_is_text sign.Minus = text (sign_text sign.Minus) refl
sign_is_text sign.Star = text (sign_text sign.Star) refl
sign_is_text sign.Slash = text (sign_text sign.Slash) refl
sign_is_text sign.Percent = text (sign_text sign.Percent) refl
sign_is_text sign.Caret = text (sign_text sign.Caret) refl

pub keyword_is_text : (k : Keyword) → IsText (keyword_text k)
keyword_is_text keyword.If = text (keyword_text keyword.If) refl
keyword_is_text keyword.Else = text (keyword_text keyword.Else) refl
keyword_is_text keyword.ElseIf = text (keyword_text keyword.ElseIf) refl
keyword_is_text keyword.EndIf = text (keyword_text keyword.EndIf) refl
keyword_is_text keyword.For = text (keyword_text keyword.For) refl
keyword_is_text keyword.In = text (keyword_text keyword.In) refl
keyword_is_text keyword.EndFor = text (keyword_text keyword.EndFor) refl
keyword_is_text keyword.While = text (keyword_text keyword.While) refl
keyword_is_text keyword.EndWhile = text (keyword_text keyword.EndWhile) refl
keyword_is_text keyword.Fork = text (keyword_text keyword.Fork) refl
keyword_is_text keyword.EndFork = text (keyword_text keyword.EndFork) refl
keyword_is_text keyword.Return = text (keyword_text keyword.Return) refl
keyword_is_text keyword.Try = text (keyword_text keyword.Try) refl
keyword_is_text keyword.EndTry = text (keyword_text keyword.EndTry) refl
keyword_is_text keyword.Except = text (keyword_text keyword.Except) refl
keyword_is_text keyword.Finally = text (keyword_text keyword.Finally) refl
keyword_is_text keyword.Any = text (keyword_text keyword.Any) refl
keyword_is_text keyword.Break = text (keyword_text keyword.Break) refl
keyword_is_text keyword.Continue = text (keyword_text keyword.Continue) refl

pub error_is_text : (e : ErrorCode) → IsText (error_name e)
error_is_text error.NoError = text (error_name error.NoError) refl
error_is_text error.TypeMismatch = text (error_name error.TypeMismatch) refl
error_is_text error.Division = text (error_name error.Division) refl
error_is_text error.Permission = text (error_name error.Permission) refl
error_is_text error.PropertyNotFound = text (error_name error.PropertyNotFound) refl
error_is_text error.VerbNotFound = text (error_name error.VerbNotFound) refl
error_is_text error.VariableNotFound = text (error_name error.VariableNotFound) refl
error_is_text error.InvalidIndirection = text (error_name error.InvalidIndirection) refl
error_is_text error.RecursiveMove = text (error_name error.RecursiveMove) refl
error_is_text error.MaximumRecursion = text (error_name error.MaximumRecursion) refl
error_is_text error.Range = text (error_name error.Range) refl
error_is_text error.Arguments = text (error_name error.Arguments) refl
error_is_text error.NotAccepted = text (error_name error.NotAccepted) refl
error_is_text error.InvalidArgument = text (error_name error.InvalidArgument) refl
error_is_text error.Quota = text (error_name error.Quota) refl
error_is_text error.Float = text (error_name error.Float) refl

digit_passes : (d : ℕ) → d < 10 → passes (48 + d) ≡ true
digit_passes d h = grind (arith, nat_tests)

abbrev Digits : ℕ → List ℕ → Type 0
Digits n ds = list_all passes ds ≡ true

one_digit : (n : ℕ) → n < 10 → Digits n ((48 + n) ∷ [])
one_digit n h = rw (digit_passes n h) refl

more_digits : (n : ℕ) (ds : List ℕ) → 10 ≤ n → Digits (n / 10) ds → Digits n (ds ++ ((48 + n % 10) ∷ []))
more_digits n ds h d =
    let small : n % 10 < 10 = omega arith in
    rw (list_all-append passes ds ((48 + n % 10) ∷ []), d, digit_passes (n % 10) small) refl

decimal_passes : (n : ℕ) → n < 2 ^ 64 → list_all passes (decimal n) ≡ true
decimal_passes n h = decimal_by_steps Digits one_digit more_digits n h

pub number_is_text : (z : ℤ) → FitsSigned w32 z → IsText (signed_decimal z)
number_is_text (pos n) h = text (decimal n) (decimal_passes n (omega (arith, h.sfits)))
number_is_text (negsuc n) h = text (45 ∷ decimal (suc n)) (decimal_passes (suc n) (omega (arith, h.sfits)))
