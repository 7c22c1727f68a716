-- The tokens that can follow a phrase, and those that can begin one.
use Rattle.std.proofs.Common.{ℕ, ◌+◌, ◌<◌, ◌≤◌, List, [], ◌∷◌, ◌≡◌, refl, ap, Bool, true, false, not, ◌||◌, Option, Some, None, is_some, arith}
use denote.Enum.Bare.{sameb, same_true}
use Rattle.moo_syntax_token.specs.contracts.sign.Sign.{the_type}
use Rattle.moo_syntax_token.specs.declared.sign.Sign.{Sign}
use Rattle.moo_syntax_token.specs.declared.sign.Sign.TheVariants as sign
use Rattle.moo_syntax_token.specs.declared.keyword.Keyword.{Keyword}
use Rattle.moo_syntax_token.specs.declared.keyword.Keyword.TheVariants as keyword
use Rattle.moo_syntax_token.specs.declared.token.Token.{Token}
use Rattle.moo_syntax_token.specs.declared.token.Token.TheVariants as token
use Rattle.moo_syntax_grammar.specs.declared.level.Level.{Level}
use Rattle.moo_syntax_grammar.specs.declared.level.Level.TheVariants.{Logic, Relation, Sum, Product}
use Rattle.moo_syntax_grammar.specs.declared.level.Operator.{Operator}
use Rattle.moo_syntax_grammar.specs.Tokens.{is_sign, sign_operator, is_keyword, operator_at, literal_at, name_at, next_passes}
use Rattle.moo_syntax_grammar.specs.Predictive.{is_closer, begins_expression, begins_statement}
use Rattle.moo_syntax_grammar.specs.Rules.{Rules, has_loop, may_jump}
use Rattle.moo_syntax_grammar.specs.Grammar
use Rattle.moo_syntax_grammar.specs.Grammar.{Of, Kind, Derives, sort}
use Rattle.moo_syntax_ast.specs.Tree.{Expr, Arms}

-- How loose a phrase is that the token can continue if it follows.
abbrev pub looseness : Sign → ℕ
looseness sign.LeftParen = 0
looseness sign.Dot = 1
looseness sign.Colon = 1
looseness sign.LeftBracket = 1
looseness sign.Caret = 2
looseness sign.Star = 3
looseness sign.Slash = 3
looseness sign.Percent = 3
looseness sign.Plus = 4
looseness sign.Minus = 4
looseness sign.Equal = 5
looseness sign.NotEqual = 5
looseness sign.Less = 5
looseness sign.LessEqual = 5
looseness sign.Greater = 5
looseness sign.GreaterEqual = 5
looseness sign.OrOr = 6
looseness sign.AndAnd = 6
looseness sign.Question = 7
looseness sign.Assign = 8
looseness sign.Comma = 9
looseness _ = 10

abbrev pub token_looseness : Token → ℕ
token_looseness (token.Sign m) = looseness m
token_looseness (token.Keyword keyword.In) = 5
token_looseness (token.Name s) = 0
token_looseness _ = 10

abbrev pub next_looseness : List Token → ℕ
next_looseness [] = 10
next_looseness (x ∷ ts) = token_looseness x

abbrev pub operand_limit : Level → ℕ
operand_limit Logic = 6
operand_limit Relation = 5
operand_limit Sum = 4
operand_limit Product = 3

-- the least looseness of a token that may follow a phrase
abbrev pub limit : Kind → ℕ
limit (Grammar.expression i) = 9
limit (Grammar.conditional i) = 8
limit (Grammar.chain i l) = operand_limit l + 1
limit (Grammar.more i l a) = operand_limit l + 1
limit (Grammar.operand i l) = operand_limit l
limit (Grammar.power i) = 3
limit (Grammar.unary i) = 2
limit (Grammar.postfix i) = 2
limit (Grammar.suffixes i a) = 2
limit (Grammar.primary i) = 1
limit (Grammar.arguments i o) = 10
limit (Grammar.members i o) = 10
limit (Grammar.codes i) = 10
limit _ = 0

abbrev pub Follows : Kind → List Token → Type 0
Follows (Grammar.arguments i o) r = next_passes is_closer r ≡ true
Follows (Grammar.statement ls) r = Unit {0}
Follows (Grammar.statements ls) r = next_passes begins_statement r ≡ false
Follows (Grammar.arms ls) r = next_passes (is_keyword keyword.EndIf) r ≡ true
Follows (Grammar.handlers ls) r = next_passes (is_keyword keyword.EndTry) r ≡ true
Follows Grammar.in_parens r = Unit {0}
Follows Grammar.label r = next_passes (λ x. is_some (name_at x)) r ≡ false
Follows k r = limit k ≤ next_looseness r

bool_cases : (b : Bool) → (b ≡ true → ⊥) → b ≡ false
bool_cases true h = absurd (h refl)
bool_cases false h = refl

pub no_sign : (m : Sign) (r : List Token) → looseness m < next_looseness r → next_passes (is_sign m) r ≡ false
no_sign m [] h = refl
no_sign m (token.Sign n ∷ r) h = bool_cases (sameb the_type n m) λ e.
    let same : looseness n ≡ looseness m = ap looseness (same_true the_type tt n m e) in omega arith
no_sign m (_ ∷ r) h = refl

no_operator_sign : (l : Level) (m : Sign) → operand_limit l < looseness m → is_some (sign_operator l m) ≡ false
no_operator_sign Logic sign.OrOr h = absurd (omega arith)
no_operator_sign Logic sign.AndAnd h = absurd (omega arith)
no_operator_sign Relation sign.Equal h = absurd (omega arith)
no_operator_sign Relation sign.NotEqual h = absurd (omega arith)
no_operator_sign Relation sign.Less h = absurd (omega arith)
no_operator_sign Relation sign.LessEqual h = absurd (omega arith)
no_operator_sign Relation sign.Greater h = absurd (omega arith)
no_operator_sign Relation sign.GreaterEqual h = absurd (omega arith)
no_operator_sign Sum sign.Plus h = absurd (omega arith)
no_operator_sign Sum sign.Minus h = absurd (omega arith)
no_operator_sign Product sign.Star h = absurd (omega arith)
no_operator_sign Product sign.Slash h = absurd (omega arith)
no_operator_sign Product sign.Percent h = absurd (omega arith)
no_operator_sign _ _ h = refl

pub no_operator : (l : Level) (r : List Token) → operand_limit l + 1 ≤ next_looseness r → next_passes (λ x. is_some (operator_at l x)) r ≡ false
no_operator l [] h = refl
no_operator l (token.Sign m ∷ r) h = no_operator_sign l m (omega arith)
no_operator Relation (token.Keyword keyword.In ∷ r) h = absurd (omega arith)
no_operator _ (_ ∷ r) h = refl

operator_sign_looseness : (l : Level) (m : Sign) (o : Operator) → sign_operator l m ≡ Some o → operand_limit l ≤ looseness m
operator_sign_looseness Logic sign.OrOr o e = omega arith
operator_sign_looseness Logic sign.AndAnd o e = omega arith
operator_sign_looseness Relation sign.Equal o e = omega arith
operator_sign_looseness Relation sign.NotEqual o e = omega arith
operator_sign_looseness Relation sign.Less o e = omega arith
operator_sign_looseness Relation sign.LessEqual o e = omega arith
operator_sign_looseness Relation sign.Greater o e = omega arith
operator_sign_looseness Relation sign.GreaterEqual o e = omega arith
operator_sign_looseness Sum sign.Plus o e = omega arith
operator_sign_looseness Sum sign.Minus o e = omega arith
operator_sign_looseness Product sign.Star o e = omega arith
operator_sign_looseness Product sign.Slash o e = omega arith
operator_sign_looseness Product sign.Percent o e = omega arith
operator_sign_looseness _ _ o e = cc

pub operator_looseness : (l : Level) (x : Token) (o : Operator) → operator_at l x ≡ Some o → operand_limit l ≤ token_looseness x
operator_looseness l (token.Sign m) o e = operator_sign_looseness l m o e
operator_looseness Relation (token.Keyword keyword.In) o e = omega arith
operator_looseness _ _ o e = cc

pub closer_is_loose : (r : List Token) → next_passes is_closer r ≡ true → 10 ≤ next_looseness r
closer_is_loose [] h = cc
closer_is_loose (token.Sign sign.RightParen ∷ r) h = omega arith
closer_is_loose (token.Sign sign.RightBrace ∷ r) h = omega arith
closer_is_loose (_ ∷ r) h = cc

pub no_name : (r : List Token) → 1 ≤ next_looseness r → next_passes (λ x. is_some (name_at x)) r ≡ false
no_name [] h = refl
no_name (token.Name s ∷ r) h = absurd (omega arith)
no_name (_ ∷ r) h = refl

-- the tokens that can begin an expression without a sign before it
abbrev pub begins_primary : Token → Bool
begins_primary (token.Sign sign.Dollar) = true
begins_primary (token.Sign sign.LeftParen) = true
begins_primary (token.Sign sign.LeftBrace) = true
begins_primary (token.Sign sign.Backquote) = true
begins_primary (token.Integer n) = true
begins_primary (token.Object n) = true
begins_primary (token.Error e) = true
begins_primary (token.Str s) = true
begins_primary (token.Name s) = true
begins_primary _ = false

abbrev pub begins_member : Token → Bool
begins_member (token.Sign sign.At) = true
begins_member (token.Sign sign.Question) = true
begins_member x = begins_expression x

abbrev pub First : Kind → List Token → Type 0
First (Grammar.more i l a) ts = Unit {0}
First (Grammar.suffixes i a) ts = Unit {0}
First (Grammar.arguments i o) ts = Unit {0}
First (Grammar.codes i) ts = Unit {0}
First (Grammar.statements ls) ts = Unit {0}
First (Grammar.arms ls) ts = Unit {0}
First Grammar.label ts = Unit {0}
First Grammar.in_parens ts = next_passes (is_sign sign.LeftParen) ts ≡ true
First (Grammar.statement ls) ts = (next_passes begins_statement ts ≡ true) × (next_passes (is_sign sign.Semicolon) ts ≡ false)
First (Grammar.handlers ls) ts = next_passes (is_keyword keyword.Except) ts ≡ true
First (Grammar.members i o) ts = next_passes begins_member ts ≡ true
First (Grammar.primary i) ts = next_passes begins_primary ts ≡ true
First (Grammar.postfix i) ts = next_passes begins_primary ts ≡ true
First _ ts = next_passes begins_expression ts ≡ true

pub begins_more : (ts : List Token) → next_passes begins_primary ts ≡ true → next_passes begins_expression ts ≡ true
begins_more [] h = h
begins_more (token.Sign sign.Bang ∷ r) h = refl
begins_more (token.Sign sign.Minus ∷ r) h = refl
begins_more (_ ∷ r) h = h

pub begins_member_more : (ts : List Token) → next_passes begins_expression ts ≡ true → next_passes begins_member ts ≡ true
begins_member_more [] h = h
begins_member_more (token.Sign sign.At ∷ r) h = refl
begins_member_more (token.Sign sign.Question ∷ r) h = refl
begins_member_more (_ ∷ r) h = h

literal_begins : (x : Token) (ts : List Token) → is_some (literal_at x) ≡ true → next_passes begins_primary (x ∷ ts) ≡ true
literal_begins (token.Integer n) ts e = refl
literal_begins (token.Object n) ts e = refl
literal_begins (token.Error c) ts e = refl
literal_begins (token.Str s) ts e = refl
literal_begins _ ts e = absurd cc

pub expression_is_no_end : (ts : List Token) → next_passes begins_expression ts ≡ true → next_passes (is_sign sign.Semicolon) ts ≡ false
expression_is_no_end [] h = refl
expression_is_no_end (token.Sign sign.Semicolon ∷ r) h = absurd cc
expression_is_no_end (_ ∷ r) h = refl

begins_statement_more : (ts : List Token) → next_passes begins_expression ts ≡ true → next_passes begins_statement ts ≡ true
begins_statement_more [] h = h
begins_statement_more (token.Keyword k ∷ r) h = absurd cc
begins_statement_more (token.Sign sign.Semicolon ∷ r) h = refl
begins_statement_more (token.Sign m ∷ r) h = h
begins_statement_more (_ ∷ r) h = h

pub first : {g : Rules} {k : Kind} {ts r : List Token} {e : Of (sort k)} → Derives g k ts e r → First k ts
first (Grammar.plain d) = first d
first (Grammar.assigns is c d) = first c
first (Grammar.unconditional d) = first d
first (Grammar.chooses d b c) = first d
first (Grammar.chained d c) = first d
first Grammar.no_more = tt
first (Grammar.one_more o a b) = tt
first (Grammar.relations d) = first d
first (Grammar.sums d) = first d
first (Grammar.products d) = first d
first (Grammar.powers d) = first d
first (Grammar.unraised d) = first d
first (Grammar.raised d c) = first d
first (Grammar.inverts d) = refl
first (Grammar.negates d) = refl
first (Grammar.unsigned d) = begins_more _ (first d)
first (Grammar.based d c) = first d
first Grammar.no_suffix = tt
first (Grammar.property_named d) = tt
first (Grammar.property_computed c d) = tt
first (Grammar.verb_named c d) = tt
first (Grammar.verb_computed b c d) = tt
first (Grammar.indexed c d) = tt
first (Grammar.ranged b c d) = tt
first (Grammar.constant {x = x} {r = r} is) = literal_begins x r (ap is_some is)
first Grammar.name = refl
first (Grammar.called is d) = refl
first Grammar.system_property = refl
first (Grammar.system_verb d) = refl
first Grammar.dollar = refl
first (Grammar.grouped d) = refl
first (Grammar.listed is d) = refl
first (Grammar.scattered d) = refl
first (Grammar.catches c d) = refl
first (Grammar.catches_or b c d) = refl
first Grammar.any_code = tt
first (Grammar.these_codes d) = tt
first Grammar.no_arguments = tt
first (Grammar.some_arguments d) = tt
first (Grammar.one_element d) = begins_member_more _ (first d)
first (Grammar.an_element d c) = begins_member_more _ (first d)
first (Grammar.one_splice d) = refl
first (Grammar.a_splice d c) = refl
first Grammar.one_optional = refl
first (Grammar.an_optional d) = refl
first (Grammar.one_default d) = refl
first (Grammar.a_default c d) = refl
first (Grammar.branch c d e) = (refl, refl)
first (Grammar.for_elements c d) = (refl, refl)
first (Grammar.for_numbers b c d) = (refl, refl)
first (Grammar.while_true b c d) = (refl, refl)
first (Grammar.breaks_loop is) = (refl, refl)
first (Grammar.breaks_named is) = (refl, refl)
first (Grammar.continues_loop is) = (refl, refl)
first (Grammar.continues_named is) = (refl, refl)
first Grammar.returns_nothing = (refl, refl)
first (Grammar.returns_value d) = (refl, refl)
first (Grammar.tries c d) = (refl, refl)
first (Grammar.cleans_up c d) = (refl, refl)
first (Grammar.performed d) = (begins_statement_more _ (first d), expression_is_no_end _ (first d))
first Grammar.no_arms = tt
first (Grammar.last_arm d) = tt
first (Grammar.an_arm b c d) = tt
first (Grammar.one_handler l c d) = refl
first (Grammar.a_handler l c d e) = refl
first (Grammar.parenthesized d) = refl
first Grammar.unlabelled = tt
first Grammar.labelled = tt
first Grammar.no_statements = tt
first (Grammar.one_statement c d) = tt
first (Grammar.an_end d) = tt

-- tests that the first token of a phrase fails
pub primary_is_unsigned : (ts : List Token) → next_passes begins_primary ts ≡ true → (next_passes (is_sign sign.Bang) ts ≡ false) × (next_passes (is_sign sign.Minus) ts ≡ false)
primary_is_unsigned [] h = (refl, refl)
primary_is_unsigned (token.Sign sign.Bang ∷ r) h = absurd cc
primary_is_unsigned (token.Sign sign.Minus ∷ r) h = absurd cc
primary_is_unsigned (_ ∷ r) h = (refl, refl)

pub expression_is_no_splice : (ts : List Token) → next_passes begins_expression ts ≡ true → next_passes (is_sign sign.At) ts ≡ false
expression_is_no_splice [] h = refl
expression_is_no_splice (token.Sign sign.At ∷ r) h = absurd cc
expression_is_no_splice (_ ∷ r) h = refl

pub expression_is_no_optional : (ts : List Token) → next_passes begins_expression ts ≡ true → next_passes (is_sign sign.Question) ts ≡ false
expression_is_no_optional [] h = refl
expression_is_no_optional (token.Sign sign.Question ∷ r) h = absurd cc
expression_is_no_optional (_ ∷ r) h = refl

pub member_is_no_closer : (ts : List Token) → next_passes begins_member ts ≡ true → (next_passes is_closer ts ≡ false) × (next_passes (is_keyword keyword.Any) ts ≡ false)
member_is_no_closer [] h = (refl, refl)
member_is_no_closer (token.Sign sign.RightParen ∷ r) h = absurd cc
member_is_no_closer (token.Sign sign.RightBrace ∷ r) h = absurd cc
member_is_no_closer (token.Keyword k ∷ r) h = absurd cc
member_is_no_closer (_ ∷ r) h = (refl, refl)

pub expression_is_no_keyword : (k : Keyword) (ts : List Token) → next_passes begins_expression ts ≡ true → next_passes (is_keyword k) ts ≡ false
expression_is_no_keyword k [] h = refl
expression_is_no_keyword k (token.Keyword l ∷ r) h = absurd cc
expression_is_no_keyword k (_ ∷ r) h = refl

pub at_paren : (ts : List Token) → next_passes (is_sign sign.LeftParen) ts ≡ true → (next_passes (is_sign sign.LeftBracket) ts ≡ false) × (next_passes (λ x. is_some (name_at x)) ts ≡ false)
at_paren [] h = absurd cc
at_paren (token.Sign sign.LeftParen ∷ r) h = (refl, refl)
at_paren (_ ∷ r) h = absurd cc

-- a token that ends a block is none that continues it
pub end_if : (ts : List Token) → next_passes (is_keyword keyword.EndIf) ts ≡ true → (next_passes begins_statement ts ≡ false) × (next_passes (is_keyword keyword.ElseIf) ts ≡ false) × (next_passes (is_keyword keyword.Else) ts ≡ false)
end_if [] h = absurd cc
end_if (token.Keyword keyword.EndIf ∷ r) h = (refl, refl, refl)
end_if (_ ∷ r) h = absurd cc

pub end_try : (ts : List Token) → next_passes (is_keyword keyword.EndTry) ts ≡ true → (next_passes begins_statement ts ≡ false) × (next_passes (is_keyword keyword.Except) ts ≡ false)
end_try [] h = absurd cc
end_try (token.Keyword keyword.EndTry ∷ r) h = (refl, refl)
end_try (_ ∷ r) h = absurd cc

pub at_except : (ts : List Token) → next_passes (is_keyword keyword.Except) ts ≡ true → (next_passes begins_statement ts ≡ false) × (next_passes (is_keyword keyword.Finally) ts ≡ false)
at_except [] h = absurd cc
at_except (token.Keyword keyword.Except ∷ r) h = (refl, refl)
at_except (_ ∷ r) h = absurd cc

pub arms_end : {g : Rules} {ls : List (Option (List ℕ))} {ts r : List Token} {c : Arms} → Derives g (Grammar.arms ls) ts c r → next_passes (is_keyword keyword.EndIf) r ≡ true → next_passes begins_statement ts ≡ false
arms_end Grammar.no_arms h = (end_if _ h).0
arms_end (Grammar.last_arm d) h = refl
arms_end (Grammar.an_arm b c d) h = refl

-- a jump to a named loop has a loop round it
some_loop : (ls : List (Option (List ℕ))) (x : List ℕ) → has_loop ls (Some x) ≡ true → has_loop ls None ≡ true
some_loop [] x h = absurd cc
some_loop (l ∷ ls) x h = refl

or_else : (b t u : Bool) → (t ≡ true → u ≡ true) → (b || t) ≡ true → (b || u) ≡ true
or_else true t u k h = refl
or_else false t u k h = k h

pub may_jump_out : (g : Rules) (ls : List (Option (List ℕ))) (x : List ℕ) → may_jump g ls (Some x) ≡ true → may_jump g ls None ≡ true
may_jump_out g ls x h = or_else (not g.loops) (has_loop ls (Some x)) (has_loop ls None) (some_loop ls x) h

pub more_follows : {g : Rules} {i : Bool} {l : Level} {a e : Expr} {m r : List Token} → Derives g (Grammar.more i l a) m e r → operand_limit l + 1 ≤ next_looseness r → operand_limit l ≤ next_looseness m
more_follows Grammar.no_more h = omega arith
more_follows {l} (Grammar.one_more {x = x} {o = o} is a d) h = operator_looseness l x o is

pub suffix_follows : {g : Rules} {i : Bool} {a e : Expr} {m r : List Token} → Derives g (Grammar.suffixes i a) m e r → 2 ≤ next_looseness r → 1 ≤ next_looseness m
suffix_follows Grammar.no_suffix h = omega arith
suffix_follows (Grammar.property_named d) h = omega arith
suffix_follows (Grammar.property_computed c d) h = omega arith
suffix_follows (Grammar.verb_named c d) h = omega arith
suffix_follows (Grammar.verb_computed b c d) h = omega arith
suffix_follows (Grammar.indexed c d) h = omega arith
suffix_follows (Grammar.ranged b c d) h = omega arith
