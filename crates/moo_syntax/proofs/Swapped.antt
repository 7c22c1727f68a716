-- The tokens of a phrase are one with the same tree before another rest. Braces with `?` pieces need an `=` after them. Nothing else depends on
-- what comes after it.
use Rattle.std.proofs.Common.{List, [], ◌∷◌, ◌++◌, ◌≡◌, refl, sym, subst, Bool, true}
use Rattle.moo_syntax_token.specs.declared.sign.Sign.TheVariants as sign
use Rattle.moo_syntax_token.specs.declared.keyword.Keyword.TheVariants as keyword
use Rattle.moo_syntax_token.specs.declared.token.Token.{Token}
use Rattle.moo_syntax_token.specs.declared.token.Token.TheVariants.{Name, Keyword, Sign}
use Rattle.moo_syntax_ast.specs.Tree.{Expr}
use Rattle.moo_syntax_grammar.specs.Tokens.{is_sign, next_passes}
use Rattle.moo_syntax_grammar.specs.Rules.{Rules}
use Rattle.moo_syntax_grammar.specs.Grammar
use Rattle.moo_syntax_grammar.specs.Grammar.{Of, Kind, Derives, sort}
use Rattle.moo_syntax_grammar.proofs.Leads.{sign_is}

-- The second list has the tokens of the first before m, and then r.
pub data Swaps (m r : List Token) : List Token → List Token → Type 0 where
  at_rest : Swaps m r m r
  token : {x : Token} {ts us : List Token} → Swaps m r ts us → Swaps m r (x ∷ ts) (x ∷ us)

through : {m r n u ts us : List Token} → Swaps n u ts us → Swaps m r n u → Swaps m r ts us
through at_rest s = s
through (token t) s = token (through t s)

fronted : (front : List Token) {m r ts us : List Token} → Swaps m r ts us → Swaps m r (front ++ ts) (front ++ us)
fronted [] s = s
fronted (x ∷ front) s = token (fronted front s)

-- an `=` comes first in the second list if one does in the first
abbrev pub KeepsAssign : List Token → List Token → Type 0
KeepsAssign m r = next_passes (is_sign sign.Assign) m ≡ true → next_passes (is_sign sign.Assign) r ≡ true

keeps_on : {m r ts us : List Token} → Swaps m r ts us → KeepsAssign m r → KeepsAssign ts us
keeps_on at_rest h = h
keeps_on (token s) h = λ e. e

-- what a phrase of the kind needs of its new rest
abbrev pub Needs : Kind → List Token → List Token → Type 0
Needs (Grammar.statement ls) m r = Unit {0}
Needs (Grammar.statements ls) m r = Unit {0}
Needs (Grammar.arms ls) m r = Unit {0}
Needs (Grammar.handlers ls) m r = Unit {0}
Needs Grammar.label m r = Unit {0}
Needs Grammar.in_parens m r = Unit {0}
Needs _ m r = KeepsAssign m r

-- the phrase of ts before m, before r
pub record Replaced (g : Rules) (k : Kind) (ts : List Token) (e : Of (sort k)) (m r : List Token) : Type 0 where
  pub tokens : List Token
  pub swaps : Swaps m r ts tokens
  pub holds : Derives g k tokens e r

-- tokens alone
pub stays : {g : Rules} {j : Kind} {e : Of (sort j)} {m r : List Token} (front : List Token) → Derives g j (front ++ r) e r → Replaced g j (front ++ m) e m r
stays {r = r} front d = record { tokens = front ++ r; swaps = fronted front at_rest; holds = d }

-- tokens, and a phrase before a new rest
pub joins : {g : Rules} {j k : Kind} {e : Of (sort j)} {a : Of (sort k)} {ts n u m r : List Token} (front : List Token) → Swaps m r n u → Replaced g k ts a n u → ((us : List Token) → Derives g k us a u → Derives g j (front ++ us) e r) → Replaced g j (front ++ ts) e m r
joins front s t f = record { tokens = front ++ t.tokens; swaps = fronted front (through t.swaps s); holds = f t.tokens t.holds }

at_assign : {g : Rules} {i : Bool} {ts m : List Token} {e : Expr} (r : List Token) → next_passes (is_sign sign.Assign) r ≡ true → ((q : List Token) → Replaced g (Grammar.primary i) ts e m (Sign sign.Assign ∷ q)) → Replaced g (Grammar.primary i) ts e m r
at_assign [] h f = absurd cc
at_assign {g} {i} {ts} {m} {e} (x ∷ r) h f = subst (λ v. Replaced g (Grammar.primary i) ts e m (v ∷ r)) (sym (sign_is sign.Assign x h)) (f r)

pub replaced : {g : Rules} {k : Kind} {ts m : List Token} {e : Of (sort k)} → Derives g k ts e m → (r : List Token) → Needs k m r → Replaced g k ts e m r
replaced (Grammar.plain d) r h = joins [] at_rest (replaced d r h) (λ us x. Grammar.plain x)
replaced (Grammar.assigns is c d) r h =
    let t = replaced d r h in
    joins [] (token t.swaps) (replaced c (Sign sign.Assign ∷ t.tokens) (λ e. e)) (λ us x. Grammar.assigns is x t.holds)
replaced (Grammar.unconditional d) r h = joins [] at_rest (replaced d r h) (λ us x. Grammar.unconditional x)
replaced (Grammar.chooses b c d) r h =
    let t = replaced d r h in
    let u = replaced c (Sign sign.Pipe ∷ t.tokens) (λ e. e) in
    joins [] (token (through u.swaps (token t.swaps))) (replaced b (Sign sign.Question ∷ u.tokens) (λ e. e)) (λ us x. Grammar.chooses x u.holds t.holds)
replaced (Grammar.chained c d) r h =
    let t = replaced d r h in
    joins [] t.swaps (replaced c t.tokens (keeps_on t.swaps h)) (λ us x. Grammar.chained x t.holds)
replaced Grammar.no_more r h = stays [] Grammar.no_more
replaced (Grammar.one_more {x = x} is c d) r h =
    let t = replaced d r h in
    joins (x ∷ []) t.swaps (replaced c t.tokens (keeps_on t.swaps h)) (λ us x. Grammar.one_more is x t.holds)
replaced (Grammar.relations d) r h = joins [] at_rest (replaced d r h) (λ us x. Grammar.relations x)
replaced (Grammar.sums d) r h = joins [] at_rest (replaced d r h) (λ us x. Grammar.sums x)
replaced (Grammar.products d) r h = joins [] at_rest (replaced d r h) (λ us x. Grammar.products x)
replaced (Grammar.powers d) r h = joins [] at_rest (replaced d r h) (λ us x. Grammar.powers x)
replaced (Grammar.unraised d) r h = joins [] at_rest (replaced d r h) (λ us x. Grammar.unraised x)
replaced (Grammar.raised c d) r h =
    let t = replaced d r h in
    joins [] (token t.swaps) (replaced c (Sign sign.Caret ∷ t.tokens) (λ e. e)) (λ us x. Grammar.raised x t.holds)
replaced (Grammar.inverts d) r h = joins (Sign sign.Bang ∷ []) at_rest (replaced d r h) (λ us x. Grammar.inverts x)
replaced (Grammar.negates d) r h = joins (Sign sign.Minus ∷ []) at_rest (replaced d r h) (λ us x. Grammar.negates x)
replaced (Grammar.unsigned d) r h = joins [] at_rest (replaced d r h) (λ us x. Grammar.unsigned x)
replaced (Grammar.based c d) r h =
    let t = replaced d r h in
    joins [] t.swaps (replaced c t.tokens (keeps_on t.swaps h)) (λ us x. Grammar.based x t.holds)
replaced Grammar.no_suffix r h = stays [] Grammar.no_suffix
replaced (Grammar.property_named {s = s} d) r h = joins (Sign sign.Dot ∷ Name s ∷ []) at_rest (replaced d r h) (λ us x. Grammar.property_named x)
replaced (Grammar.property_computed c d) r h =
    let t = replaced d r h in
    joins (Sign sign.Dot ∷ Sign sign.LeftParen ∷ []) (token t.swaps) (replaced c (Sign sign.RightParen ∷ t.tokens) (λ e. e)) (λ us x. Grammar.property_computed x t.holds)
replaced (Grammar.verb_named {s = s} c d) r h =
    let t = replaced d r h in
    joins (Sign sign.Colon ∷ Name s ∷ Sign sign.LeftParen ∷ []) (token t.swaps) (replaced c (Sign sign.RightParen ∷ t.tokens) (λ e. e)) (λ us x. Grammar.verb_named x t.holds)
replaced (Grammar.verb_computed b c d) r h =
    let t = replaced d r h in
    let u = replaced c (Sign sign.RightParen ∷ t.tokens) (λ e. e) in
    joins (Sign sign.Colon ∷ Sign sign.LeftParen ∷ []) (token (token (through u.swaps (token t.swaps)))) (replaced b (Sign sign.RightParen ∷ Sign sign.LeftParen ∷ u.tokens) (λ e. e)) (λ us x. Grammar.verb_computed x u.holds t.holds)
replaced (Grammar.indexed c d) r h =
    let t = replaced d r h in
    joins (Sign sign.LeftBracket ∷ []) (token t.swaps) (replaced c (Sign sign.RightBracket ∷ t.tokens) (λ e. e)) (λ us x. Grammar.indexed x t.holds)
replaced (Grammar.ranged b c d) r h =
    let t = replaced d r h in
    let u = replaced c (Sign sign.RightBracket ∷ t.tokens) (λ e. e) in
    joins (Sign sign.LeftBracket ∷ []) (token (through u.swaps (token t.swaps))) (replaced b (Sign sign.DotDot ∷ u.tokens) (λ e. e)) (λ us x. Grammar.ranged x u.holds t.holds)
replaced (Grammar.constant {x = x} is) r h = stays (x ∷ []) (Grammar.constant is)
replaced (Grammar.name {s = s}) r h = stays (Name s ∷ []) Grammar.name
replaced (Grammar.called {s = s} is d) r h = joins (Name s ∷ Sign sign.LeftParen ∷ []) (token at_rest) (replaced d (Sign sign.RightParen ∷ r) (λ e. e)) (λ us x. Grammar.called is x)
replaced (Grammar.system_property {s = s}) r h = stays (Sign sign.Dollar ∷ Name s ∷ []) Grammar.system_property
replaced (Grammar.system_verb {s = s} d) r h = joins (Sign sign.Dollar ∷ Name s ∷ Sign sign.LeftParen ∷ []) (token at_rest) (replaced d (Sign sign.RightParen ∷ r) (λ e. e)) (λ us x. Grammar.system_verb x)
replaced Grammar.dollar r h = stays (Sign sign.Dollar ∷ []) Grammar.dollar
replaced (Grammar.grouped d) r h = joins (Sign sign.LeftParen ∷ []) (token at_rest) (replaced d (Sign sign.RightParen ∷ r) (λ e. e)) (λ us x. Grammar.grouped x)
replaced (Grammar.listed is d) r h = joins (Sign sign.LeftBrace ∷ []) (token at_rest) (replaced d (Sign sign.RightBrace ∷ r) (λ e. e)) (λ us x. Grammar.listed is x)
replaced (Grammar.scattered d) r h = at_assign r (h refl) (λ q. joins (Sign sign.LeftBrace ∷ []) (token at_rest) (replaced d (Sign sign.RightBrace ∷ Sign sign.Assign ∷ q) (λ e. e)) (λ us x. Grammar.scattered x))
replaced (Grammar.catches c d) r h =
    let t = replaced d (Sign sign.Quote ∷ r) (λ e. e) in
    joins (Sign sign.Backquote ∷ []) (token (through t.swaps (token at_rest))) (replaced c (Sign sign.Bang ∷ t.tokens) (λ e. e)) (λ us x. Grammar.catches x t.holds)
replaced (Grammar.catches_or b c d) r h =
    let t = replaced d (Sign sign.Quote ∷ r) (λ e. e) in
    let u = replaced c (Sign sign.Arrow ∷ t.tokens) (λ e. e) in
    joins (Sign sign.Backquote ∷ []) (token (through u.swaps (token (through t.swaps (token at_rest))))) (replaced b (Sign sign.Bang ∷ u.tokens) (λ e. e)) (λ us x. Grammar.catches_or x u.holds t.holds)
replaced Grammar.any_code r h = stays (Keyword keyword.Any ∷ []) Grammar.any_code
replaced (Grammar.these_codes d) r h = joins [] at_rest (replaced d r h) (λ us x. Grammar.these_codes x)
replaced Grammar.no_arguments r h = stays [] Grammar.no_arguments
replaced (Grammar.some_arguments d) r h = joins [] at_rest (replaced d r h) (λ us x. Grammar.some_arguments x)
replaced (Grammar.one_element d) r h = joins [] at_rest (replaced d r h) (λ us x. Grammar.one_element x)
replaced (Grammar.an_element c d) r h =
    let t = replaced d r h in
    joins [] (token t.swaps) (replaced c (Sign sign.Comma ∷ t.tokens) (λ e. e)) (λ us x. Grammar.an_element x t.holds)
replaced (Grammar.one_splice d) r h = joins (Sign sign.At ∷ []) at_rest (replaced d r h) (λ us x. Grammar.one_splice x)
replaced (Grammar.a_splice c d) r h =
    let t = replaced d r h in
    joins (Sign sign.At ∷ []) (token t.swaps) (replaced c (Sign sign.Comma ∷ t.tokens) (λ e. e)) (λ us x. Grammar.a_splice x t.holds)
replaced (Grammar.one_optional {s = s}) r h = stays (Sign sign.Question ∷ Name s ∷ []) Grammar.one_optional
replaced (Grammar.an_optional {s = s} d) r h = joins (Sign sign.Question ∷ Name s ∷ Sign sign.Comma ∷ []) at_rest (replaced d r h) (λ us x. Grammar.an_optional x)
replaced (Grammar.one_default {s = s} d) r h = joins (Sign sign.Question ∷ Name s ∷ Sign sign.Assign ∷ []) at_rest (replaced d r h) (λ us x. Grammar.one_default x)
replaced (Grammar.a_default {s = s} c d) r h =
    let t = replaced d r h in
    joins (Sign sign.Question ∷ Name s ∷ Sign sign.Assign ∷ []) (token t.swaps) (replaced c (Sign sign.Comma ∷ t.tokens) (λ e. e)) (λ us x. Grammar.a_default x t.holds)
replaced (Grammar.branch b c d) r h =
    let t = replaced d (Keyword keyword.EndIf ∷ r) tt in
    let u = replaced c t.tokens tt in
    joins (Keyword keyword.If ∷ []) (through u.swaps (through t.swaps (token at_rest))) (replaced b u.tokens tt) (λ us x. Grammar.branch x u.holds t.holds)
replaced (Grammar.for_elements {x = x} c d) r h =
    let t = replaced d (Keyword keyword.EndFor ∷ r) tt in
    joins (Keyword keyword.For ∷ Name x ∷ Keyword keyword.In ∷ []) (through t.swaps (token at_rest)) (replaced c t.tokens tt) (λ us x. Grammar.for_elements x t.holds)
replaced (Grammar.for_numbers {x = x} b c d) r h =
    let t = replaced d (Keyword keyword.EndFor ∷ r) tt in
    let u = replaced c (Sign sign.RightBracket ∷ t.tokens) (λ e. e) in
    joins (Keyword keyword.For ∷ Name x ∷ Keyword keyword.In ∷ Sign sign.LeftBracket ∷ []) (token (through u.swaps (token (through t.swaps (token at_rest))))) (replaced b (Sign sign.DotDot ∷ u.tokens) (λ e. e)) (λ us x. Grammar.for_numbers x u.holds t.holds)
replaced (Grammar.while_true b c d) r h =
    let t = replaced d (Keyword keyword.EndWhile ∷ r) tt in
    let u = replaced c t.tokens tt in
    joins (Keyword keyword.While ∷ []) (through u.swaps (through t.swaps (token at_rest))) (replaced b u.tokens tt) (λ us x. Grammar.while_true x u.holds t.holds)
replaced (Grammar.breaks_loop is) r h = stays (Keyword keyword.Break ∷ Sign sign.Semicolon ∷ []) (Grammar.breaks_loop is)
replaced (Grammar.breaks_named {x = x} is) r h = stays (Keyword keyword.Break ∷ Name x ∷ Sign sign.Semicolon ∷ []) (Grammar.breaks_named is)
replaced (Grammar.continues_loop is) r h = stays (Keyword keyword.Continue ∷ Sign sign.Semicolon ∷ []) (Grammar.continues_loop is)
replaced (Grammar.continues_named {x = x} is) r h = stays (Keyword keyword.Continue ∷ Name x ∷ Sign sign.Semicolon ∷ []) (Grammar.continues_named is)
replaced Grammar.returns_nothing r h = stays (Keyword keyword.Return ∷ Sign sign.Semicolon ∷ []) Grammar.returns_nothing
replaced (Grammar.returns_value d) r h = joins (Keyword keyword.Return ∷ []) (token at_rest) (replaced d (Sign sign.Semicolon ∷ r) (λ e. e)) (λ us x. Grammar.returns_value x)
replaced (Grammar.tries c d) r h =
    let t = replaced d (Keyword keyword.EndTry ∷ r) tt in
    joins (Keyword keyword.Try ∷ []) (through t.swaps (token at_rest)) (replaced c t.tokens tt) (λ us x. Grammar.tries x t.holds)
replaced (Grammar.cleans_up c d) r h =
    let t = replaced d (Keyword keyword.EndTry ∷ r) tt in
    joins (Keyword keyword.Try ∷ []) (token (through t.swaps (token at_rest))) (replaced c (Keyword keyword.Finally ∷ t.tokens) tt) (λ us x. Grammar.cleans_up x t.holds)
replaced (Grammar.performed d) r h = joins [] (token at_rest) (replaced d (Sign sign.Semicolon ∷ r) (λ e. e)) (λ us x. Grammar.performed x)
replaced Grammar.no_arms r h = stays [] Grammar.no_arms
replaced (Grammar.last_arm d) r h = joins (Keyword keyword.Else ∷ []) at_rest (replaced d r tt) (λ us x. Grammar.last_arm x)
replaced (Grammar.an_arm b c d) r h =
    let t = replaced d r tt in
    let u = replaced c t.tokens tt in
    joins (Keyword keyword.ElseIf ∷ []) (through u.swaps t.swaps) (replaced b u.tokens tt) (λ us x. Grammar.an_arm x u.holds t.holds)
replaced (Grammar.one_handler b c d) r h =
    let t = replaced d r tt in
    let u = replaced c (Sign sign.RightParen ∷ t.tokens) (λ e. e) in
    joins (Keyword keyword.Except ∷ []) (token (through u.swaps (token t.swaps))) (replaced b (Sign sign.LeftParen ∷ u.tokens) tt) (λ us x. Grammar.one_handler x u.holds t.holds)
replaced (Grammar.a_handler a b c d) r h =
    let t = replaced d r tt in
    let u = replaced c t.tokens tt in
    let v = replaced b (Sign sign.RightParen ∷ u.tokens) (λ e. e) in
    joins (Keyword keyword.Except ∷ []) (token (through v.swaps (token (through u.swaps t.swaps)))) (replaced a (Sign sign.LeftParen ∷ v.tokens) tt) (λ us x. Grammar.a_handler x v.holds u.holds t.holds)
replaced (Grammar.parenthesized d) r h = joins (Sign sign.LeftParen ∷ []) (token at_rest) (replaced d (Sign sign.RightParen ∷ r) (λ e. e)) (λ us x. Grammar.parenthesized x)
replaced Grammar.unlabelled r h = stays [] Grammar.unlabelled
replaced (Grammar.labelled {x = x}) r h = stays (Name x ∷ []) Grammar.labelled
replaced Grammar.no_statements r h = stays [] Grammar.no_statements
replaced (Grammar.one_statement c d) r h =
    let t = replaced d r tt in
    joins [] t.swaps (replaced c t.tokens tt) (λ us x. Grammar.one_statement x t.holds)
replaced (Grammar.an_end d) r h = joins (Sign sign.Semicolon ∷ []) at_rest (replaced d r tt) (λ us x. Grammar.an_end x)
