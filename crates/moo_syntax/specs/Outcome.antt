-- The outcomes of the parser's functions.
use Rattle.std.specs.Prelude.{ℕ, List, ◌≡◌, ◌≤◌, ◌<◌, ◌+◌, Bool, true, false, max}
use Rattle.moo_syntax_token.specs.declared.token.Token.{Token}
use Rattle.moo_syntax_token.specs.declared.sign.Sign.TheVariants.{Assign, LeftParen, RightParen}
use Rattle.moo_syntax_ast.specs.declared.tree.Item.{Item}
use Rattle.moo_syntax_ast.specs.declared.operator.BinaryOperator.TheVariants.{Power}
use Rattle.moo_syntax_ast.specs.Tree.{Expr, binary}
use Rattle.moo_syntax_ast.specs.Limits.{height}
use Rattle.moo_syntax_ast.specs.View.{with_item}
use Rattle.moo_syntax_grammar.specs.declared.names.Names.{Names}
use Rattle.moo_syntax_grammar.specs.Rules.{Rules, Admits, strict, may_call}
use Rattle.moo_syntax_grammar.specs.Grammar.{Sort, Of, Kind, sort, expression, power, members, text}
use Rattle.moo_syntax_grammar.specs.Machine.{Reading, give, phrase, Reads, Why, by_form, by_rule, Fails}
use Rattle.moo_syntax_grammar.specs.Tokens.{next_passes, is_sign}
use Rattle.moo_syntax_grammar.specs.Predictive.{grammar, if_name, expect, after_member, after_question}
use Rattle.moo_syntax_grammar.specs.Items.{item_height}
use Rattle.moo_syntax_grammar.specs.Size.{size}
use Rattle.moo_syntax_grammar.specs.Depth.{Deep}
use Rattle.moo_syntax.specs.declared.cursor.Cursor.{Cursor}
use Rattle.moo_syntax.specs.declared.fault.Fault.{Fault}
use Rattle.moo_syntax.specs.declared.fault.Fault.TheVariants.{Unexpected, BadTarget, UnknownFunction, BadLoopName, TooDeep, Memory}
use Rattle.moo_syntax.specs.Cursor.{left, Takes}
use Rattle.moo_syntax.specs.Outgrown.{Deepens}
use Rattle.moo_syntax.specs.Places.{IsCalled, IsJump}

-- the cursor is over the same tokens, and never went back
pub record Moves (old new : Cursor) : Type 0 where
  pub at : old.at ≤ new.at
  pub spots : new.spots.now ≡ old.spots.now

-- the reading gave this tree under each grammar that admits all programs of the strict one
abbrev pub ReadsBy : Names → (s : Sort) → (Rules → Reading s) → List Token → Of s → List Token → Type 0
ReadsBy names s p ts e r = (g : Rules) → Admits g (strict names) → Reads (grammar g) s (p g) ts e r

-- The reading gave this tree, which fits the room. A path of it has at most as many nodes as tokens were read, and the
-- tokens before them.
pub record IsReadBy (names : Names) (s : Sort) (p : Rules → Reading s) (room before : ℕ) (old new : Cursor) (e : Of s) : Type 0 where
  pub reads : ReadsBy names s p (left old) e (left new)
  pub fits : size s e ≤ room
  pub tokens : old.at + size s e ≤ new.at + before

-- the phrase was read
abbrev pub IsRead : Names → (k : Kind) → ℕ → Cursor → Cursor → Of (sort k) → Type 0
IsRead names k room old new e = IsReadBy names (sort k) (λ g. grammar g k) room 0 old new e

-- the rules under which the fault is reported: no tokens that begin with these are a program under them
abbrev pub ToldBy : Fault → Names → Rules → Type 0
ToldBy Unexpected names g = Admits g (strict names)
ToldBy BadTarget names g = Admits g (strict names) × (g.targets ≡ true)
ToldBy UnknownFunction names g = Admits g (strict names) × ((s : List ℕ) → g.functions s ≡ true → may_call names s ≡ true)
ToldBy BadLoopName names g = Admits g (strict names) × (g.loops ≡ true)
ToldBy TooDeep names g = ⊥
ToldBy Memory names g = ⊥

-- why a reading stops that reports the fault
abbrev pub why : Fault → Why
why Unexpected = by_form
why BadTarget = by_rule
why UnknownFunction = by_rule
why BadLoopName = by_rule
why TooDeep = by_form
why Memory = by_form

-- the token at which the fault is reported
abbrev pub Stands : Fault → Names → Cursor → Type 0
Stands Unexpected names c = Unit {0}
Stands BadTarget names c = next_passes (is_sign Assign) (left c) ≡ true
Stands UnknownFunction names c = (s : List ℕ) × (may_call names s ≡ false) × IsCalled c.spots.now c.at s
Stands BadLoopName names c = IsJump c.spots.now c.at
Stands TooDeep names c = Unit {0}
Stands Memory names c = Unit {0}

-- The reading stops at the cursor, and does so on all tokens that agree with these up to there; or the tokens that were
-- taken make it certain that the tree is too high. The flag is true if one was taken in that case.
pub record HasFailedBy (names : Names) (taken : Bool) (s : Sort) (p : Rules → Reading s) (room before : ℕ) (old new : Cursor) (f : Fault) : Type 0 where
  pub fails : (g : Rules) → ToldBy f names g → Fails (grammar g) (why f) s (p g) (left old) (left new)
  pub stands : Stands f names new
  pub deep : f ≡ TooDeep → (g : Rules) → Admits g (strict names) → Deepens g taken s room (p g) (left old) (left new)
  pub long : f ≡ TooDeep → old.at + room < new.at + before

-- the phrase was not read
abbrev pub HasFailed : Names → Kind → ℕ → Cursor → Cursor → Fault → Type 0
HasFailed names k room old new f = HasFailedBy names true (sort k) (λ g. grammar g k) room 0 old new f

-- the token was the last to be taken
abbrev pub IsAfter : Token → Cursor → Type 0
IsAfter x new = (old : Cursor) × Takes x old new

-- if a phrase of kind j begins at us, one of kind k begins at ts, with f applied to its tree
pub record GoesOn (names : Names) (k j : Kind) (f : Of (sort j) → Of (sort k)) (ts us : List Token) : Type 0 where
  pub reads : (g : Rules) → Admits g (strict names) → (e : Of (sort j)) (r : List Token) → Reads (grammar g) (sort j) (grammar g j) us e r → Reads (grammar g) (sort k) (grammar g k) ts (f e) r
  pub fails : (g : Rules) → Admits g (strict names) → (r : List Token) {w : Why} → Fails (grammar g) w (sort j) (grammar g j) us r → Fails (grammar g) w (sort k) (grammar g k) ts r
  pub deep : (g : Rules) → Admits g (strict names) → (n : ℕ) (r : List Token) → Deepens g true (sort j) n (grammar g j) us r → Deepens g true (sort k) n (grammar g k) ts r

-- the reading p at ts comes to the reading q at us
pub record LeadsTo (names : Names) (s : Sort) (p q : Rules → Reading s) (ts us : List Token) : Type 0 where
  pub reads : (g : Rules) → Admits g (strict names) → (e : Of s) (r : List Token) → Reads (grammar g) s (q g) us e r → Reads (grammar g) s (p g) ts e r
  pub fails : (g : Rules) → Admits g (strict names) → (r : List Token) {w : Why} → Fails (grammar g) w s (q g) us r → Fails (grammar g) w s (p g) ts r
  pub deep : (g : Rules) → Admits g (strict names) → (n : ℕ) (r : List Token) → Deepens g true s n (q g) us r → Deepens g true s n (p g) ts r

-- the name of a property or a verb, and the reading after it
abbrev pub member_name : Bool → (Expr → Reading Sort.expr) → Reading Sort.expr
member_name i k = if_name (λ s. k (text s)) (expect LeftParen (phrase (expression i) λ b. expect RightParen (k b)))

-- for private clauses: the reading after the sign of a power
abbrev pub raising : Bool → Expr → Reading Sort.expr
raising i a = phrase (power i) λ b. give (binary Power a b)

-- the name of a property or a verb was read
pub record IsNamed (names : Names) (i : Bool) (room : ℕ) (old new : Cursor) (b : Expr) : Type 0 where
  pub leads : (k : Expr → Reading Sort.expr) → LeadsTo names Sort.expr (λ g. member_name i k) (λ g. k b) (left old) (left new)
  pub fits : height b ≤ max room 1
  pub tokens : old.at + height b ≤ new.at

-- the name of a property or a verb was not read, whatever reading follows it
pub record IsUnnamed (names : Names) (i : Bool) (room : ℕ) (old new : Cursor) (f : Fault) : Type 0 where
  pub fails : (k : Expr → Reading Sort.expr) (g : Rules) → ToldBy f names g → Fails (grammar g) (why f) Sort.expr (member_name i k) (left old) (left new)
  pub stands : Stands f names new
  pub deep : f ≡ TooDeep → (g : Rules) → Admits g (strict names) → (n : ℕ) (k : Expr → Reading Sort.expr) → ((b : Expr) → room < height b → (us : List Token) → Deep g Sort.expr n (k b) us) → Deepens g true Sort.expr n (member_name i k) (left old) (left new)
  pub long : f ≡ TooDeep → old.at + room < new.at

-- a member was read, of which the comma or the end is still to come
pub record IsMember (names : Names) (i o : Bool) (room : ℕ) (old new : Cursor) (item : Item) : Type 0 where
  pub leads : LeadsTo names Sort.items (λ g. grammar g (members i o)) (λ g. after_member i o (with_item item)) (left old) (left new)
  pub fits : item_height item ≤ room
  pub tokens : old.at + item_height item ≤ new.at

-- a piece was read after its `?`, of which the comma or the end is still to come
pub record IsPiece (names : Names) (i : Bool) (room : ℕ) (old new : Cursor) (item : Item) : Type 0 where
  pub leads : LeadsTo names Sort.items (λ g. after_question i) (λ g. after_member i true (with_item item)) (left old) (left new)
  pub fits : item_height item ≤ room
  pub tokens : old.at + item_height item ≤ new.at
