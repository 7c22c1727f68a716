-- The places of names that may be left out: in braces that `=` follows.
use Rattle.std.proofs.Common.{List, [], ◌∷◌, ◌≡◌, refl, sym, ◌∙◌, Bool, true, false, Some, ◌||◌}
use Rattle.moo_syntax_token.specs.declared.sign.Sign.{Sign}
use Rattle.moo_syntax_token.specs.declared.sign.Sign.TheVariants as sign
use Rattle.moo_syntax_token.specs.declared.token.Token.{Token}
use Rattle.moo_syntax_token.specs.declared.token.Token.TheVariants as token
use Rattle.moo_syntax_ast.specs.declared.tree.Literal.TheVariants as literal
use Rattle.moo_syntax_ast.specs.Tree
use Rattle.moo_syntax_ast.specs.Tree.{Expr, Items, Codes}
use Rattle.moo_syntax_grammar.specs.declared.level.Level.{Level}
use Rattle.moo_syntax_grammar.specs.declared.level.Level.TheVariants as level
use Rattle.moo_syntax_grammar.specs.declared.level.Operator.{Operator}
use Rattle.moo_syntax_grammar.specs.declared.level.Operator.TheVariants as operator
use Rattle.moo_syntax_grammar.specs.Tokens.{operator_at, sign_operator, is_sign}
use Rattle.moo_syntax_grammar.specs.Rules.{Rules}
use Rattle.moo_syntax_grammar.specs.Grammar
use Rattle.moo_syntax_grammar.specs.Grammar.{Kind, Of, sort, Derives, has_optional}

-- the expression ends in braces with such a name
abbrev pub ends_in_scatter : Expr → Bool
ends_in_scatter (Tree.unary o a) = ends_in_scatter a
ends_in_scatter (Tree.binary o a b) = ends_in_scatter b
ends_in_scatter (Tree.logic o a b) = ends_in_scatter b
ends_in_scatter (Tree.conditional a b c) = ends_in_scatter c
ends_in_scatter (Tree.assign a b) = ends_in_scatter b
ends_in_scatter (Tree.list xs) = has_optional xs
ends_in_scatter e = false

-- one of the items does
abbrev pub some_scatter : Items → Bool
some_scatter Tree.no_items = false
some_scatter (Tree.element a xs) = ends_in_scatter a || some_scatter xs
some_scatter (Tree.splice a xs) = ends_in_scatter a || some_scatter xs
some_scatter (Tree.optional s xs) = some_scatter xs
some_scatter (Tree.defaulted s a xs) = ends_in_scatter a || some_scatter xs

abbrev pub scatter_in_codes : Codes → Bool
scatter_in_codes Tree.any_error = false
scatter_in_codes (Tree.listed_errors xs) = some_scatter xs

abbrev pub begins_assign : List Token → Bool
begins_assign [] = false
begins_assign (x ∷ r) = is_sign sign.Assign x

-- where there is one, `=` follows
pub record If (scatter : Bool) (r : List Token) : Type 0 where
  pub shows : scatter ≡ true → begins_assign r ≡ true

abbrev pub Stands : (k : Kind) → List Token → Of (sort k) → List Token → Type 0
Stands (Grammar.expression i) ts e r = If (ends_in_scatter e) r
Stands (Grammar.conditional i) ts e r = If (ends_in_scatter e) r
Stands (Grammar.chain i l) ts e r = If (ends_in_scatter e) r
Stands (Grammar.more i l a) ts e r = If (ends_in_scatter a) ts → If (ends_in_scatter e) r
Stands (Grammar.operand i l) ts e r = If (ends_in_scatter e) r
Stands (Grammar.power i) ts e r = If (ends_in_scatter e) r
Stands (Grammar.unary i) ts e r = If (ends_in_scatter e) r
Stands (Grammar.postfix i) ts e r = If (ends_in_scatter e) r
Stands (Grammar.suffixes i a) ts e r = If (ends_in_scatter a) ts → If (ends_in_scatter e) r
Stands (Grammar.primary i) ts e r = If (ends_in_scatter e) r
Stands (Grammar.arguments i o) ts xs r = If (some_scatter xs) r
Stands (Grammar.members i o) ts xs r = If (some_scatter xs) r
Stands (Grammar.codes i) ts c r = If (scatter_in_codes c) r
Stands _ ts e r = Unit {0}

none_by : (b : Bool) → (b ≡ true → false ≡ true) → b ≡ false
none_by false h = refl
none_by true h = let n : false ≡ true = h refl in absurd cc

-- there is none where another token follows
pub none : {b : Bool} {x : Token} {r : List Token} → If b (x ∷ r) → is_sign sign.Assign x ≡ false → b ≡ false
none {b} s n = none_by b (λ h. sym n ∙ s.shows h)

pub neither : (a b : Bool) → (a || b) ≡ false → (a ≡ false) × (b ≡ false)
neither true b h = absurd cc
neither false b h = (refl, h)

first_of : (a : Bool) (r : List Token) → If a r → If (a || false) r
first_of true r s = s
first_of false r s = s

second_of : (a b : Bool) (r : List Token) → a ≡ false → If b r → If (a || b) r
second_of true b r n s = absurd cc
second_of false b r n s = s

pub none_at_all : (r : List Token) → If false r
none_at_all r = record { shows = λ h. absurd cc }

sign_is_no_assign : (l : Level) (s : Sign) (o : Operator) → sign_operator l s ≡ Some o → is_sign sign.Assign (token.Sign s) ≡ false
sign_is_no_assign level.Logic sign.Assign o e = absurd cc
sign_is_no_assign level.Relation sign.Assign o e = absurd cc
sign_is_no_assign level.Sum sign.Assign o e = absurd cc
sign_is_no_assign level.Product sign.Assign o e = absurd cc
sign_is_no_assign level.Logic sign.AndAnd o e = refl
sign_is_no_assign level.Logic sign.OrOr o e = refl
sign_is_no_assign level.Relation sign.Equal o e = refl
sign_is_no_assign level.Relation sign.NotEqual o e = refl
sign_is_no_assign level.Relation sign.Less o e = refl
sign_is_no_assign level.Relation sign.LessEqual o e = refl
sign_is_no_assign level.Relation sign.Greater o e = refl
sign_is_no_assign level.Relation sign.GreaterEqual o e = refl
sign_is_no_assign level.Sum sign.Plus o e = refl
sign_is_no_assign level.Sum sign.Minus o e = refl
sign_is_no_assign level.Product sign.Star o e = refl
sign_is_no_assign level.Product sign.Slash o e = refl
sign_is_no_assign level.Product sign.Percent o e = refl
sign_is_no_assign _ _ o e = absurd cc

pub operator_is_no_assign : (l : Level) (x : Token) (o : Operator) → operator_at l x ≡ Some o → is_sign sign.Assign x ≡ false
operator_is_no_assign l (token.Sign s) o e = sign_is_no_assign l s o e
operator_is_no_assign l _ o e = refl

pub joined_stands : (o : Operator) (a b : Expr) {r : List Token} → If (ends_in_scatter b) r → If (ends_in_scatter (Grammar.joined o a b)) r
joined_stands (operator.Binary o) a b s = s
joined_stands (operator.Logic o) a b s = s

negated_stands : (a : Expr) {r : List Token} → If (ends_in_scatter a) r → If (ends_in_scatter (Grammar.negated a)) r
negated_stands (Tree.literal (literal.Integer n)) s = s
negated_stands _ s = s

pub stands : {g : Rules} {k : Kind} {ts r : List Token} {e : Of (sort k)} → Derives g k ts e r → Stands k ts e r
stands (Grammar.plain d) = stands d
stands (Grammar.assigns is c d) = stands d
stands (Grammar.unconditional d) = stands d
stands (Grammar.chooses b c d) = stands d
stands (Grammar.chained c d) = stands d (stands c)
stands Grammar.no_more = λ s. s
stands (Grammar.one_more {o = o} {a = a} {b = b} is c d) = λ s. stands d (joined_stands o a b (stands c))
stands (Grammar.relations d) = stands d
stands (Grammar.sums d) = stands d
stands (Grammar.products d) = stands d
stands (Grammar.powers d) = stands d
stands (Grammar.unraised d) = stands d
stands (Grammar.raised c d) = stands d
stands (Grammar.inverts d) = stands d
stands (Grammar.negates {a = a} d) = negated_stands a (stands d)
stands (Grammar.unsigned d) = stands d
stands (Grammar.based c d) = stands d (stands c)
stands Grammar.no_suffix = λ s. s
stands (Grammar.property_named d) = λ s. stands d (none_at_all _)
stands (Grammar.property_computed c d) = λ s. stands d (none_at_all _)
stands (Grammar.verb_named c d) = λ s. stands d (none_at_all _)
stands (Grammar.verb_computed b c d) = λ s. stands d (none_at_all _)
stands (Grammar.indexed c d) = λ s. stands d (none_at_all _)
stands (Grammar.ranged b c d) = λ s. stands d (none_at_all _)
stands (Grammar.constant is) = none_at_all _
stands Grammar.name = none_at_all _
stands (Grammar.called is d) = none_at_all _
stands Grammar.system_property = none_at_all _
stands (Grammar.system_verb d) = none_at_all _
stands Grammar.dollar = none_at_all _
stands (Grammar.grouped {a = a} d) = record { shows = λ h. let n : ends_in_scatter a ≡ false = none (stands d) refl in absurd cc }
stands (Grammar.listed is d) = record { shows = λ h. absurd cc }
stands (Grammar.scattered d) = record { shows = λ h. refl }
stands (Grammar.catches c d) = none_at_all _
stands (Grammar.catches_or b c d) = none_at_all _
stands Grammar.any_code = none_at_all _
stands (Grammar.these_codes d) = stands d
stands Grammar.no_arguments = none_at_all _
stands (Grammar.some_arguments d) = stands d
stands (Grammar.one_element d) = first_of _ _ (stands d)
stands (Grammar.an_element c d) = second_of _ _ _ (none (stands c) refl) (stands d)
stands (Grammar.one_splice d) = first_of _ _ (stands d)
stands (Grammar.a_splice c d) = second_of _ _ _ (none (stands c) refl) (stands d)
stands Grammar.one_optional = none_at_all _
stands (Grammar.an_optional d) = stands d
stands (Grammar.one_default d) = first_of _ _ (stands d)
stands (Grammar.a_default c d) = second_of _ _ _ (none (stands c) refl) (stands d)
stands (Grammar.branch b c d) = tt
stands (Grammar.for_elements c d) = tt
stands (Grammar.for_numbers b c d) = tt
stands (Grammar.while_true b c d) = tt
stands (Grammar.breaks_loop is) = tt
stands (Grammar.breaks_named is) = tt
stands (Grammar.continues_loop is) = tt
stands (Grammar.continues_named is) = tt
stands Grammar.returns_nothing = tt
stands (Grammar.returns_value d) = tt
stands (Grammar.tries c d) = tt
stands (Grammar.cleans_up c d) = tt
stands (Grammar.performed d) = tt
stands Grammar.no_arms = tt
stands (Grammar.last_arm d) = tt
stands (Grammar.an_arm b c d) = tt
stands (Grammar.one_handler b c d) = tt
stands (Grammar.a_handler a b c d) = tt
stands (Grammar.parenthesized d) = tt
stands Grammar.unlabelled = tt
stands Grammar.labelled = tt
stands Grammar.no_statements = tt
stands (Grammar.one_statement c d) = tt
stands (Grammar.an_end d) = tt
