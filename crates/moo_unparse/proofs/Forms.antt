-- The listing of each form of the grammar has that form, whichever parentheses it has besides those that are needed.
use Rattle.std.proofs.Common.{ℕ, suc, ℤ, pos, negsuc, List, ◌∷◌, ◌≡◌, ◌^◌, ◌<◌, ◌≤◌, refl, ap, ◌∙◌, sym, subst, Bool, true, false, Option, Some, None, ◌⊎◌, inl, inr, arith}
use Rattle.std.specs.Prelude.{FitsSigned}
use Rattle.std.specs.Int.{int_wrapping_neg, w32}
use Rattle.std.proofs.Math.IntN.{neg_ℤ}
use Rattle.std.proofs.lemmas.Int.{wrapping_neg_is, int_wrap_fits, SFits-int_wrap}
use Rattle.std.proofs.lemmas.Bool.{cases_lt}
use Rattle.moo_syntax_token.specs.declared.sign.Sign.{Sign}
use Rattle.moo_syntax_token.specs.declared.sign.Sign.TheVariants as sign
use Rattle.moo_syntax_token.specs.declared.keyword.Keyword.{Keyword}
use Rattle.moo_syntax_token.specs.declared.keyword.Keyword.TheVariants as keyword
use Rattle.moo_syntax_token.specs.declared.token.Token.{Token}
use Rattle.moo_syntax_token.specs.declared.token.Token.TheVariants as token
use Rattle.moo_syntax_ast.specs.declared.operator.BinaryOperator.TheVariants as binary
use Rattle.moo_syntax_ast.specs.declared.operator.LogicOperator.TheVariants as logic
use Rattle.moo_syntax_ast.specs.declared.tree.Literal.{Literal}
use Rattle.moo_syntax_ast.specs.declared.tree.Literal.TheVariants as literal
use Rattle.moo_syntax_ast.specs.Tree
use Rattle.moo_syntax_ast.specs.Tree.{Expr, Items, Codes, Stmt, Arms, Handlers, Block}
use Rattle.moo_syntax_ast.specs.Listing.{is_compound, is_compound_base, constant_name, is_system_object}
use Rattle.moo_syntax_ast.specs.Target.{is_target}
use Rattle.moo_unparse.specs.declared.form.Parentheses.{Parentheses}
use Rattle.moo_unparse.specs.declared.form.Part.{Part}
use Rattle.moo_unparse.specs.declared.form.Part.TheVariants as part
use Rattle.moo_unparse.specs.Parts.{rank, part_of, operator_part, left_of, right_of, needs}
use Rattle.moo_syntax_grammar.specs.declared.level.Level.{Level}
use Rattle.moo_syntax_grammar.specs.declared.level.Level.TheVariants as level
use Rattle.moo_syntax_grammar.specs.declared.level.Operator.{Operator}
use Rattle.moo_syntax_grammar.specs.declared.level.Operator.TheVariants as operator
use Rattle.moo_syntax_grammar.specs.Tokens.{literal_at, operator_at, sign_operator}
use Rattle.moo_syntax_grammar.specs.Rules.{Rules, may_assign}
use Rattle.moo_syntax_grammar.specs.Grammar
use Rattle.moo_syntax_grammar.specs.Grammar.{Kind, Of, sort, Derives, text, system_object}
use Rattle.moo_unparse.proofs.Names.{constant_is, system_is}
use Rattle.moo_unparse.proofs.Phrases.{IsPart, chain_then, looser, bare_rank, rank_most, level_part, left_chain, right_operand, at_level}
use Rattle.moo_unparse.proofs.Scatters.{ends_in_scatter, some_scatter, scatter_in_codes, If}
use Rattle.moo_unparse.proofs.Listed.{binary_token, logic_mark, parens, further, spell, spell_items, spell_codes, spell_statement, spell_block, selected, IsSound, AreSound, AreSoundCodes, IsSoundStatement, IsSoundBlock, IsSoundToken, spell_label, spell_arms, spell_handlers, IsSoundLabel, AreSoundArms, AreSoundHandlers}

-- the facts that are shown of a tree: its listing is a phrase of its part, and a base, in parentheses if it needs them
pub record Good (p : Parentheses) (g : Rules) (i : Bool) (e : Expr) : Type 0 where
  pub bare : (r : List Token) → IsPart g i (rank (part_of e)) (spell p e r) e r
  pub base : {f : Expr} {us r : List Token} → Derives g (Grammar.suffixes i e) us f r → Derives g (Grammar.postfix i) (parens (is_compound_base e) (spell p e) us) f r

-- the listing of braces, where `=` follows
abbrev pub IsScatter : Parentheses → Rules → Bool → Expr → Type 0
IsScatter p g i (Tree.list xs) = (r : List Token) → Derives g (Grammar.primary i) (spell p (Tree.list xs) (token.Sign sign.Assign ∷ r)) (Tree.list xs) (token.Sign sign.Assign ∷ r)
IsScatter p g i e = Unit {0}

-- the listing of an expression is good if the expression does not end in a scatter
pub record Whole (p : Parentheses) (g : Rules) (i : Bool) (e : Expr) : Type 0 where
  pub sound : IsSound e
  pub good : ends_in_scatter e ≡ false → Good p g i e
  pub scatter : IsScatter p g i e

pub record GoodMembers (p : Parentheses) (g : Rules) (i o : Bool) (xs : Items) : Type 0 where
  pub members : some_scatter xs ≡ false → (r : List Token) → Derives g (Grammar.members i o) (spell_items p xs r) xs r
  pub sound : AreSound xs

pub record GoodArguments (p : Parentheses) (g : Rules) (i o : Bool) (xs : Items) : Type 0 where
  pub arguments : some_scatter xs ≡ false → (r : List Token) → Derives g (Grammar.arguments i o) (spell_items p xs r) xs r
  pub sound : AreSound xs

pub record GoodCodes (p : Parentheses) (g : Rules) (i : Bool) (c : Codes) : Type 0 where
  pub codes : scatter_in_codes c ≡ false → (r : List Token) → Derives g (Grammar.codes i) (spell_codes p c r) c r
  pub sound : AreSoundCodes c

pub record GoodParens (p : Parentheses) (g : Rules) (e : Expr) : Type 0 where
  pub in_parens : (r : List Token) → Derives g Grammar.in_parens (token.Sign sign.LeftParen ∷ spell p e (token.Sign sign.RightParen ∷ r)) e r
  pub sound : IsSound e

pub record GoodLabel (p : Parentheses) (g : Rules) (l : Option (List ℕ)) : Type 0 where
  pub label : (r : List Token) → Derives g Grammar.label (spell_label l r) l r
  pub sound : IsSoundLabel l

pub record GoodStatement (p : Parentheses) (g : Rules) (ls : List (Option (List ℕ))) (s : Stmt) : Type 0 where
  pub statement : (r : List Token) → Derives g (Grammar.statement ls) (spell_statement p s r) s r
  pub sound : IsSoundStatement s

pub record GoodArms (p : Parentheses) (g : Rules) (ls : List (Option (List ℕ))) (c : Arms) : Type 0 where
  pub arms : (r : List Token) → Derives g (Grammar.arms ls) (spell_arms p c r) c r
  pub sound : AreSoundArms c

pub record GoodHandlers (p : Parentheses) (g : Rules) (ls : List (Option (List ℕ))) (h : Handlers) : Type 0 where
  pub handlers : (r : List Token) → Derives g (Grammar.handlers ls) (spell_handlers p h r) h r
  pub sound : AreSoundHandlers h

pub record GoodBlock (p : Parentheses) (g : Rules) (ls : List (Option (List ℕ))) (b : Block) : Type 0 where
  pub statements : (r : List Token) → Derives g (Grammar.statements ls) (spell_block p b r) b r
  pub sound : IsSoundBlock b

abbrev pub GoodOf : Parentheses → (g : Rules) (k : Kind) → List Token → Of (sort k) → Type 0
GoodOf p g (Grammar.expression i) ts e = Whole p g i e
GoodOf p g (Grammar.conditional i) ts e = Whole p g i e
GoodOf p g (Grammar.chain i l) ts e = Whole p g i e
GoodOf p g (Grammar.more i l a) ts e = Whole p g i a → If (ends_in_scatter a) ts → Whole p g i e
GoodOf p g (Grammar.operand i l) ts e = Whole p g i e
GoodOf p g (Grammar.power i) ts e = Whole p g i e
GoodOf p g (Grammar.unary i) ts e = Whole p g i e
GoodOf p g (Grammar.postfix i) ts e = Whole p g i e
GoodOf p g (Grammar.suffixes i a) ts e = Whole p g i a → If (ends_in_scatter a) ts → Whole p g i e
GoodOf p g (Grammar.primary i) ts e = Whole p g i e
GoodOf p g (Grammar.arguments i o) ts xs = GoodArguments p g i o xs
GoodOf p g (Grammar.members i o) ts xs = GoodMembers p g i o xs
GoodOf p g (Grammar.codes i) ts c = GoodCodes p g i c
GoodOf p g (Grammar.statement ls) ts s = GoodStatement p g ls s
GoodOf p g (Grammar.statements ls) ts b = GoodBlock p g ls b
GoodOf p g (Grammar.arms ls) ts c = GoodArms p g ls c
GoodOf p g (Grammar.handlers ls) ts h = GoodHandlers p g ls h
GoodOf p g Grammar.label ts l = GoodLabel p g l
GoodOf p g Grammar.in_parens ts e = GoodParens p g e

module _ (p : Parentheses) {g : Rules} {i : Bool} {e : Expr} where
  -- an expression without parentheses is one of each looser part
  pub whole_by : ((r : List Token) → IsPart g i (rank (part_of e)) (spell p e r) e r) → (r : List Token) → Derives g (Grammar.expression i) (spell p e r) e r
  whole_by w r = looser g i (spell p e r) e r 0 (rank (part_of e)) (omega arith) (w r)

module _ {p : Parentheses} {g : Rules} {i : Bool} {e : Expr} where
  pub whole : Good p g i e → (r : List Token) → Derives g (Grammar.expression i) (spell p e r) e r
  whole x r = whole_by p x.bare r

  operand_by : (b : Bool) (least : Part) → needs p least e ≡ b → Good p g i e → (r : List Token) → IsPart g i (rank least) (parens b (spell p e) r) e r
  operand_by true least h x r = looser g i (parens true (spell p e) r) e r (rank least) 8 (rank_most least) (Grammar.unsigned (Grammar.based (Grammar.grouped (whole x _)) Grammar.no_suffix))
  operand_by false least h x r = looser g i (spell p e r) e r (rank least) (rank (part_of e)) (bare_rank p least e h) (x.bare r)

  pub operand : (least : Part) → Good p g i e → (r : List Token) → IsPart g i (rank least) (parens (needs p least e) (spell p e) r) e r
  operand least x r = operand_by (needs p least e) least refl x r

-- the token of an operator is that operator
abbrev operator_token : Operator → Token
operator_token (operator.Binary o) = binary_token o
operator_token (operator.Logic o) = token.Sign (logic_mark o)

abbrev operator_rank : Operator → Part
operator_rank (operator.Binary o) = operator_part o
operator_rank (operator.Logic o) = part.Logic

Again : Level → Operator → Type 0
Again l o = (operator_at l (operator_token o) ≡ Some o) × (operator_rank o ≡ level_part l)

again_at : (l : Level) (o p : Operator) → Some o ≡ Some p → Again l o → Again l p
again_at l o p e a = let q : o ≡ p = cc in subst (Again l) q a

sign_again : (l : Level) (s : Sign) (o : Operator) → sign_operator l s ≡ Some o → Again l o
unfolding Again
sign_again level.Logic sign.AndAnd o e = again_at level.Logic (operator.Logic logic.And) o e (refl, refl)
sign_again level.Logic sign.OrOr o e = again_at level.Logic (operator.Logic logic.Or) o e (refl, refl)
sign_again level.Relation sign.Equal o e = again_at level.Relation (operator.Binary binary.Equal) o e (refl, refl)
sign_again level.Relation sign.NotEqual o e = again_at level.Relation (operator.Binary binary.NotEqual) o e (refl, refl)
sign_again level.Relation sign.Less o e = again_at level.Relation (operator.Binary binary.Less) o e (refl, refl)
sign_again level.Relation sign.LessEqual o e = again_at level.Relation (operator.Binary binary.LessOrEqual) o e (refl, refl)
sign_again level.Relation sign.Greater o e = again_at level.Relation (operator.Binary binary.Greater) o e (refl, refl)
sign_again level.Relation sign.GreaterEqual o e = again_at level.Relation (operator.Binary binary.GreaterOrEqual) o e (refl, refl)
sign_again level.Sum sign.Plus o e = again_at level.Sum (operator.Binary binary.Add) o e (refl, refl)
sign_again level.Sum sign.Minus o e = again_at level.Sum (operator.Binary binary.Subtract) o e (refl, refl)
sign_again level.Product sign.Star o e = again_at level.Product (operator.Binary binary.Multiply) o e (refl, refl)
sign_again level.Product sign.Slash o e = again_at level.Product (operator.Binary binary.Divide) o e (refl, refl)
sign_again level.Product sign.Percent o e = again_at level.Product (operator.Binary binary.Remainder) o e (refl, refl)
sign_again _ _ o e = absurd cc

keyword_again : (l : Level) (k : Keyword) (o : Operator) → operator_at l (token.Keyword k) ≡ Some o → Again l o
unfolding Again
keyword_again level.Relation keyword.In o e = again_at level.Relation (operator.Binary binary.In) o e (refl, refl)
keyword_again _ _ o e = absurd cc

operator_again : (l : Level) (x : Token) (o : Operator) → operator_at l x ≡ Some o → Again l o
operator_again l (token.Sign s) o e = sign_again l s o e
operator_again l (token.Keyword k) o e = keyword_again l k o e
operator_again level.Logic _ o e = absurd cc
operator_again level.Relation _ o e = absurd cc
operator_again level.Sum _ o e = absurd cc
operator_again level.Product _ o e = absurd cc

module _ {p : Parentheses} {g : Rules} {i : Bool} {e : Expr} where
  -- an expression in parentheses as a base
  pub compound : is_compound_base e ≡ true → IsScatter p g i e → IsSound e → (ends_in_scatter e ≡ false → (r : List Token) → IsPart g i (rank (part_of e)) (spell p e r) e r) → Whole p g i e
  compound b c s w = record {
    sound = s;
    good = λ n. record {
      bare = w n;
      base = λ d. rw b (Grammar.based (Grammar.grouped (whole_by p (w n) _)) d);
    };
    scatter = c;
  }

  -- an expression without parentheses as an operand and as a base
  pub atom : part_of e ≡ part.Plain → is_compound_base e ≡ false → IsScatter p g i e → IsSound e → (ends_in_scatter e ≡ false → (f : Expr) (us r : List Token) → Derives g (Grammar.suffixes i e) us f r → Derives g (Grammar.postfix i) (spell p e us) f r) → Whole p g i e
  atom h b c s q = record {
    sound = s;
    good = λ n. record {
      bare = λ r. rw h (Grammar.unsigned (q n _ _ _ Grammar.no_suffix));
      base = λ d. rw b (q n _ _ _ d);
    };
    scatter = c;
  }

pub minus_fits : (n : ℤ) → FitsSigned w32 n → FitsSigned w32 (int_wrapping_neg w32 n)
minus_fits n f = subst (FitsSigned w32) (sym (wrapping_neg_is w32 n f)) (SFits-int_wrap w32 (neg_ℤ n))

twice_by : (n : ℕ) → n < 2 ^ 31 → (suc n < 2 ^ 31) ⊎ (2 ^ 31 ≤ suc n) → int_wrapping_neg w32 (int_wrapping_neg w32 (negsuc n)) ≡ negsuc n
twice_by n h (inl l) =
    let f : FitsSigned w32 (negsuc n) = record { sfits = h } in
    let g : FitsSigned w32 (pos (suc n)) = record { sfits = l } in
    let one : int_wrapping_neg w32 (negsuc n) ≡ pos (suc n) = wrapping_neg_is w32 (negsuc n) f ∙ int_wrap_fits w32 (pos (suc n)) g in
    ap (int_wrapping_neg w32) one ∙ wrapping_neg_is w32 (pos (suc n)) g ∙ int_wrap_fits w32 (negsuc n) f
twice_by n h (inr g) =
    let e : n ≡ 2147483647 = omega arith in
    rw e refl

twice : (n : ℕ) → n < 2 ^ 31 → int_wrapping_neg w32 (int_wrapping_neg w32 (negsuc n)) ≡ negsuc n
twice n h = twice_by n h (cases_lt (suc n) (2 ^ 31))

-- an integer as an operand; a negative one is a minus and digits
integer_operand : (p : Parentheses) {g : Rules} {i : Bool} (z : ℤ) → FitsSigned w32 z → (r : List Token) → Derives g (Grammar.unary i) (spell p (Tree.literal (literal.Integer z)) r) (Tree.literal (literal.Integer z)) r
integer_operand p (pos n) f r = Grammar.unsigned (Grammar.based (Grammar.constant refl) Grammar.no_suffix)
integer_operand p {g} {i} (negsuc n) f r =
    subst (λ (z : ℤ). Derives g (Grammar.unary i) (token.Sign sign.Minus ∷ token.Integer (int_wrapping_neg w32 (negsuc n)) ∷ r) (Tree.literal (literal.Integer z)) r) (twice n f.sfits) (Grammar.negates (Grammar.unsigned (Grammar.based (Grammar.constant refl) Grammar.no_suffix)))

good_integer : {p : Parentheses} {g : Rules} {i : Bool} (z : ℤ) → FitsSigned w32 z → Whole p g i (Tree.literal (literal.Integer z))
good_integer {p} z f = compound refl tt f (λ n r. integer_operand p z f r)

pub good_negated : {p : Parentheses} {g : Rules} {i : Bool} (a : Expr) → Whole p g i a → Whole p g i (Grammar.negated a)
good_negated (Tree.literal (literal.Integer n)) w = good_integer _ (minus_fits n w.sound)
good_negated _ w = compound refl tt w.sound (λ n r. Grammar.negates (operand part.Sign (w.good n) r))

literal_is : {p : Parentheses} {g : Rules} {i : Bool} (l m : Literal) → Some l ≡ Some m → Whole p g i (Tree.literal l) → Whole p g i (Tree.literal m)
literal_is {p} {g} {i} l m e w = let q : l ≡ m = cc in subst (λ (x : Literal). Whole p g i (Tree.literal x)) q w

pub good_object : {p : Parentheses} {g : Rules} {i : Bool} (n : ℤ) → FitsSigned w32 n → Whole p g i (Tree.literal (literal.Object n))
good_object n f = atom refl refl tt f (λ _ _ _ _ q. Grammar.based (Grammar.constant refl) q)

pub good_text : {p : Parentheses} {g : Rules} {i : Bool} (s : List ℕ) → Whole p g i (text s)
good_text s = atom refl refl tt tt (λ _ _ _ _ q. Grammar.based (Grammar.constant refl) q)

pub good_literal : {p : Parentheses} {g : Rules} {i : Bool} (x : Token) (l : Literal) → literal_at x ≡ Some l → IsSoundToken x → Whole p g i (Tree.literal l)
good_literal (token.Integer n) l e f = literal_is (literal.Integer n) l e (good_integer n f)
good_literal (token.Object n) l e f = literal_is (literal.Object n) l e (good_object n f)
good_literal (token.Error c) l e f = literal_is (literal.Error c) l e (atom refl refl tt tt (λ _ _ _ _ q. Grammar.based (Grammar.constant refl) q))
good_literal (token.Str s) l e f = literal_is (literal.Str s) l e (good_text s)
good_literal _ l e f = absurd cc

-- an operator of a level, with its operands
joined_by : {p : Parentheses} {g : Rules} {i : Bool} {a b : Expr} (l : Level) (x : Token) (o : Operator) → operator_at l x ≡ Some o → Good p g i a → Good p g i b → (r : List Token) → IsPart g i (rank (level_part l)) (parens (needs p (left_of (level_part l)) a) (spell p a) (x ∷ parens (needs p (right_of (level_part l)) b) (spell p b) r)) (Grammar.joined o a b) r
joined_by l x o is a b r = at_level l (chain_then (left_chain l (operand (left_of (level_part l)) a _)) (Grammar.one_more is (right_operand l (operand (right_of (level_part l)) b r)) Grammar.no_more))

joined_as : {p : Parentheses} {g : Rules} {i : Bool} {a b : Expr} (v : Part) (l : Level) (x : Token) (o : Operator) → v ≡ level_part l → operator_at l x ≡ Some o → Good p g i a → Good p g i b → (r : List Token) → IsPart g i (rank v) (parens (needs p (left_of v) a) (spell p a) (x ∷ parens (needs p (right_of v) b) (spell p b) r)) (Grammar.joined o a b) r
joined_as {p} {g} {i} {a} {b} v l x o e is y z r = subst (λ (w : Part). IsPart g i (rank w) (parens (needs p (left_of w) a) (spell p a) (x ∷ parens (needs p (right_of w) b) (spell p b) r)) (Grammar.joined o a b) r) (sym e) (joined_by l x o is y z r)

pub good_joined : {p : Parentheses} {g : Rules} {i : Bool} {a b : Expr} (l : Level) (x : Token) (o : Operator) → operator_at l x ≡ Some o → Whole p g i a → ends_in_scatter a ≡ false → Whole p g i b → Whole p g i (Grammar.joined o a b)
unfolding Again
good_joined l x (operator.Binary o) is a m b = let again = operator_again l x (operator.Binary o) is in compound refl tt (a.sound, b.sound) (λ n r. joined_as (operator_part o) l (binary_token o) (operator.Binary o) again.1 again.0 (a.good m) (b.good n) r)
good_joined l x (operator.Logic o) is a m b = let again = operator_again l x (operator.Logic o) is in compound refl tt (a.sound, b.sound) (λ n r. joined_as part.Logic l (token.Sign (logic_mark o)) (operator.Logic o) again.1 again.0 (a.good m) (b.good n) r)

pub assigned : (g : Rules) (a : Expr) → g.targets ≡ true → may_assign g a ≡ true → is_target a ≡ true
assigned g a t is = rw t at is

-- the expression before `=`
pub good_target : {p : Parentheses} {g : Rules} {i : Bool} (a : Expr) → is_target a ≡ true → Whole p g i a → (r : List Token) → Derives g (Grammar.conditional i) (parens (is_compound a) (spell p a) (token.Sign sign.Assign ∷ r)) a (token.Sign sign.Assign ∷ r)
good_target {p} {g} {i} (Tree.list xs) is w r = looser g i (spell p (Tree.list xs) (token.Sign sign.Assign ∷ r)) (Tree.list xs) (token.Sign sign.Assign ∷ r) 1 8 (omega arith) (Grammar.unsigned (Grammar.based (w.scatter r) Grammar.no_suffix))
good_target {p} {g} {i} (Tree.variable s) is w r = looser g i (spell p (Tree.variable s) (token.Sign sign.Assign ∷ r)) (Tree.variable s) (token.Sign sign.Assign ∷ r) 1 8 (omega arith) ((w.good refl).bare _)
good_target {p} {g} {i} (Tree.property a b) is w r = looser g i (spell p (Tree.property a b) (token.Sign sign.Assign ∷ r)) (Tree.property a b) (token.Sign sign.Assign ∷ r) 1 8 (omega arith) ((w.good refl).bare _)
good_target {p} {g} {i} (Tree.index a b) is w r = looser g i (spell p (Tree.index a b) (token.Sign sign.Assign ∷ r)) (Tree.index a b) (token.Sign sign.Assign ∷ r) 1 8 (omega arith) ((w.good refl).bare _)
good_target {p} {g} {i} (Tree.range a b c) is w r = looser g i (spell p (Tree.range a b c) (token.Sign sign.Assign ∷ r)) (Tree.range a b c) (token.Sign sign.Assign ∷ r) 1 8 (omega arith) ((w.good refl).bare _)
good_target _ is w r = absurd cc

module _ {p : Parentheses} {g : Rules} {i : Bool} {a b : Expr} {f : Expr} {us r : List Token} where
  property_by : (s : Option (List ℕ)) → constant_name b ≡ s → (system : Bool) → is_system_object a ≡ system → Good p g i a → Good p g i b → Derives g (Grammar.suffixes i (Tree.property a b)) us f r → Derives g (Grammar.postfix i) (selected sign.Dot s system (λ ts. parens (is_compound_base a) (spell p a) ts) (spell p b) us) f r
  property_by (Some s) is true system x y q =
      Grammar.based Grammar.system_property (subst (λ (e : Expr). Derives g (Grammar.suffixes i e) us f r) (ap (λ v. Tree.property v b) (system_is a system) ∙ ap (λ v. Tree.property system_object v) (constant_is b s is).is) q)
  property_by (Some s) is false system x y q =
      x.base (Grammar.property_named (subst (λ (e : Expr). Derives g (Grammar.suffixes i (Tree.property a e)) us f r) (constant_is b s is).is q))
  property_by None is system same x y q = x.base (Grammar.property_computed (whole y _) q)

  verb_by : {xs : Items} (s : Option (List ℕ)) → constant_name b ≡ s → (system : Bool) → is_system_object a ≡ system → Good p g i a → Good p g i b → ((ts : List Token) → Derives g (Grammar.arguments i false) (spell_items p xs ts) xs ts) → Derives g (Grammar.suffixes i (Tree.verb_call a b xs)) us f r → Derives g (Grammar.postfix i) (selected sign.Colon s system (λ ts. parens (is_compound_base a) (spell p a) ts) (spell p b) (token.Sign sign.LeftParen ∷ spell_items p xs (token.Sign sign.RightParen ∷ us))) f r
  verb_by {xs} (Some s) is true system x y z q =
      Grammar.based (Grammar.system_verb (z _)) (subst (λ (e : Expr). Derives g (Grammar.suffixes i e) us f r) (ap (λ v. Tree.verb_call v b xs) (system_is a system) ∙ ap (λ v. Tree.verb_call system_object v xs) (constant_is b s is).is) q)
  verb_by {xs} (Some s) is false system x y z q =
      x.base (Grammar.verb_named (z _) (subst (λ (e : Expr). Derives g (Grammar.suffixes i (Tree.verb_call a e xs)) us f r) (constant_is b s is).is q))
  verb_by None is system same x y z q = x.base (Grammar.verb_computed (whole y _) (z _) q)

module _ {p : Parentheses} {g : Rules} {i : Bool} {a b : Expr} where
  pub good_property : Whole p g i a → ends_in_scatter a ≡ false → Whole p g i b → ends_in_scatter b ≡ false → Whole p g i (Tree.property a b)
  good_property x m y n = atom refl refl tt (x.sound, y.sound) (λ _ _ _ _ q. property_by (constant_name b) refl (is_system_object a) refl (x.good m) (y.good n) q)

  pub good_verb : {xs : Items} → Whole p g i a → ends_in_scatter a ≡ false → Whole p g i b → ends_in_scatter b ≡ false → GoodArguments p g i false xs → some_scatter xs ≡ false → Whole p g i (Tree.verb_call a b xs)
  good_verb x m y n z o = atom refl refl tt (x.sound, y.sound, z.sound) (λ _ _ _ _ q. verb_by (constant_name b) refl (is_system_object a) refl (x.good m) (y.good n) (z.arguments o) q)

pub good_list : {p : Parentheses} {g : Rules} {i : Bool} {xs : Items} → GoodArguments p g i true xs → some_scatter xs ≡ false → Whole p g i (Tree.list xs)
good_list x n = atom refl refl (λ r. Grammar.scattered (x.arguments n _)) x.sound (λ m _ _ _ q. Grammar.based (Grammar.listed m (x.arguments n _)) q)

pub comma : {g : Rules} {i o : Bool} {ts r : List Token} {xs : Items} → Derives g (Grammar.members i o) ts xs r → (us : List Token) → further xs us ≡ token.Sign sign.Comma ∷ us
comma (Grammar.one_element d) us = refl
comma (Grammar.an_element c d) us = refl
comma (Grammar.one_splice d) us = refl
comma (Grammar.a_splice c d) us = refl
comma Grammar.one_optional us = refl
comma (Grammar.an_optional d) us = refl
comma (Grammar.one_default d) us = refl
comma (Grammar.a_default c d) us = refl
