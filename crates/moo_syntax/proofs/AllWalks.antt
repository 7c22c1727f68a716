-- Every phrase of the grammar leaves the ground as it is known to, and a rule stops it at a place where it isn't kept.
use Rattle.std.proofs.Common.{ℕ, List, [], ◌∷◌, ◌≡◌, refl, sym, ◌∙◌, ap, subst, Bool, true, false, Option, Some, None, is_some, pos, if◌then◌else◌}
use Rattle.moo_syntax_token.specs.declared.sign.Sign.TheVariants as sign
use Rattle.moo_syntax_token.specs.declared.keyword.Keyword.{Keyword}
use Rattle.moo_syntax_token.specs.declared.keyword.Keyword.TheVariants as keyword
use Rattle.moo_syntax_token.specs.declared.token.Token.{Token}
use Rattle.moo_syntax_token.specs.declared.token.Token.TheVariants as token
use Rattle.moo_syntax_ast.specs.declared.operator.BinaryOperator.TheVariants.{Power}
use Rattle.moo_syntax_ast.specs.declared.tree.Literal.{Literal}
use Rattle.moo_syntax_ast.specs.declared.tree.Literal.TheVariants as literal
use Rattle.moo_syntax_ast.specs.Tree as tree
use Rattle.moo_syntax_ast.specs.Tree.{Expr, Items, Stmt, breaks, continues}
use Rattle.moo_syntax_grammar.specs.declared.level.Level.{Level}
use Rattle.moo_syntax_grammar.specs.declared.level.Level.TheVariants.{Logic, Relation, Sum, Product}
use Rattle.moo_syntax_grammar.specs.declared.level.Operator.{Operator}
use Rattle.moo_syntax_grammar.specs.declared.level.Operator.TheVariants as operator
use Rattle.moo_syntax_grammar.specs.Rules.{Rules, may_assign, may_jump}
use Rattle.moo_syntax_grammar.specs.Tokens.{is_keyword, name_at, literal_at, operator_at, next_passes}
use Rattle.moo_syntax_grammar.specs.Grammar
use Rattle.moo_syntax_grammar.specs.Grammar.{Sort, Of, Kind, Derives, sort, has_optional, joined, text, system_object}
use Rattle.moo_syntax_grammar.specs.Machine.{Reading, give, phrase, Reads, gives, takes, sees, misses, reads, by_rule, Fails, forbids, takes_fails, sees_fails, misses_fails, phrase_fails, then_fails}
use Rattle.moo_syntax_grammar.specs.Predictive.{grammar, mark, after_brace, after_member, named, verb_arguments, after_in, if_sign, expect, expect_keyword, loop_at, jump}
use Rattle.moo_syntax_grammar.proofs.Derived.{derived}
use Rattle.moo_syntax_grammar.proofs.Leads.{keyword_is}
use Rattle.moo_syntax.specs.Places.{is_jump}
use Rattle.moo_syntax.specs.Ground.{Ground, Naming, of_value, of_member, of_loop, naming_after, named_loops, loops_after, outer}
use Rattle.moo_syntax.proofs.Walks.{Place, ground, IsFree, after, labelled, Wrong, at_target, at_call, at_jump, at_label, Enters, Leaves, Walks, Walk, gives_walk, refuses_walk, phrase_walk, peek_walk, allowed_walk, taken_walk, sign_walk, expect_walk, keyword_taken_walk, keyword_walk, needed_walk, option_walk, name_walk}

loops_of : {g h : Ground} → g ≡ h → g.loops ≡ h.loops
loops_of is = ap (λ v. v.loops) is

naming_of : {g h : Ground} → g ≡ h → g.naming ≡ h.naming
naming_of is = ap (λ v. v.naming) is

literal_kept : (h : Ground) (x : Token) (l : Literal) → literal_at x ≡ Some l → loops_after h x ≡ h.loops
literal_kept h (token.Integer n) l e = refl
literal_kept h (token.Object n) l e = refl
literal_kept h (token.Error n) l e = refl
literal_kept h (token.Str n) l e = refl
literal_kept h _ l e = absurd cc

operator_kept : (h : Ground) (l : Level) (x : Token) (o : Operator) → operator_at l x ≡ Some o → loops_after h x ≡ h.loops
operator_kept h l (token.Sign s) o e = refl
operator_kept h Relation (token.Keyword keyword.In) o e = refl
operator_kept h _ _ o e = absurd cc

operator_frees : (l : Level) (x : Token) (o : Operator) → operator_at l x ≡ Some o → naming_after x ≡ of_value
operator_frees Logic (token.Sign sign.Dot) o e = absurd cc
operator_frees Logic (token.Sign sign.Colon) o e = absurd cc
operator_frees Logic (token.Sign sign.Dollar) o e = absurd cc
operator_frees Relation (token.Sign sign.Dot) o e = absurd cc
operator_frees Relation (token.Sign sign.Colon) o e = absurd cc
operator_frees Relation (token.Sign sign.Dollar) o e = absurd cc
operator_frees Sum (token.Sign sign.Dot) o e = absurd cc
operator_frees Sum (token.Sign sign.Colon) o e = absurd cc
operator_frees Sum (token.Sign sign.Dollar) o e = absurd cc
operator_frees Product (token.Sign sign.Dot) o e = absurd cc
operator_frees Product (token.Sign sign.Colon) o e = absurd cc
operator_frees Product (token.Sign sign.Dollar) o e = absurd cc
operator_frees l (token.Sign s) o e = refl
operator_frees Relation (token.Keyword keyword.In) o e = refl
operator_frees _ _ o e = absurd cc

-- a name that is no loop's
value_kept : {n : Naming} (x : List ℕ) (ls : List (Option (List ℕ))) → n ≡ of_value → named_loops n x ls ≡ ls
value_kept x ls is = rw is refl

member_kept : {n : Naming} (x : List ℕ) (ls : List (Option (List ℕ))) → n ≡ of_member → named_loops n x ls ≡ ls
member_kept x ls is = rw is refl

-- a loop's name
loop_named : {n : Naming} {ms : List (Option (List ℕ))} (x : List ℕ) (ls : List (Option (List ℕ))) → n ≡ of_loop → ms ≡ None ∷ ls → named_loops n x ms ≡ Some x ∷ ls
loop_named x ls is e = rw (is, e) refl

label_of_loop : {g h : Ground} (l : Option (List ℕ)) (ls : List (Option (List ℕ))) → h ≡ labelled g l → g.naming ≡ of_loop → g.loops ≡ None ∷ ls → h.loops ≡ l ∷ ls
label_of_loop None ls is n e = loops_of is ∙ e
label_of_loop (Some x) ls is n e = loops_of is ∙ loop_named x ls n e

label_of_handler : {g h : Ground} (l : Option (List ℕ)) → h ≡ labelled g l → g.naming ≡ of_member → h.loops ≡ g.loops
label_of_handler None is n = loops_of is
label_of_handler {g} (Some x) is n = loops_of is ∙ member_kept x g.loops n

mark_walk : {g : Rules} {all : List Token} (i : Bool) {q : Expr → Place all → Type 0} {p : Place all} → ((e : Expr) → q e p) → Walk g all Sort.expr (mark i) q p
mark_walk true m = gives_walk (m tree.length_mark)
mark_walk false m = refuses_walk

brace_walk : {g : Rules} {all : List Token} (b : Bool) (e : Expr) {q : Expr → Place all → Type 0} {p : Place all} → q e p → Walk g all Sort.expr (after_brace b e) q p
brace_walk true e m = peek_walk (λ h. gives_walk m) (λ h. refuses_walk)
brace_walk false e m = gives_walk m

-- after a member
member_walk : {g : Rules} {all : List Token} (i o : Bool) (f : Items → Items) {ls : List (Option (List ℕ))} {p : Place all} → (ground p).loops ≡ ls → Walk g all Sort.items (after_member i o f) (λ e n. (ground n).loops ≡ ls) p
member_walk i o f l = sign_walk sign.Comma (λ a m n. phrase_walk m (λ xs b d k. gives_walk (k ∙ n ∙ l))) (gives_walk l)

-- the name that a jump may name here
loop_name : (g : Rules) (ls : List (Option (List ℕ))) (h : Ground) (t : Token) (x : List ℕ) → loop_at g ls t ≡ Some x → h.naming ≡ of_value → loops_after h t ≡ h.loops
loop_name g ls h (token.Name y) x e f = value_kept y h.loops f
loop_name g ls h _ x e f = absurd cc

not_some : (b : Bool) (x : List ℕ) → is_some (if b then Some x else None) ≡ false → b ≡ false
not_some true x h = absurd cc
not_some false x h = refl

-- a name that comes next, and that no loop has
label_next : (g : Rules) (ls : List (Option (List ℕ))) (ts : List Token) → next_passes (λ x. is_some (name_at x)) ts ≡ true → next_passes (λ x. is_some (loop_at g ls x)) ts ≡ false → (s : List ℕ) × (r : List Token) × (ts ≡ token.Name s ∷ r) × (may_jump g ls (Some s) ≡ false)
label_next g ls [] h n = absurd cc
label_next g ls (token.Name s ∷ r) h n = (s, r, refl, not_some (may_jump g ls (Some s)) s n)
label_next g ls (_ ∷ r) h n = absurd cc

keyword_jumps : (k : Keyword) (ts : List Token) → is_jump (token.Keyword k) ≡ true → next_passes (is_keyword k) ts ≡ true → next_passes is_jump ts ≡ true
keyword_jumps k [] j h = absurd cc
keyword_jumps k (x ∷ ts) j h = subst (λ v. is_jump v ≡ true) (sym (keyword_is k x h)) j

jump_walk : {g : Rules} {all : List Token} (ls : List (Option (List ℕ))) (k : Keyword) (f : Option (List ℕ) → Stmt) {q : Reading Sort.stmt} {p : Place all} → is_jump (token.Keyword k) ≡ true → naming_after (token.Keyword k) ≡ of_value → loops_after (ground p) (token.Keyword k) ≡ (ground p).loops → (ground p).loops ≡ ls → Walk g all Sort.stmt q (λ e n. IsFree (ground n) × ((ground n).loops ≡ (ground p).loops)) p → Walk g all Sort.stmt (jump g ls k f q) (λ e n. IsFree (ground n) × ((ground n).loops ≡ (ground p).loops)) p
jump_walk {g} ls k f {p = p} j free kept s o = peek_walk (λ seen. allowed_walk (may_jump g ls None)
    (λ is. keyword_taken_walk k seen (λ a t e.
    let at : (ground a).loops ≡ (ground p).loops = loops_of e ∙ kept in
    option_walk {f = loop_at g ls} [] {a = λ x. expect sign.Semicolon (give (f (Some x)))}
    (λ y x is b u i. expect_walk sign.Semicolon (λ c m n. gives_walk (m, n ∙ loops_of i ∙ loop_name g ls (ground a) y x is (naming_of e ∙ free) ∙ at)))
    (λ no. peek_walk
    (λ named. let l = label_next g ls a.rest named no in record { walk = at_label p (token.Keyword k) l.0 l.1 j t l.2 (subst (λ v. may_jump g v (Some l.0) ≡ false) (sym (at ∙ s)) l.3) })
    (λ h. expect_walk sign.Semicolon (λ c m n. gives_walk (m, n ∙ at))))))
    (λ no. at_jump (keyword_jumps k p.rest j seen) (subst (λ v. may_jump g v None ≡ false) (sym s) no))) (λ h. o)

all_walk : (g : Rules) (all : List Token) (k : Kind) (p : Place all) → Enters k (ground p) → Walk g all (sort k) (grammar g k) (λ e n. Leaves k (ground p) e (ground n)) p
unfolding grammar
all_walk g all (Grammar.expression i) p f = phrase_walk f (λ a n d l. peek_walk
    (λ h. allowed_walk (may_assign g a) (λ is. taken_walk sign.Assign h (λ b m k. phrase_walk m (λ v c e j. gives_walk (j ∙ k ∙ l)))) (λ no. at_target p i a f d no))
    (λ h. gives_walk l))
all_walk g all (Grammar.conditional i) p f = phrase_walk f (λ a n d l. sign_walk sign.Question (λ b m k. phrase_walk m (λ v c e j. expect_walk sign.Pipe (λ u w x. phrase_walk w (λ y z t o. gives_walk (o ∙ x ∙ j ∙ k ∙ l))))) (gives_walk l))
all_walk g all (Grammar.chain i l) p f = phrase_walk f (λ a n d k. phrase_walk tt (λ e b c j. gives_walk (j ∙ k)))
all_walk g all (Grammar.more i l a) p f = option_walk {f = operator_at l} (operator.Binary Power) {a = λ o. phrase (Grammar.operand i l) λ b. phrase (Grammar.more i l (joined o a b)) λ e. give e} (λ x o is n t e. phrase_walk (naming_of e ∙ operator_frees l x o is) (λ b c d k. phrase_walk tt (λ v u w j. gives_walk (j ∙ k ∙ loops_of e ∙ operator_kept (ground p) l x o is)))) (λ h. gives_walk refl)
all_walk g all (Grammar.operand i Logic) p f = phrase_walk f (λ a n d l. gives_walk l)
all_walk g all (Grammar.operand i Relation) p f = phrase_walk f (λ a n d l. gives_walk l)
all_walk g all (Grammar.operand i Sum) p f = phrase_walk f (λ a n d l. gives_walk l)
all_walk g all (Grammar.operand i Product) p f = phrase_walk f (λ a n d l. gives_walk l)
all_walk g all (Grammar.power i) p f = phrase_walk f (λ a n d l. sign_walk sign.Caret (λ b m k. phrase_walk m (λ v c e j. gives_walk (j ∙ k ∙ l))) (gives_walk l))
all_walk g all (Grammar.unary i) p f =
    sign_walk sign.Bang (λ b m k. phrase_walk m (λ a n d l. gives_walk (l ∙ k)))
    (sign_walk sign.Minus (λ b m k. phrase_walk m (λ a n d l. gives_walk (l ∙ k)))
    (phrase_walk f (λ a n d l. gives_walk l)))
all_walk g all (Grammar.postfix i) p f = phrase_walk f (λ a n d l. phrase_walk tt (λ e b c j. gives_walk (j ∙ l)))
all_walk g all (Grammar.suffixes i a) p f =
    sign_walk sign.Dot (λ b m k.
    name_walk {a = λ x. phrase (Grammar.suffixes i (tree.property a (text x))) λ e. give e} (λ x n t e. phrase_walk tt (λ v c d j. gives_walk (j ∙ loops_of e ∙ member_kept x (ground b).loops m ∙ k)))
    (expect_walk sign.LeftParen (λ n u v. phrase_walk u (λ y c d j. expect_walk sign.RightParen (λ w x z. phrase_walk tt (λ e t s o. gives_walk (o ∙ z ∙ j ∙ v ∙ k)))))))
    (sign_walk sign.Colon (λ b m k.
    name_walk {a = λ x. verb_arguments i a (text x)} (λ x n t e. expect_walk sign.LeftParen (λ c u v. phrase_walk u (λ xs y d j. expect_walk sign.RightParen (λ w z o. phrase_walk tt (λ q r s l. gives_walk (l ∙ o ∙ j ∙ v ∙ loops_of e ∙ member_kept x (ground b).loops m ∙ k))))))
    (expect_walk sign.LeftParen (λ n u v. phrase_walk u (λ y c d j. expect_walk sign.RightParen (λ w x z. expect_walk sign.LeftParen (λ e t s. phrase_walk t (λ xs q r l. expect_walk sign.RightParen (λ o ο ω. phrase_walk tt (λ α β γ δ. gives_walk (δ ∙ ω ∙ l ∙ s ∙ z ∙ j ∙ v ∙ k))))))))))
    (sign_walk sign.LeftBracket (λ b m k.
    phrase_walk m (λ y c d j. sign_walk sign.DotDot
    (λ n u v. phrase_walk u (λ w x z l. expect_walk sign.RightBracket (λ e t s. phrase_walk tt (λ q r o α. gives_walk (α ∙ s ∙ l ∙ v ∙ j ∙ k)))))
    (expect_walk sign.RightBracket (λ e t s. phrase_walk tt (λ q r o α. gives_walk (α ∙ s ∙ j ∙ k))))))
    (gives_walk refl)))
all_walk g all (Grammar.primary i) p f =
    option_walk {f = literal_at} (literal.Integer (pos 0)) {a = λ l. give (tree.literal l)} (λ x l is n t e. gives_walk (loops_of e ∙ literal_kept (ground p) x l is))
    (λ h. name_walk {a = named g i} (λ x n t e.
    let kept : (ground n).loops ≡ (ground p).loops = loops_of e ∙ value_kept x (ground p).loops f in
    peek_walk
    (λ seen. allowed_walk (g.functions x) (λ is. taken_walk sign.LeftParen seen (λ b m k. phrase_walk m (λ xs c d j. expect_walk sign.RightParen (λ u v w. gives_walk (w ∙ j ∙ k ∙ kept))))) (λ no. at_call p x f t no))
    (λ no. gives_walk kept))
    (sign_walk sign.LeftParen (λ b m k. phrase_walk m (λ a n d l. expect_walk sign.RightParen (λ u v w. gives_walk (w ∙ l ∙ k))))
    (sign_walk sign.LeftBrace (λ b m k. phrase_walk m (λ xs n d l. expect_walk sign.RightBrace (λ u v w. brace_walk (has_optional xs) _ (w ∙ l ∙ k))))
    (sign_walk sign.Dollar (λ b m k.
    name_walk {a = λ x. if_sign sign.LeftParen (phrase (Grammar.arguments i false) λ xs. expect sign.RightParen (give (tree.verb_call system_object (text x) xs))) (give (tree.property system_object (text x)))} (λ x n t e.
    let kept : (ground n).loops ≡ (ground p).loops = loops_of e ∙ member_kept x (ground b).loops m ∙ k in
    sign_walk sign.LeftParen (λ c u v. phrase_walk u (λ xs w d l. expect_walk sign.RightParen (λ y z o. gives_walk (o ∙ l ∙ v ∙ kept)))) (gives_walk kept))
    (mark_walk i (λ e. k)))
    (expect_walk sign.Backquote (λ b m k. phrase_walk m (λ a n d l. expect_walk sign.Bang (λ c u v. phrase_walk u (λ y w e j. sign_walk sign.Arrow
    (λ x z o. phrase_walk z (λ α β γ δ. expect_walk sign.Quote (λ q r s. gives_walk (s ∙ δ ∙ o ∙ j ∙ v ∙ l ∙ k))))
    (expect_walk sign.Quote (λ q r s. gives_walk (s ∙ j ∙ v ∙ l ∙ k))))))))))))
all_walk g all (Grammar.codes i) p f = keyword_walk keyword.Any (λ n m k. gives_walk k) (phrase_walk f (λ xs n d l. gives_walk l))
all_walk g all (Grammar.arguments i o) p f = peek_walk (λ h. gives_walk refl) (λ h. phrase_walk f (λ xs n d l. gives_walk l))
all_walk g all (Grammar.members i true) p f =
    sign_walk sign.At (λ b m k. phrase_walk m (λ a n d l. member_walk i true _ (l ∙ k)))
    (sign_walk sign.Question (λ b m k. name_walk {a = λ x. if_sign sign.Assign (phrase (Grammar.expression i) λ a. after_member i true (tree.defaulted x a)) (after_member i true (tree.optional x))} (λ x n t e.
    let kept : (ground n).loops ≡ (ground p).loops = loops_of e ∙ value_kept x (ground b).loops m ∙ k in
    sign_walk sign.Assign (λ c u v. phrase_walk u (λ a w d l. member_walk i true _ (l ∙ v ∙ kept))) (member_walk i true _ kept)) refuses_walk)
    (phrase_walk f (λ a n d l. member_walk i true _ l)))
all_walk g all (Grammar.members i false) p f =
    sign_walk sign.At (λ b m k. phrase_walk m (λ a n d l. member_walk i false _ (l ∙ k)))
    (phrase_walk f (λ a n d l. member_walk i false _ l))
all_walk g all (Grammar.statement ls) p f =
    keyword_walk keyword.If (λ b m k. phrase_walk tt (λ a n d l. phrase_walk (l.0, l.1 ∙ k ∙ f.1) (λ v c e j. phrase_walk (j.0, j.1 ∙ l.1 ∙ k ∙ f.1) (λ w u x y. needed_walk keyword.EndIf (λ z s t. gives_walk (s, t ∙ y.1 ∙ j.1 ∙ l.1 ∙ k))))))
    (keyword_walk keyword.For (λ b m k. name_walk {a = λ x. expect_keyword keyword.In (after_in ls x)} (λ x n t e. needed_walk keyword.In (λ c u v.
    let named : (ground c).loops ≡ Some x ∷ (ground p).loops = v ∙ loops_of e ∙ loop_named x (ground p).loops m k in
    sign_walk sign.LeftBracket (λ w y z. phrase_walk y (λ a d o l. expect_walk sign.DotDot (λ q r s. phrase_walk r (λ α β γ δ. expect_walk sign.RightBracket (λ ε ζ η.
    let round : (ground ε).loops ≡ Some x ∷ (ground p).loops = η ∙ δ ∙ s ∙ l ∙ z ∙ named in
    phrase_walk {k = Grammar.statements (Some x ∷ ls)} (ζ, round ∙ ap (λ v. Some x ∷ v) f.1) (λ θ ι κ μ. needed_walk keyword.EndFor (λ ν ξ ο. gives_walk (ξ, ο ∙ ap outer (μ.1 ∙ round)))))))))
    (phrase_walk {k = Grammar.in_parens} tt (λ a d o l.
    let round : (ground d).loops ≡ Some x ∷ (ground p).loops = l.1 ∙ named in
    phrase_walk {k = Grammar.statements (Some x ∷ ls)} (l.0, round ∙ ap (λ v. Some x ∷ v) f.1) (λ θ ι κ μ. needed_walk keyword.EndFor (λ ν ξ ο. gives_walk (ξ, ο ∙ ap outer (μ.1 ∙ round)))))))) refuses_walk)
    (keyword_walk keyword.While (λ b m k. phrase_walk {k = Grammar.label} tt (λ x n d e. phrase_walk {k = Grammar.in_parens} tt (λ a c o l.
    let round : (ground c).loops ≡ x ∷ (ground p).loops = l.1 ∙ label_of_loop x (ground p).loops e m k in
    phrase_walk {k = Grammar.statements (x ∷ ls)} (l.0, round ∙ ap (λ v. x ∷ v) f.1) (λ θ ι κ μ. needed_walk keyword.EndWhile (λ ν ξ ο. gives_walk (ξ, ο ∙ ap outer (μ.1 ∙ round)))))))
    (jump_walk ls keyword.Break breaks refl refl refl f.1
    (jump_walk ls keyword.Continue continues refl refl refl f.1
    (keyword_walk keyword.Return (λ b m k. sign_walk sign.Semicolon (λ n u v. gives_walk (u, v ∙ k)) (phrase_walk m (λ a n d l. expect_walk sign.Semicolon (λ c u v. gives_walk (u, v ∙ l ∙ k)))))
    (keyword_walk keyword.Try (λ b m k. phrase_walk (m, k ∙ f.1) (λ a n d l. keyword_walk keyword.Finally
    (λ c u v. phrase_walk (u, v ∙ l.1 ∙ k ∙ f.1) (λ w x y z. needed_walk keyword.EndTry (λ q r s. gives_walk (r, s ∙ z.1 ∙ v ∙ l.1 ∙ k))))
    (phrase_walk (l.0, l.1 ∙ k ∙ f.1) (λ w x y z. needed_walk keyword.EndTry (λ q r s. gives_walk (r, s ∙ z.1 ∙ l.1 ∙ k))))))
    (phrase_walk f.0 (λ a n d l. expect_walk sign.Semicolon (λ c u v. gives_walk (u, v ∙ l))))))))))
all_walk g all (Grammar.statements ls) p f = peek_walk
    (λ h. sign_walk sign.Semicolon (λ b m k. phrase_walk (m, k ∙ f.1) (λ ss n d l. gives_walk (l.0, l.1 ∙ k))) (phrase_walk f (λ s n d l. phrase_walk (l.0, l.1 ∙ f.1) (λ ss b c j. gives_walk (j.0, j.1 ∙ l.1)))))
    (λ h. gives_walk (f.0, refl))
all_walk g all (Grammar.arms ls) p f =
    keyword_walk keyword.ElseIf (λ b m k. phrase_walk tt (λ a n d l. phrase_walk (l.0, l.1 ∙ k ∙ f.1) (λ v c e j. phrase_walk (j.0, j.1 ∙ l.1 ∙ k ∙ f.1) (λ w u x y. gives_walk (y.0, y.1 ∙ j.1 ∙ l.1 ∙ k)))))
    (keyword_walk keyword.Else (λ b m k. phrase_walk (m, k ∙ f.1) (λ a n d l. gives_walk (l.0, l.1 ∙ k))) (gives_walk (f.0, refl)))
all_walk g all (Grammar.handlers ls) p f = needed_walk keyword.Except (λ b m k. phrase_walk tt (λ x n d e. expect_walk sign.LeftParen (λ c u v. phrase_walk u (λ a w o l. expect_walk sign.RightParen (λ q r s.
    let same : (ground q).loops ≡ (ground p).loops = s ∙ l ∙ v ∙ label_of_handler x e m ∙ k in
    phrase_walk {k = Grammar.statements ls} (r, same ∙ f.1) (λ y z t j. peek_walk
    (λ h. phrase_walk (j.0, j.1 ∙ same ∙ f.1) (λ α β γ δ. gives_walk (δ.0, δ.1 ∙ j.1 ∙ same)))
    (λ h. gives_walk (j.0, j.1 ∙ same))))))))
all_walk g all Grammar.in_parens p f = expect_walk sign.LeftParen (λ b m k. phrase_walk m (λ a n d l. expect_walk sign.RightParen (λ u v w. gives_walk (v, w ∙ l ∙ k))))
all_walk g all Grammar.label p f = name_walk {a = λ x. give (Some x)} (λ x n t e. gives_walk e) (gives_walk refl)

passed : (f : Token → Bool) (b : Bool) {ts us : List Token} → ts ≡ us → next_passes f us ≡ b → next_passes f ts ≡ b
passed f b is h = subst (λ v. next_passes f v ≡ b) (sym is) h

between : {g : Rules} {k : Kind} {ts us m n : List Token} {a : Of (sort k)} → ts ≡ us → n ≡ m → Derives g k us a m → Derives g k ts a n
between {g} {k} {ts} {m = m} {a = a} i j d = subst (λ v. Derives g k ts a v) (sym j) (subst (λ v. Derives g k v a m) (sym i) d)

reads_walk : (g : Rules) (all : List Token) {s : Sort} {f : Reading s} {ts r : List Token} {e : Of s} (q : Of s → Place all → Type 0) → Reads (grammar g) s f ts e r → (p : Place all) → p.rest ≡ ts → Walks g all s f q p → (n : Place all) × (n.rest ≡ r) × q e n
reads_walk g all q gives p i w = (p, i, w)
reads_walk g all q (takes {x = x} {ts = ts} d) p i w = reads_walk g all q d (after p x ts i) refl (w x ts i)
reads_walk g all q (sees {f = f} h d) p i w = reads_walk g all q d p i (w.0 (passed f true i h))
reads_walk g all q (misses {f = f} h d) p i w = reads_walk g all q d p i (w.1 (passed f false i h))
reads_walk g all q (reads {k = k} {a = a} c d) p i w =
    let n = reads_walk g all (λ e n. Leaves k (ground p) e (ground n)) c p i (all_walk g all k p w.0).walk in
    reads_walk g all q d n.0 n.1 (w.1 a n.0 (between i n.1 (derived c)) n.2)

-- where a rule stops the reading, it isn't kept
pub fails_walk : (g : Rules) (all : List Token) {s : Sort} {f : Reading s} {ts r : List Token} (q : Of s → Place all → Type 0) → Fails (grammar g) by_rule s f ts r → (p : Place all) → p.rest ≡ ts → Walks g all s f q p → (n : Place all) × (n.rest ≡ r) × Wrong g all n
fails_walk g all q forbids p i w = (p, i, w)
fails_walk g all q (takes_fails {x = x} {ts = ts} d) p i w = fails_walk g all q d (after p x ts i) refl (w x ts i)
fails_walk g all q (sees_fails {f = f} h d) p i w = fails_walk g all q d p i (w.0 (passed f true i h))
fails_walk g all q (misses_fails {f = f} h d) p i w = fails_walk g all q d p i (w.1 (passed f false i h))
fails_walk g all q (phrase_fails {k = k} d) p i w = fails_walk g all (λ e n. Leaves k (ground p) e (ground n)) d p i (all_walk g all k p w.0).walk
fails_walk g all q (then_fails {k = k} {a = a} c d) p i w =
    let n = reads_walk g all (λ e n. Leaves k (ground p) e (ground n)) c p i (all_walk g all k p w.0).walk in
    fails_walk g all q d n.0 n.1 (w.1 a n.0 (between i n.1 (derived c)) n.2)

-- the place where a rule stops a program
pub rule_stops : (g : Rules) (all r : List Token) → Fails (grammar g) by_rule Sort.block (grammar g (Grammar.statements [])) all r → (n : Place all) × (n.rest ≡ r) × Wrong g all n
rule_stops g all r d =
    let p : Place all = record { front = []; rest = all; whole = refl } in
    fails_walk g all (λ e n. Leaves (Grammar.statements []) (ground p) e (ground n)) d p refl (all_walk g all (Grammar.statements []) p (refl, refl)).walk
