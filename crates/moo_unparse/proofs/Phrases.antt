-- The parts of the grammar of expressions, each of which is one of the looser ones too.
use Rattle.std.proofs.Common.{ℕ, zero, suc, ◌+◌, ◌-◌, ◌≤◌, List, ◌≡◌, subst, Bool, false, arith}
use Rattle.std.proofs.lemmas.Bool.Decides.{nat_tests}
use Rattle.moo_syntax_token.specs.declared.token.Token.{Token}
use Rattle.moo_syntax_ast.specs.Tree
use Rattle.moo_syntax_ast.specs.Tree.{Expr}
use Rattle.moo_syntax_ast.specs.Listing.{is_compound}
use Rattle.moo_syntax_grammar.specs.declared.level.Level.{Level}
use Rattle.moo_syntax_grammar.specs.declared.level.Level.TheVariants as level
use Rattle.moo_syntax_grammar.specs.Rules.{Rules}
use Rattle.moo_syntax_grammar.specs.Grammar
use Rattle.moo_syntax_grammar.specs.Grammar.{Derives}
use Rattle.moo_unparse.specs.declared.form.Parentheses.{Parentheses}
use Rattle.moo_unparse.specs.declared.form.Parentheses.TheVariants.{All, Needed}
use Rattle.moo_unparse.specs.declared.form.Part.{Part}
use Rattle.moo_unparse.specs.declared.form.Part.TheVariants as part
use Rattle.moo_unparse.specs.Parts.{rank, part_of, left_of, right_of, needs}

-- a phrase of the part of this rank; from a sign on, an operand
abbrev pub IsPart : Rules → Bool → ℕ → List Token → Expr → List Token → Type 0
IsPart g i zero ts e r = Derives g (Grammar.expression i) ts e r
IsPart g i (suc zero) ts e r = Derives g (Grammar.conditional i) ts e r
IsPart g i (suc (suc zero)) ts e r = Derives g (Grammar.chain i level.Logic) ts e r
IsPart g i (suc (suc (suc zero))) ts e r = Derives g (Grammar.chain i level.Relation) ts e r
IsPart g i (suc (suc (suc (suc zero)))) ts e r = Derives g (Grammar.chain i level.Sum) ts e r
IsPart g i (suc (suc (suc (suc (suc zero))))) ts e r = Derives g (Grammar.chain i level.Product) ts e r
IsPart g i (suc (suc (suc (suc (suc (suc zero)))))) ts e r = Derives g (Grammar.power i) ts e r
IsPart g i (suc (suc (suc (suc (suc (suc (suc n))))))) ts e r = Derives g (Grammar.unary i) ts e r

module _ (g : Rules) (i : Bool) (ts : List Token) (e : Expr) (r : List Token) where
  one_looser : (n : ℕ) → IsPart g i (suc n) ts e r → IsPart g i n ts e r
  one_looser zero d = Grammar.plain d
  one_looser (suc zero) d = Grammar.unconditional d
  one_looser (suc (suc zero)) d = Grammar.chained (Grammar.relations d) Grammar.no_more
  one_looser (suc (suc (suc zero))) d = Grammar.chained (Grammar.sums d) Grammar.no_more
  one_looser (suc (suc (suc (suc zero)))) d = Grammar.chained (Grammar.products d) Grammar.no_more
  one_looser (suc (suc (suc (suc (suc zero))))) d = Grammar.chained (Grammar.powers d) Grammar.no_more
  one_looser (suc (suc (suc (suc (suc (suc zero)))))) d = Grammar.unraised d
  one_looser (suc (suc (suc (suc (suc (suc (suc n))))))) d = d

  looser_by : (k n m : ℕ) → m ≡ k + n → IsPart g i m ts e r → IsPart g i n ts e r
  looser_by zero n m h d =
      let same : m ≡ n = omega (arith, h) in
      subst (λ (v : ℕ). IsPart g i v ts e r) same d
  looser_by (suc k) n m h d = one_looser n (looser_by k (suc n) m (omega (arith, h)) d)

  pub looser : (n m : ℕ) → n ≤ m → IsPart g i m ts e r → IsPart g i n ts e r
  looser n m h d = looser_by (m - n) n m (omega (arith, h)) d

-- operators after a chain continue it
more_then : {g : Rules} {i : Bool} {l : Level} {a b e : Expr} {ts m r : List Token} → Derives g (Grammar.more i l a) ts b m → Derives g (Grammar.more i l b) m e r → Derives g (Grammar.more i l a) ts e r
more_then Grammar.no_more d = d
more_then (Grammar.one_more is b c) d = Grammar.one_more is b (more_then c d)

pub chain_then : {g : Rules} {i : Bool} {l : Level} {b e : Expr} {ts m r : List Token} → Derives g (Grammar.chain i l) ts b m → Derives g (Grammar.more i l b) m e r → Derives g (Grammar.chain i l) ts e r
chain_then (Grammar.chained a c) d = Grammar.chained a (more_then c d)

abbrev pub level_part : Level → Part
level_part level.Logic = part.Logic
level_part level.Relation = part.Relation
level_part level.Sum = part.Sum
level_part level.Product = part.Product

module _ {g : Rules} {i : Bool} {ts r : List Token} {e : Expr} where
  -- a chain is to the left of an operator of its level, and the next part to the right
  pub left_chain : (l : Level) → IsPart g i (rank (left_of (level_part l))) ts e r → Derives g (Grammar.chain i l) ts e r
  left_chain level.Logic d = d
  left_chain level.Relation d = d
  left_chain level.Sum d = d
  left_chain level.Product d = d

  pub right_operand : (l : Level) → IsPart g i (rank (right_of (level_part l))) ts e r → Derives g (Grammar.operand i l) ts e r
  right_operand level.Logic d = Grammar.relations d
  right_operand level.Relation d = Grammar.sums d
  right_operand level.Sum d = Grammar.products d
  right_operand level.Product d = Grammar.powers d

  pub at_level : (l : Level) → Derives g (Grammar.chain i l) ts e r → IsPart g i (rank (level_part l)) ts e r
  at_level level.Logic d = d
  at_level level.Relation d = d
  at_level level.Sum d = d
  at_level level.Product d = d

pub rank_most : (least : Part) → rank least ≤ 8
rank_most part.Assignment = omega arith
rank_most part.Conditional = omega arith
rank_most part.Logic = omega arith
rank_most part.Relation = omega arith
rank_most part.Sum = omega arith
rank_most part.Product = omega arith
rank_most part.Power = omega arith
rank_most part.Sign = omega arith
rank_most part.Plain = omega arith

plain_rank : (least : Part) (e : Expr) → is_compound e ≡ false → rank least ≤ rank (part_of e)
plain_rank least (Tree.literal l) h = rank_most least
plain_rank least (Tree.variable s) h = rank_most least
plain_rank least Tree.length_mark h = rank_most least
plain_rank least (Tree.index a b) h = rank_most least
plain_rank least (Tree.range a b c) h = rank_most least
plain_rank least (Tree.list xs) h = rank_most least
plain_rank least (Tree.property a b) h = rank_most least
plain_rank least (Tree.verb_call a b xs) h = rank_most least
plain_rank least (Tree.call s xs) h = rank_most least
plain_rank least (Tree.catch a c) h = rank_most least
plain_rank least (Tree.catch_or a c b) h = rank_most least
plain_rank least _ h = absurd cc

-- an expression without parentheses at a place is of the least part there, or of a tighter one
pub bare_rank : (p : Parentheses) (least : Part) (e : Expr) → needs p least e ≡ false → rank least ≤ rank (part_of e)
bare_rank All least e h = plain_rank least e h
bare_rank Needed least e h = grind (arith, nat_tests)
