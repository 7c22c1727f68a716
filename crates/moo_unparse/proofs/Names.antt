-- Names that are written out.
use Rattle.std.proofs.Common.{ℕ, zero, pos, List, ◌≡◌, refl, ap, subst, Bool, true, false, Some}
use Rattle.moo_syntax_token.specs.Spelling.{is_name}
use Rattle.moo_syntax_ast.specs.declared.tree.Literal.TheVariants as literal
use Rattle.moo_syntax_ast.specs.Tree
use Rattle.moo_syntax_ast.specs.Tree.{Expr}
use Rattle.moo_syntax_ast.specs.Listing.{some_if, constant_name, is_system_object}

some_if_is : (c : Bool) (s w : List ℕ) → some_if c s ≡ Some w → (c ≡ true) × (s ≡ w)
some_if_is true s w h = (refl, cc)
some_if_is false s w h = absurd cc

pub record IsConstant (b : Expr) (s : List ℕ) : Type 0 where
  pub is : b ≡ Tree.literal (literal.Str s)
  pub name : is_name s ≡ true

pub constant_is : (b : Expr) (s : List ℕ) → constant_name b ≡ Some s → IsConstant b s
constant_is (Tree.literal (literal.Str t)) s h =
    let p = some_if_is (is_name t) t s h in
    record { is = ap (λ v. Tree.literal (literal.Str v)) p.1; name = subst (λ v. is_name v ≡ true) p.1 p.0 }
constant_is _ s h = absurd cc

pub system_is : (a : Expr) → is_system_object a ≡ true → a ≡ Tree.literal (literal.Object (pos zero))
system_is (Tree.literal (literal.Object (pos zero))) h = refl
system_is _ h = absurd cc
