-- The assignments of a scatter, name by name from the left.
use Rattle.std.specs.Prelude.{◌≡◌, ℕ, List, [], ◌∷◌, ◌++◌, Bool, true, false, length}
use Rattle.moo_value.specs.Tree.{Tree, list_of}
use Rattle.moo_syntax_ast.specs.Tree.{Expr, variable, Items, no_items, element, splice, optional, defaulted}
use Rattle.moo_syntax_ast.specs.Target.{are_names}
use Rattle.moo_eval_slot.specs.Bindings.{Binding, bind}
use Rattle.moo_eval_control.specs.Scatter.{LeftOut, fits, given, missing}

-- All values go to the names in order: one to a plain name, any number to the one after `@`, as a list. A name with
-- `?` gets one or none. If it gets none, the names with `?` after it get none either, and the one after `@` gets the
-- empty list. `lacks`: some name gets no value. `filling`: each name with `?` so far has got one.
pub data Deals (lacks : Bool) : (filling : Bool) → Items → List Tree → List Binding → List LeftOut → Type 0 where
  all_dealt : {filling : Bool} →
      Deals lacks filling no_items [] [] []
  plain : {filling : Bool} {x : List ℕ} {xs : Items} {v : Tree} {vs : List Tree} {bs : List Binding} {ds : List LeftOut} →
      Deals lacks filling xs vs bs ds →
      Deals lacks filling (element (variable x) xs) (v ∷ vs) (bind x v ∷ bs) ds
  others : {filling : Bool} {x : List ℕ} {xs : Items} {us vs : List Tree} {bs : List Binding} {ds : List LeftOut} →
      (lacks ≡ true → us ≡ []) → Deals lacks filling xs vs bs ds →
      Deals lacks filling (splice (variable x) xs) (us ++ vs) (bind x (list_of us) ∷ bs) ds
  filled : {x : List ℕ} {xs : Items} {v : Tree} {vs : List Tree} {bs : List Binding} {ds : List LeftOut} →
      Deals lacks true xs vs bs ds →
      Deals lacks true (optional x xs) (v ∷ vs) (bind x v ∷ bs) ds
  filled_default : {x : List ℕ} {d : Expr} {xs : Items} {v : Tree} {vs : List Tree} {bs : List Binding} {ds : List LeftOut} →
      Deals lacks true xs vs bs ds →
      Deals lacks true (defaulted x d xs) (v ∷ vs) (bind x v ∷ bs) ds
  -- it stays as it was
  without : {filling : Bool} {x : List ℕ} {xs : Items} {vs : List Tree} {bs : List Binding} {ds : List LeftOut} →
      lacks ≡ true → Deals lacks false xs vs bs ds →
      Deals lacks filling (optional x xs) vs bs ds
  -- its default is taken
  takes_default : {filling : Bool} {x : List ℕ} {d : Expr} {xs : Items} {vs : List Tree} {bs : List Binding} {ds : List LeftOut} →
      lacks ≡ true → Deals lacks false xs vs bs ds →
      Deals lacks filling (defaulted x d xs) vs bs (record { name = x; value = d } ∷ ds)

-- if a number of values fits the names of a scatter, they are assigned so
abbrev pub ValuesAreDealt : Type 0
ValuesAreDealt = (xs : Items) (vs : List Tree) → are_names false xs ≡ true → fits xs (length vs) ≡ true → (lacks : Bool) × Deals lacks true xs vs (given xs vs) (missing xs vs)

-- they are dealt in this way alone
abbrev pub DealtInOneWay : Type 0
DealtInOneWay = (xs : Items) (vs : List Tree) (lacks : Bool) (bs : List Binding) (ds : List LeftOut) → are_names false xs ≡ true → Deals lacks true xs vs bs ds → (bs ≡ given xs vs) × (ds ≡ missing xs vs)

-- and if they are assigned so, their number fits
abbrev pub DealtValuesFit : Type 0
DealtValuesFit = (xs : Items) (vs : List Tree) (lacks : Bool) (bs : List Binding) (ds : List LeftOut) → are_names false xs ≡ true → Deals lacks true xs vs bs ds → fits xs (length vs) ≡ true
