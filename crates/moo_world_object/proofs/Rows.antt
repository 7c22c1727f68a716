-- One cell of a row with a value, or with another name.
use Rattle.std.proofs.Common.{◌≡◌, ℕ, ◌+◌, ◌<◌, List, ◌∷◌, ◌++◌, Some, true, refl, sym, ◌∙◌, ap, length, get_or, set, take, drop}
use Rattle.std.proofs.lemmas.List.{drop_more, set_split}
use Rattle.std.proofs.Math.Numerals.{add-one}
use Rattle.moo_value.specs.Tree.{Tree}
use Rattle.moo_world_object.specs.Names.{same_name}
use Rattle.moo_world_object.specs.Cells.{Cell, Key, is_key, with_value, renamed}
use Rattle.moo_world_object.specs.Rows.{with_new_name}

-- the cell of the name gets the value
pub set_here : (name : List ℕ) (v : Tree) (cells : List Cell) (i : ℕ) (c d : Cell) → i < length cells → c ≡ get_or cells i c → same_name c.name name ≡ true →
    d ≡ record { definer = c.definer; name = c.name; owner = c.owner; perms = c.perms; value = Some v } →
    with_value name v cells ≡ take i cells ++ with_value name v (drop i cells) → set cells i d ≡ with_value name v cells
set_here name v cells i c d within here test is none_yet =
    let rest : drop i cells ≡ c ∷ drop (i + 1) cells = drop_more cells i c within ∙ ap (λ x. x ∷ drop (i + 1) cells) (sym here) in
    let step : with_value name v (drop i cells) ≡ d ∷ drop (i + 1) cells = ap (with_value name v) rest ∙ (rw (test, is) refl) in
    set_split cells i d within ∙ (rw (← add-one) (ap (λ xs. take i cells ++ xs) (sym step) ∙ sym none_yet))

-- the first cell for the definition gets the name
pub name_here : (k : Key) (n : List ℕ) (cells : List Cell) (i : ℕ) (c d : Cell) → i < length cells → c ≡ get_or cells i c → is_key k c ≡ true → d ≡ renamed n c →
    with_new_name k n cells ≡ take i cells ++ with_new_name k n (drop i cells) → set cells i d ≡ with_new_name k n cells
name_here k n cells i c d within here test is none_yet =
    let rest : drop i cells ≡ c ∷ drop (i + 1) cells = drop_more cells i c within ∙ ap (λ x. x ∷ drop (i + 1) cells) (sym here) in
    let step : with_new_name k n (drop i cells) ≡ d ∷ drop (i + 1) cells = ap (with_new_name k n) rest ∙ (rw (test, is) refl) in
    set_split cells i d within ∙ (rw (← add-one) (ap (λ xs. take i cells ++ xs) (sym step) ∙ sym none_yet))
