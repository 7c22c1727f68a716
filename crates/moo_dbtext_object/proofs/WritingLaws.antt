-- Lines that are written one after another.
use Rattle.std.proofs.Common.{◌≡◌, ℕ, ◌+◌, ◌<◌, List, [], ◌∷◌, ◌++◌, length, take, get_or, sym, ap, ◌∙◌, append_assoc}
use Rattle.std.specs.Prelude.{codes}
use Rattle.std.proofs.lemmas.List.{append-nil}
use Rattle.std.proofs.lemmas.List.Concat.{flat_map-append}
use Rattle.moo_value.specs.declared.value.Value.{Value}
use Rattle.moo_value.specs.Tree.{Tree, elements_of, list_of}
use Rattle.moo_value.specs.TreeCode.{trees_of-elements_of}
use Rattle.moo_value.specs.View.{tree, trees}
use Rattle.moo_value.proofs.Lists.{trees-take_more}
use Rattle.moo_dbtext_object.specs.Lines.{Line, unlines, count_line}
use Rattle.moo_dbtext_object.specs.ValueLines.{value_lines, elements_lines}

-- what was written and these lines
pub record Appends (old new : List ℕ) (lines : List Line) : Type 0 where
  pub is : new ≡ old ++ unlines lines

pub unlines-append : (a b : List Line) → unlines (a ++ b) ≡ unlines a ++ unlines b
unlines-append a b = flat_map-append (λ (l : Line). l ++ 10 ∷ []) a b

pub appends_then : (old mid new : List ℕ) (a b : List Line) → Appends old mid a → Appends mid new b → Appends old new (a ++ b)
appends_then old mid new a b p q = record {
  is = q.is ∙ ap (λ (bs : List ℕ). bs ++ unlines b) p.is ∙ append_assoc old (unlines a) (unlines b) ∙ ap (λ (bs : List ℕ). old ++ bs) (sym (unlines-append a b));
}

elements_lines-push : (ts : List Tree) (t : Tree) → elements_lines (elements_of (ts ++ t ∷ [])) ≡ elements_lines (elements_of ts) ++ value_lines t
elements_lines-push [] t = append-nil (value_lines t)
elements_lines-push (u ∷ ts) t = ap (λ (ls : List Line). value_lines u ++ ls) (elements_lines-push ts t) ∙ sym (append_assoc (value_lines u) (elements_lines (elements_of ts)) (value_lines t))

-- one more value is written
pub values_more : (vs : List Value) (i : ℕ) (v : Value) (old mid new : List ℕ) → i < length vs → v ≡ get_or vs i v
    → mid ≡ old ++ unlines (elements_lines (elements_of (trees (take i vs)))) → new ≡ mid ++ unlines (value_lines (tree v))
    → new ≡ old ++ unlines (elements_lines (elements_of (trees (take (i + 1) vs))))
values_more vs i v old mid new lt is so_far more =
    let grown : elements_lines (elements_of (trees (take (i + 1) vs))) ≡ elements_lines (elements_of (trees (take i vs))) ++ value_lines (tree v) =
    ap (λ (ts : List Tree). elements_lines (elements_of ts)) (trees-take_more vs i v lt is) ∙ elements_lines-push (trees (take i vs)) (tree v) in
    (appends_then old mid new (elements_lines (elements_of (trees (take i vs)))) (value_lines (tree v)) (record { is = so_far }) (record { is = more })).is
    ∙ ap (λ (ls : List Line). old ++ unlines ls) (sym grown)

-- a list is written: its type, its count and its values
pub list_written : (ts : List Tree) (n : ℕ) (old one two new : List ℕ) → n ≡ length ts → one ≡ old ++ unlines (codes "4" ∷ []) → two ≡ one ++ unlines (count_line n ∷ []) → new ≡ two ++ unlines (elements_lines (elements_of ts))
    → new ≡ old ++ unlines (value_lines (list_of ts))
list_written ts n old one two new count first second rest =
    let p : Appends old one (codes "4" ∷ []) = record { is = first } in
    let q : Appends one two (count_line n ∷ []) = record { is = second } in
    let r : Appends two new (elements_lines (elements_of ts)) = record { is = rest } in
    (appends_then old one new (codes "4" ∷ []) (count_line n ∷ elements_lines (elements_of ts)) p (appends_then one two new (count_line n ∷ []) (elements_lines (elements_of ts)) q r)).is
    ∙ ap (λ (k : ℕ). old ++ unlines (codes "4" ∷ count_line k ∷ elements_lines (elements_of ts))) (count ∙ ap length (sym (trees_of-elements_of ts)))
