-- The test of sameness tells which values are the same.
use Rattle.std.proofs.Common.{◌≡◌, [], ◌∷◌, Bool, Decides, refl, ap, IsTrue, ◌↔◌, inl, inr}
use Rattle.std.specs.Cmp.Lexicographic.{bytes_decides}
use Rattle.std.proofs.lemmas.Bool.{false≢true}
use Rattle.std.proofs.lemmas.Bool.Decides.{Decides-int_eq, Decides-eqb, Decides-like, Decides-and, same_from_decides}
use Rattle.moo_value.specs.declared.error_code.ErrorCode.{ErrorCode}
use Rattle.moo_value.specs.Errors.{error_number}
use Rattle.moo_value.specs.Tree.{Tree, Elements, integer, object, error, string, list, no_elements, element}
use Rattle.moo_value.specs.TreeCode.{tree_code, marks_code}
use Rattle.moo_value.specs.Compare.{fold_letters}
use Rattle.moo_builtin_operator.specs.Truth.{same_tree, same_elements, equal}

same_error : (e f : ErrorCode) → error_number e ≡ error_number f → error e ≡ error f
same_error e f h = tree_code.inj (error e) (error f) (ap (λ n. marks_code.code (inr (inr (inl n)) ∷ [])) h)

mutual
  pub same_tree_decides : (t u : Tree) → Decides (same_tree t u) (t ≡ u)
  same_tree_decides (integer i) (integer j) = Decides-like _ (ap integer) (λ e. cc) (Decides-int_eq i j)
  same_tree_decides (object o) (object p) = Decides-like _ (ap object) (λ e. cc) (Decides-int_eq o p)
  same_tree_decides (error e) (error f) = Decides-like _ (same_error e f) (λ h. let same : e ≡ f = cc in ap error_number same) (Decides-eqb (error_number e) (error_number f))
  same_tree_decides (string s) (string t) = Decides-like _ (ap string) (λ e. cc) (bytes_decides s t)
  same_tree_decides (list es) (list fs) = Decides-like _ (ap list) (λ e. cc) (same_elements_decides es fs)
  same_tree_decides _ _ = (λ h. absurd (false≢true h), λ e. cc)

  pub same_elements_decides : (es fs : Elements) → Decides (same_elements es fs) (es ≡ fs)
  same_elements_decides no_elements no_elements = (λ _. refl, λ _. refl)
  same_elements_decides (element t es) (element u fs) =
      Decides-like _ (λ p. λ i. element (p.0 i) (p.1 i)) (λ e. (cc, cc)) (Decides-and _ _ (same_tree_decides t u) (same_elements_decides es fs))
  same_elements_decides _ _ = (λ h. absurd (false≢true h), λ e. cc)

pub equal_decides : (a b : Tree) → Decides (equal a b) (fold_letters a ≡ fold_letters b)
equal_decides a b = same_tree_decides (fold_letters a) (fold_letters b)

pub equal_is : (a b : Tree) (r : Bool) → (IsTrue r ↔ (fold_letters a ≡ fold_letters b)) → r ≡ equal a b
equal_is a b r h = same_from_decides r (equal a b) (h.0, h.1) (equal_decides a b)
