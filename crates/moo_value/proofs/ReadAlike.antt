-- The literal of a value, letters folded, is that of the value with its letters folded.
use Rattle.std.proofs.Common.{◌≡◌, ℕ, List, [], ◌∷◌, ◌++◌, map, codes, refl, sym, ap, ◌∙◌, arith}
use Rattle.std.proofs.lemmas.List.{map-append}
use Rattle.std.proofs.lemmas.Str.Ascii.{lowercase-lowercase, lowercase_is}
use Rattle.std.specs.Char.{to_ascii_lowercase}
use Rattle.std.specs.List.{flat_map}
use Rattle.moo_value.specs.Tree.{Tree, Elements, integer, object, error, string, list, no_elements, element}
use Rattle.moo_value.specs.Compare.{folded, fold_letters, fold_all_letters}
use Rattle.moo_value.specs.Text.{literal, literals, escaped, comma_separated}

folded-escaped : (b : ℕ) → folded (escaped b) ≡ folded (escaped (to_ascii_lowercase b))
folded-escaped b = grind (arith, lowercase_is, lowercase-lowercase)

folded-all_escaped : (s : List ℕ) → folded (flat_map escaped s) ≡ folded (flat_map escaped (folded s))
folded-all_escaped [] = refl
folded-all_escaped (b ∷ s) =
    map-append to_ascii_lowercase (escaped b) (flat_map escaped s) ∙ ap (λ r. r ++ folded (flat_map escaped s)) (folded-escaped b)
    ∙ ap (λ r. folded (escaped (to_ascii_lowercase b)) ++ r) (folded-all_escaped s)
    ∙ sym (map-append to_ascii_lowercase (escaped (to_ascii_lowercase b)) (flat_map escaped (folded s)))

-- a text between two others
folded-between : (a x b : List ℕ) → folded (a ++ x ++ b) ≡ folded a ++ folded x ++ folded b
folded-between a x b = map-append to_ascii_lowercase (a ++ x) b ∙ ap (λ r. r ++ folded b) (map-append to_ascii_lowercase a x)

others : List (List ℕ) → List ℕ
others texts = flat_map (λ text. codes ", " ++ text) texts

folded-others : (texts : List (List ℕ)) → folded (others texts) ≡ others (map folded texts)
unfolding others
folded-others [] = refl
folded-others (x ∷ xs) =
    map-append to_ascii_lowercase (codes ", " ++ x) (flat_map (λ text. codes ", " ++ text) xs) ∙ ap (λ r. codes ", " ++ folded x ++ r) (folded-others xs)

folded-commas : (texts : List (List ℕ)) → folded (comma_separated texts) ≡ comma_separated (map folded texts)
unfolding others
folded-commas [] = refl
folded-commas (x ∷ xs) = map-append to_ascii_lowercase x (flat_map (λ text. codes ", " ++ text) xs) ∙ ap (λ r. folded x ++ r) (folded-others xs)

mutual
  folded-literal : (t : Tree) → folded (literal t) ≡ folded (literal (fold_letters t))
  folded-literal (integer i) = refl
  folded-literal (object o) = refl
  folded-literal (error e) = refl
  folded-literal (string s) =
      folded-between (codes "\"") (flat_map escaped s) (codes "\"") ∙ ap (λ r. codes "\"" ++ r ++ codes "\"") (folded-all_escaped s)
      ∙ sym (folded-between (codes "\"") (flat_map escaped (folded s)) (codes "\""))
  folded-literal (list es) =
      folded-between (codes "{") (comma_separated (literals es)) (codes "}")
      ∙ ap (λ r. codes "{" ++ r ++ codes "}") (folded-commas (literals es) ∙ ap comma_separated (folded-literals es) ∙ sym (folded-commas (literals (fold_all_letters es))))
      ∙ sym (folded-between (codes "{") (comma_separated (literals (fold_all_letters es))) (codes "}"))

  folded-literals : (es : Elements) → map folded (literals es) ≡ map folded (literals (fold_all_letters es))
  folded-literals no_elements = refl
  folded-literals (element t es) = ap (λ text. text ∷ map folded (literals es)) (folded-literal t) ∙ ap (λ texts. folded (literal (fold_letters t)) ∷ texts) (folded-literals es)

pub read_alike : (t u : Tree) → fold_letters t ≡ fold_letters u → folded (literal t) ≡ folded (literal u)
read_alike t u e = folded-literal t ∙ ap (λ v. folded (literal v)) e ∙ sym (folded-literal u)
