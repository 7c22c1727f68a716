-- Two values are one with their letters folded exactly where `==` of the language takes them as equal.
use Rattle.std.proofs.Common.{ℕ, ◌≡◌, ◌⊎◌, inl, inr, ⊎_elim, List, [], ◌∷◌, refl, sym, ap, subst, ◌∙◌, arith}
use Rattle.std.proofs.lemmas.Bool.{cases_lt}
use Rattle.std.proofs.lemmas.Str.Ascii.{lowercase_is}
use Rattle.std.specs.Char.{to_ascii_lowercase}
use Rattle.moo_value.specs.Tree.{Tree, Elements, integer, object, error, string, list, no_elements, element}
use Rattle.moo_value.specs.Compare.{fold_letters, fold_all_letters, folded}
use Rattle.moo_value.specs.Equal.{IsCapitalOf, IsAlike, AreAlike, both_end, one_more, IsEqual, integers, objects, errors, strings, lists, AreEqual, all_equal, one_equal}

-- a byte stays, or is a capital letter
folds_to : (b : ℕ) → (to_ascii_lowercase b ≡ b) ⊎ IsCapitalOf b (to_ascii_lowercase b)
folds_to b =
    let l = lowercase_is b in
    ⊎_elim
    (λ low. inl (l.1 low))
    (λ least. ⊎_elim
    (λ most. inr (record { least = least; most = omega arith; small_is = l.0 (least, omega arith) }))
    (λ high. inl (l.2 (omega arith)))
    (cases_lt b 91))
    (cases_lt b 65)

capital_folds : (b c : ℕ) → IsCapitalOf b c → to_ascii_lowercase b ≡ to_ascii_lowercase c
capital_folds b c h = (lowercase_is b).0 (h.least, h.most) ∙ sym h.small_is ∙ sym ((lowercase_is c).2 (omega (arith, h.least, h.small_is)))

folds_alike : (b c : ℕ) → IsAlike b c → to_ascii_lowercase b ≡ to_ascii_lowercase c
folds_alike b c h = ⊎_elim (λ e. ap to_ascii_lowercase e) (λ k. ⊎_elim (λ l. capital_folds b c l) (λ l. sym (capital_folds c b l)) k) h

alike_folded : (b c : ℕ) → to_ascii_lowercase b ≡ to_ascii_lowercase c → IsAlike b c
alike_folded b c e =
    ⊎_elim
    (λ p. ⊎_elim (λ q. inl (sym p ∙ e ∙ q)) (λ q. inr (inr (record { least = q.least; most = q.most; small_is = sym p ∙ e ∙ q.small_is }))) (folds_to c))
    (λ p. ⊎_elim (λ q. inr (inl (record { least = p.least; most = p.most; small_is = sym q ∙ sym e ∙ p.small_is }))) (λ q. inl (omega (arith, p.small_is, q.small_is, e))) (folds_to c))
    (folds_to b)

texts_alike : (s t : List ℕ) → folded s ≡ folded t → AreAlike s t
texts_alike [] [] e = both_end
texts_alike [] (c ∷ t) e = absurd cc
texts_alike (b ∷ s) [] e = absurd cc
texts_alike (b ∷ s) (c ∷ t) e = one_more (alike_folded b c cc) (texts_alike s t cc)

texts_folded : {s t : List ℕ} → AreAlike s t → folded s ≡ folded t
texts_folded both_end = refl
texts_folded (one_more {b = b} {c = c} {s = s} {t = t} h m) = ap (λ x. x ∷ folded s) (folds_alike b c h) ∙ ap (λ r. to_ascii_lowercase c ∷ r) (texts_folded m)

mutual
  pub equal_folded : (t u : Tree) → fold_letters t ≡ fold_letters u → IsEqual t u
  equal_folded (integer i) (integer j) e = subst (λ v. IsEqual (integer i) v) e integers
  equal_folded (object o) (object p) e = subst (λ v. IsEqual (object o) v) e objects
  equal_folded (error e) (error f) h = subst (λ v. IsEqual (error e) v) h errors
  equal_folded (string s) (string t) e = strings (texts_alike s t cc)
  equal_folded (list es) (list fs) e = lists (all_equal_folded es fs cc)
  equal_folded (integer i) _ e = absurd cc
  equal_folded (object o) _ e = absurd cc
  equal_folded (error f) _ e = absurd cc
  equal_folded (string s) _ e = absurd cc
  equal_folded (list es) _ e = absurd cc

  all_equal_folded : (es fs : Elements) → fold_all_letters es ≡ fold_all_letters fs → AreEqual es fs
  all_equal_folded no_elements no_elements e = all_equal
  all_equal_folded no_elements (element u fs) e = absurd cc
  all_equal_folded (element t es) no_elements e = absurd cc
  all_equal_folded (element t es) (element u fs) e = one_equal (equal_folded t u cc) (all_equal_folded es fs cc)

mutual
  pub folds_equal : {t u : Tree} → IsEqual t u → fold_letters t ≡ fold_letters u
  folds_equal integers = refl
  folds_equal objects = refl
  folds_equal errors = refl
  folds_equal (strings h) = ap string (texts_folded h)
  folds_equal (lists h) = ap list (folds_all_equal h)

  folds_all_equal : {es fs : Elements} → AreEqual es fs → fold_all_letters es ≡ fold_all_letters fs
  folds_all_equal all_equal = refl
  folds_all_equal (one_equal {u = u} {es = es} h m) = ap (λ v. element v (fold_all_letters es)) (folds_equal h) ∙ ap (λ vs. element (fold_letters u) vs) (folds_all_equal m)
