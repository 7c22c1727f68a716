-- The first of which one of two things doesn't hold.
use Rattle.std.proofs.Common.{ℕ, Option, Some, None, ⊎_elim, arith}
use Rattle.std.proofs.lemmas.Bool.{cases_lt, lt-ltb, le-ltb}
use Rattle.moo_dbtext_restore.specs.First.{IsFirst, least_of}

pub first_along : (P Q : ℕ → Type 0) (n : ℕ) (r : Option ℕ) → ((x : ℕ) → P x → Q x) → ((x : ℕ) → Q x → P x) → IsFirst P n r → IsFirst Q n r
first_along P Q n None to back f = λ x low. to x (f x low)
first_along P Q n (Some x) to back f = (f.0, λ q. f.1 (back x q), λ y low. to y (f.2 y low))

pub first_of_both : (P Q : ℕ → Type 0) (n : ℕ) (a b : Option ℕ) → IsFirst P n a → IsFirst Q n b → IsFirst (λ x. P x × Q x) n (least_of a b)
first_of_both P Q n None None f g = λ x low. (f x low, g x low)
first_of_both P Q n None (Some y) f g = (g.0, λ both. g.1 both.1, λ z low. (f z (let end = g.0 in omega (arith, end)), g.2 z low))
first_of_both P Q n (Some x) None f g = (f.0, λ both. f.1 both.0, λ z low. (f.2 z low, g z (let end = f.0 in omega (arith, end))))
first_of_both P Q n (Some x) (Some y) f g = ⊎_elim
    (λ lower. let test = lt-ltb y x lower in rw test (g.0, λ (both : P y × Q y). g.1 both.1, λ z low. (f.2 z (omega arith), g.2 z low)))
    (λ past. let test = le-ltb y x past in rw test (f.0, λ (both : P x × Q x). f.1 both.0, λ z low. (f.2 z low, g.2 z (omega arith))))
    (cases_lt y x)
