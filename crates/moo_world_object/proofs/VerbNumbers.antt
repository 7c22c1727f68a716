-- Numbers of the verbs that have one name alone.
use Rattle.std.proofs.Common.{◌≡◌, ◌⊎◌, ℕ, zero, suc, ◌<◌, ◌≤◌, subst, List, [], ◌∷◌, ◌++◌, sym, ◌∙◌, inl, inr, arith, length, get_or}
use Rattle.std.specs.List.{remove}
use Rattle.moo_world_object.specs.Letters.{IsNumberOf, AreNumbers}
use Rattle.moo_world_object.specs.Verbs.{changed_at}
use Rattle.moo_world_object.specs.declared.verb.Verb.{Verb}

-- one verb more
pub more_verbs : (numbers : List ℕ) (verbs : List Verb) (v : Verb) → AreNumbers numbers verbs → AreNumbers numbers (verbs ++ v ∷ [])
more_verbs [] verbs v all = tt
more_verbs (number ∷ numbers) [] v all = absurd all
more_verbs (number ∷ numbers) (w ∷ verbs) v all = (all.0, more_verbs numbers verbs v all.1)

-- a verb and a number more
pub numbered_more : (numbers : List ℕ) (verbs : List Verb) (number : ℕ) (v : Verb) → AreNumbers numbers verbs → length numbers ≡ length verbs → IsNumberOf number v.names → AreNumbers (numbers ++ number ∷ []) (verbs ++ v ∷ [])
numbered_more [] [] number v all same is = (is, tt)
numbered_more [] (w ∷ verbs) number v all same is = absurd (omega (arith, same))
numbered_more (n ∷ numbers) [] number v all same is = absurd all
numbered_more (n ∷ numbers) (w ∷ verbs) number v all same is = (all.0, numbered_more numbers verbs number v all.1 (omega (arith, same)) is)

-- a verb more, and a number if there is one for each other verb and memory for it
pub pushed : (old new : List ℕ) (verbs : List Verb) (many number : ℕ) (v : Verb) → AreNumbers old verbs → many ≡ length verbs → IsNumberOf number v.names → ((length old ≡ many) × (new ≡ old ++ number ∷ [])) ⊎ (new ≡ old) → AreNumbers new (verbs ++ v ∷ [])
pushed old new verbs many number v all same is (inl (all_have, more)) = subst (λ numbers. AreNumbers numbers (verbs ++ v ∷ [])) (sym more) (numbered_more old verbs number v all (all_have ∙ same) is)
pushed old new verbs many number v all same is (inr kept) = subst (λ numbers. AreNumbers numbers (verbs ++ v ∷ [])) (sym kept) (more_verbs old verbs v all)

-- one number more
pub more_numbers : (numbers : List ℕ) (verbs : List Verb) (number : ℕ) (v : Verb) → AreNumbers numbers verbs → length numbers < length verbs → v ≡ get_or verbs (length numbers) v → IsNumberOf number v.names →
    AreNumbers (numbers ++ number ∷ []) verbs
more_numbers [] [] number v all room here is = absurd (omega (arith, room))
more_numbers [] (w ∷ verbs) number v all room here is = (subst (λ u. IsNumberOf number u.names) here is, tt)
more_numbers (n ∷ numbers) [] number v all room here is = absurd all
more_numbers (n ∷ numbers) (w ∷ verbs) number v all room here is = (all.0, more_numbers numbers verbs number v all.1 (omega (arith, room)) here is)

-- a verb less, and its number
pub less_numbers : (i : ℕ) (numbers : List ℕ) (verbs : List Verb) → AreNumbers numbers verbs → AreNumbers (remove numbers i) (remove verbs i)
less_numbers zero [] verbs all = tt
less_numbers (suc i) [] verbs all = tt
less_numbers i (n ∷ numbers) [] all = absurd all
less_numbers zero (n ∷ numbers) (w ∷ verbs) all = all.1
less_numbers (suc i) (n ∷ numbers) (w ∷ verbs) all = (all.0, less_numbers i numbers verbs all.1)

-- a verb with other names, and its number
pub other_number : (i : ℕ) (number : ℕ) (f : Verb → Verb) (numbers : List ℕ) (verbs : List Verb) → ((v : Verb) → IsNumberOf number (f v).names) → AreNumbers numbers verbs →
    AreNumbers (changed_at i (λ _. number) numbers) (changed_at i f verbs)
other_number i number f [] verbs is all = tt
other_number i number f (n ∷ numbers) [] is all = absurd all
other_number zero number f (n ∷ numbers) (w ∷ verbs) is all = (is w, all.1)
other_number (suc i) number f (n ∷ numbers) (w ∷ verbs) is all = (all.0, other_number i number f numbers verbs is all.1)

-- a verb changed otherwise
pub same_numbers : (i : ℕ) (f : Verb → Verb) (numbers : List ℕ) (verbs : List Verb) → ((v : Verb) → (f v).names ≡ v.names) → AreNumbers numbers verbs → AreNumbers numbers (changed_at i f verbs)
same_numbers i f [] verbs keeps all = tt
same_numbers i f (n ∷ numbers) [] keeps all = absurd all
same_numbers zero f (n ∷ numbers) (w ∷ verbs) keeps all = (subst (λ names. IsNumberOf n names) (sym (keeps w)) all.0, all.1)
same_numbers (suc i) f (n ∷ numbers) (w ∷ verbs) keeps all = (all.0, same_numbers i f numbers verbs keeps all.1)

-- no more numbers than verbs
pub fewer_numbers : (numbers : List ℕ) (verbs : List Verb) → AreNumbers numbers verbs → length numbers ≤ length verbs
fewer_numbers [] verbs all = omega arith
fewer_numbers (n ∷ numbers) [] all = absurd all
fewer_numbers (n ∷ numbers) (w ∷ verbs) all = omega (arith, fewer_numbers numbers verbs all.1)

-- the number of a verb
pub number_there : (numbers : List ℕ) (verbs : List Verb) (i : ℕ) (number : ℕ) (v : Verb) → AreNumbers numbers verbs → i < length numbers → number ≡ get_or numbers i number → v ≡ get_or verbs i v → IsNumberOf number v.names
number_there [] verbs i number v all low here read = absurd (omega (arith, low))
number_there (n ∷ numbers) [] i number v all low here read = absurd all
number_there (n ∷ numbers) (w ∷ verbs) zero number v all low here read = subst (λ k. IsNumberOf k v.names) (sym here) (subst (λ u. IsNumberOf n u.names) (sym read) all.0)
number_there (n ∷ numbers) (w ∷ verbs) (suc i) number v all low here read = number_there numbers verbs i number v all.1 (omega (arith, low)) here read
