-- What the slots of the names of a program hold.
use Rattle.std.specs.Prelude.{ℕ, ◌<◌, List, ◌∷◌, length, set, Option, Some, option_map, if◌then◌else◌, refl}
use Rattle.std.specs.Str.{bytes_eq}
use Rattle.std.specs.Coded.{Coded, code_by, coded×, coded_ℕ, coded_list, coded_option}
use Rattle.moo_value.specs.contracts.value.Value as contracts
use Rattle.moo_value.specs.declared.value.Value.{Value}
use Rattle.moo_value.specs.Tree.{Tree}
use Rattle.moo_value.specs.Compare.{folded}
use Rattle.moo_value.specs.View.{tree}

-- the names, and the values by their slots, if they are set
pub record Held : Type 0 where
  pub names : List (List ℕ)
  pub values : List (Option Value)

abbrev pub held_code : Coded Held
held_code =
    code_by
    (List (List ℕ) × List (Option Value))
    (coded× (coded_list (coded_list coded_ℕ)) (coded_list (coded_option contracts.the_row.coded)))
    (λ h. (h.names, h.values))
    (λ p. record { names = p.0; values = p.1 })
    (λ _. refl)

-- with this value set
abbrev pub with_held : Held → ℕ → Value → Held
with_held held slot value = record { names = held.names; values = set held.values slot (Some value) }

-- one of the slots
abbrev pub IsSlot : Held → ℕ → Type 0
IsSlot held slot = slot < length held.values

-- the value in the slot of a folded name, and if it has none the value elsewhere
abbrev pub slot_value : List (List ℕ) → List (Option Value) → (List ℕ → Option Tree) → List ℕ → Option Tree
slot_value (own ∷ slots) (value ∷ values) elsewhere name =
    if bytes_eq (folded own) name then option_map (λ v. tree v) value else slot_value slots values elsewhere name
slot_value _ _ elsewhere name = elsewhere name
