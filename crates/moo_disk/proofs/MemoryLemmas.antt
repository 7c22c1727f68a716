-- What a disk in memory shows of its crash set.
use Rattle.std.proofs.Common.{◌≡◌, ◌∙◌, inl, inr, ⊎_elim, ℕ, List, Option, Some, Bool, true, false, Result, Ok, Err, OnOk, is_err, sym, ap}
use Rattle.std.specs.Option.{option_map, option_map_or}
use Rattle.moo_disk.specs.declared.memory.Spare.{Spare}
use Rattle.moo_disk.specs.Disk.{Gains}
use Rattle.moo_disk.specs.CrashSet.{crash_view, view_with}
use Rattle.moo_disk.specs.declared.crash_set.CrashSet.{CrashSet}

-- what a set gains, a disk with that set gains
pub shown_gains : (P Q : List ℕ → Type 0) (old new : CrashSet) (main main' : List ℕ) (spare spare' : Option (List ℕ)) (stable stable' : Bool)
    → ((c : List ℕ) → P c → Q c) → Gains P (crash_view old) (crash_view new)
    → Gains Q (view_with main spare stable old.base.items old.later.items old.starts.items old.first)
    (view_with main' spare' stable' new.base.items new.later.items new.starts.items new.first)
shown_gains P Q old new main main' spare spare' stable stable' more gains = record {
  later = gains.later;
  now = λ c left. ⊎_elim (λ was. inl was) (λ p. inr (more c p)) (gains.now c left);
  since = λ t c le left. ⊎_elim (λ was. inl was) (λ p. inr (more c p)) (gains.since t c le left);
  remembers = gains.remembers;
}

pub when_not_err : {T E P : Type 0} (r : Result T E) → is_err r ≡ false → OnOk r P → P
when_not_err (Ok x) is p = p
when_not_err (Err e) is p = cc

-- the text that a spare brings is the one that a disk shows
pub shown_spare : (spare : Option Spare) (taken : Spare) (t : List ℕ) → spare ≡ Some taken → (taken.stable ≡ true → t ≡ taken.text.items)
    → option_map_or (λ s. s.stable) spare false ≡ true → option_map (λ s. s.text.items) spare ≡ Some t
shown_spare spare taken t is brought stable =
    let taken_stable : taken.stable ≡ true = sym (ap (λ o. option_map_or (λ s. s.stable) o false) is) ∙ stable in
    ap (option_map (λ s. s.text.items)) is ∙ ap (λ (text : List ℕ). Some text) (sym (brought taken_stable))
