-- Calls one after another gain what each of them gains.
use Rattle.std.proofs.Common.{◌⊎◌, inl, inr, ⊎_elim, ℕ, List, [], ◌∷◌, Contains, subst, sym, arith}
use Rattle.moo_disk.specs.Disk.{DiskView, Gains}
use Rattle.moo_disk.specs.Histories.{History}

pub gains_join : (P Q : List ℕ → Type 0) (old mid new : DiskView) → Gains P old mid → Gains Q mid new → Gains (λ c. P c ⊎ Q c) old new
gains_join P Q old mid new before after = record {
  later = omega (arith, before.later, after.later);
  now = λ c left. ⊎_elim (λ was. ⊎_elim (λ old_one. inl old_one) (λ p. inr (inl p)) (before.now c was)) (λ q. inr (inr q)) (after.now c left);
  since = λ t c le left.
      ⊎_elim (λ was. ⊎_elim (λ old_one. inl old_one) (λ p. inr (inl p)) (before.since t c le was)) (λ q. inr (inr q))
      (after.since t c (omega (arith, before.later, le)) left);
  remembers = λ t c le left. after.remembers t c (omega (arith, before.later, le)) (before.remembers t c le left);
}

pub gains_less : (P Q : List ℕ → Type 0) (old new : DiskView) → ((c : List ℕ) → P c → Q c) → Gains P old new → Gains Q old new
gains_less P Q old new more gains = record {
  later = gains.later;
  now = λ c left. ⊎_elim (λ was. inl was) (λ p. inr (more c p)) (gains.now c left);
  since = λ t c le left. ⊎_elim (λ was. inl was) (λ p. inr (more c p)) (gains.since t c le left);
  remembers = gains.remembers;
}

-- nothing is gained if nothing happens
pub gains_none : (P : List ℕ → Type 0) (disk : DiskView) → Gains P disk disk
gains_none P disk = record {
  later = omega arith;
  now = λ c left. inl left;
  since = λ t c le left. inl left;
  remembers = λ t c le left. left;
}

pub history_gains : {D : Type 0} (view : D → DiskView) (texts : List (List ℕ)) (old new : D) (disks : List D)
    → History view texts old disks new → Gains (Contains texts) (view old) (view new)
history_gains view texts old new [] same =
    subst (λ (d : _). Gains (Contains texts) (view old) (view d)) (sym same) (gains_none (Contains texts) (view old))
history_gains view texts old new (disk ∷ disks) history =
    gains_less (λ c. Contains texts c ⊎ Contains texts c) (Contains texts) (view old) (view new) (λ c brought. ⊎_elim (λ has. has) (λ has. has) brought)
    (gains_join (Contains texts) (Contains texts) (view old) (view disk) (view new) history.0 (history_gains view texts disk new disks history.1))
