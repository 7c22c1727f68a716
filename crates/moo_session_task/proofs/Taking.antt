-- The first of the hooks that wait is taken.
use Rattle.std.proofs.Common.{◌≡◌, List, [], ◌∷◌, ◌++◌, length, drop, Option, Some, None, option_to_list, IfSome, IfNone, refl, sym, ◌∙◌, ap, arith}
use Rattle.moo_session_task.specs.declared.hook.Hook.{Hook}
use Rattle.moo_session_task.specs.Session.{Session, with_hooks}

pub first_taken : (o : Option Hook) (s : Session) (rest : List Hook) → s.hooks ≡ option_to_list o ++ rest →
    IfSome o (λ h. (hs : List Hook) × (s.hooks ≡ h ∷ hs) × (with_hooks rest s ≡ with_hooks hs s))
first_taken None s rest e = tt
first_taken (Some h) s rest e = (rest, e, refl)

-- a list without its first is the same only where it is empty
only_empty : (xs : List Hook) → xs ≡ drop 1 xs → xs ≡ []
only_empty [] e = refl
only_empty (x ∷ xs) e = absurd (omega (arith, ap (λ (ys : List Hook). length ys) e))

pub none_taken : (o : Option Hook) (s : Session) (rest : List Hook) → s.hooks ≡ option_to_list o ++ rest → rest ≡ drop 1 s.hooks → IfNone o ((s.hooks ≡ []) × (with_hooks rest s ≡ s))
none_taken None s rest e f = (only_empty s.hooks (e ∙ f), ap (λ (hs : List Hook). with_hooks hs s) (sym e))
none_taken (Some h) s rest e f = tt
