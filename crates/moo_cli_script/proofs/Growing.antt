-- What was printed where the program gives up.
use Rattle.std.proofs.Common.{◌⊎◌, inl, inr, ℕ, List, [], ◌++◌, Some, None, sym, ◌∙◌, append-nil}
use Rattle.std.specs.Prelude.{Option, Result, Ok, Err, IfErr}
use Rattle.std.specs.Io.KnownBytes.{Appends, Keeps}
use Rattle.std.proofs.KnownBytes.{Appends-nil, Appends-trans, Keeps-refl}
use Rattle.moo_cli_io.specs.Watching.{HasFailed, Remembers}
use Rattle.moo_cli_io.specs.declared.watch.Watch.{Watch}
use Rattle.moo_cli_script.specs.Works.{HasGrown, IsSilent}

pub still_silent : (watch : Watch) (known : Option (List ℕ)) → IsSilent watch known known
still_silent watch known = inr (Keeps-refl known)

kept_appends : (a b : Option (List ℕ)) → Keeps a b → Appends a b []
kept_appends None b keeps = tt
kept_appends (Some x) None keeps = absurd keeps
kept_appends (Some x) (Some y) keeps = keeps ∙ sym (append-nil x)

-- nothing was printed so far
pub not_grown : (watch : Watch) (known : Option (List ℕ)) → HasGrown watch known known
not_grown watch known = inr ([], Appends-nil known)

-- after what was printed
pub grown_silent : (watch : Watch) (old mid new : Option (List ℕ)) (own : List ℕ) → Appends old mid own → IsSilent watch mid new → HasGrown watch old new
grown_silent watch old mid new own grows (inl failed) = inl failed
grown_silent watch old mid new own grows (inr keeps) = inr (own ++ [], Appends-trans old mid new own [] grows (kept_appends mid new keeps))

pub grown_more : (watch : Watch) (old mid new : Option (List ℕ)) (own : List ℕ) → Appends old mid own → HasGrown watch mid new → HasGrown watch old new
grown_more watch old mid new own grows (inl failed) = inl failed
grown_more watch old mid new own grows (inr more) = inr (own ++ more.0, Appends-trans old mid new own more.0 grows more.1)

-- and the refusal's line last
pub grown_last : (before after : Watch) (old mid new : Option (List ℕ)) (line : List ℕ) → HasGrown before old mid → HasFailed after ⊎ Appends mid new line → Remembers before after
    → HasFailed after ⊎ ((text : List ℕ) × Appends old new (text ++ line))
grown_last before after old mid new line (inl failed) last remembers = inl (remembers.failed failed)
grown_last before after old mid new line (inr grown) (inl failed) remembers = inl failed
grown_last before after old mid new line (inr grown) (inr last) remembers = inr (grown.0, Appends-trans old mid new grown.0 line grown.1 last)

pub any_err : {T E : Type 0} (r : Result T E) (P : Type 0) → P → IfErr r (λ e. P)
any_err (Ok x) P holds = tt
any_err (Err e) P holds = holds

pub err_weaker : {T E : Type 0} (r : Result T E) (P Q : Type 0) → (P → Q) → IfErr r (λ e. P) → IfErr r (λ e. Q)
err_weaker (Ok x) P Q step h = tt
err_weaker (Err e) P Q step h = step h
