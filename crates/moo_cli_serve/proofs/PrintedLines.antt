-- What was printed, one line after another.
use Rattle.std.proofs.Common.{◌≡◌, inl, inr, ℕ, List, ◌++◌, Option, sym, subst}
use Rattle.std.specs.Prelude.{Result, Ok, Err, OnErr, OnOk}
use Rattle.std.specs.Io.KnownBytes.{Appends}
use Rattle.std.proofs.KnownBytes.{Appends-trans}
use Rattle.moo_dbtext_read.specs.Saved.{Saved}
use Rattle.moo_server_core.specs.Application.{Layer}
use Rattle.moo_cli_io.specs.Watching.{HasFailed, Remembers}
use Rattle.moo_cli_io.specs.declared.watch.Watch.{Watch}
use Rattle.moo_cli_serve.specs.Printed.{IsToldAs, Prints}
use Rattle.moo_cli_serve.specs.Program.{FailsFile}
use Rattle.moo_cli_serve.specs.declared.fault.ServeFault.{ServeFault}
use Rattle.moo_cli_serve.specs.declared.limits.Limits.{Limits}

-- one write
pub prints_once : {T E : Type 0} (result : Result T E) (old new : Option (List ℕ)) (watch : Watch) (text line : List ℕ) → OnOk result (Appends old new text)
    → OnErr result (HasFailed watch) → text ≡ line → Prints old new watch line
prints_once (Ok x) old new watch text line grows failed is = inr (subst (λ (t : List ℕ). Appends old new t) is grows)
prints_once (Err e) old new watch text line grows failed is = inl failed

pub prints_more : (old mid new : Option (List ℕ)) (before after : Watch) (first last : List ℕ) → Prints old mid before first → Remembers before after → Prints mid new after last
    → Prints old new after (first ++ last)
prints_more old mid new before after first last (inl failed) remembers more = inl (remembers.failed failed)
prints_more old mid new before after first last (inr grows) remembers (inl failed) = inl failed
prints_more old mid new before after first last (inr grows) remembers (inr more) = inr (Appends-trans old mid new first last grows more)

-- a fault is reported as itself, or as memory
pub fails_told : {S Application : Type 0} (l : Layer S Application Saved) (F File Dir : Type 0) (limits : Limits) (rounds : ℕ) (fault told : ServeFault) → IsToldAs fault told
    → FailsFile l F File Dir limits rounds fault → FailsFile l F File Dir limits rounds told
fails_told l F File Dir limits rounds fault told (inl same) fails = subst (λ (f : ServeFault). FailsFile l F File Dir limits rounds f) (sym same) fails
fails_told l F File Dir limits rounds fault told (inr memory) fails = inl (inr memory)
