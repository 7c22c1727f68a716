-- What goes out, one after the other.
use Rattle.std.proofs.Common.{◌≡◌, append_assoc}
use Rattle.std.proofs.lemmas.List.{append-nil}
use Rattle.moo_server_core.specs.Application.{Output, silence, then_out}

pub then_silence : (x : Output) → then_out x silence ≡ x
then_silence x = λ i. record { sent = λ c. append-nil (x.sent c) i; logged = append-nil x.logged i }

pub then_then : (x y z : Output) → then_out (then_out x y) z ≡ then_out x (then_out y z)
then_then x y z = λ i. record { sent = λ c. append_assoc (x.sent c) (y.sent c) (z.sent c) i; logged = append_assoc x.logged y.logged z.logged i }
