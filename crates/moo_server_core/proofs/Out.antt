-- What goes out, one after the other.
use Rattle.std.proofs.Common.{◌≡◌, ◌≢◌, ℕ, List, [], ◌++◌, Bool, true, false, refl, sym, ◌∙◌, ap, append_assoc}
use Rattle.std.specs.Prelude.{eqb, if◌then◌else◌}
use Rattle.std.proofs.lemmas.Bool.{eq-eqb, eqb-true}
use Rattle.std.proofs.lemmas.List.{append-nil}
use Rattle.moo_server_core.specs.Application.{HandsOut, HandsOutLog, Layer, Output, silence, then_out}
use Rattle.moo_server_core.specs.Server.{logged_alone, sent_alone}

pub then_silence : (x : Output) → then_out x silence ≡ x
then_silence x = λ i. record { sent = λ c. append-nil (x.sent c) i; logged = append-nil x.logged i }

pub then_then : (x y z : Output) → then_out (then_out x y) z ≡ then_out x (then_out y z)
then_then x y z = λ i. record { sent = λ c. append_assoc (x.sent c) (y.sent c) (z.sent c) i; logged = append_assoc x.logged y.logged z.logged i }

unlike : (k c : ℕ) → eqb k c ≡ false → k ≢ c
unlike k c isnt is = let yes = eq-eqb k c is in absurd (cc (yes, isnt))

-- what waited for a number, and then what waits
pub sent_out : {S Application Saved : Type 0} (l : Layer S Application Saved) (c : ℕ) (bytes : List ℕ) (old new : S) → HandsOut l c bytes old new
    → l.waiting old ≡ then_out (sent_alone c bytes) (l.waiting new)
sent_out l c bytes old new out = λ i. record { sent = λ k. at k (eqb k c) refl i; logged = sym out.log i }
  where
    at : (k : ℕ) (b : Bool) → eqb k c ≡ b → (l.waiting old).sent k ≡ (if eqb k c then bytes else []) ++ (l.waiting new).sent k
    at k true is =
        let same = eqb-true k c is in
        ap (λ (n : ℕ). (l.waiting old).sent n) same ∙ sym out.all ∙ sym (append-nil bytes)
        ∙ (λ i. bytes ++ sym out.nothing i) ∙ (λ i. (if sym is i then bytes else []) ++ (l.waiting new).sent (sym same i))
    at k false is = sym (out.others k (unlike k c is)) ∙ (λ i. (if sym is i then bytes else []) ++ (l.waiting new).sent k)

-- what waited for the log, and then what waits
pub logged_out : {S Application Saved : Type 0} (l : Layer S Application Saved) (lines : List (List ℕ)) (old new : S) → HandsOutLog l lines old new
    → l.waiting old ≡ then_out (logged_alone lines) (l.waiting new)
logged_out l lines old new out = λ i. record {
  sent = sym out.others i;
  logged = (sym out.all ∙ sym (append-nil lines) ∙ ap (λ (ls : List (List ℕ)). lines ++ ls) (sym out.nothing)) i;
}
