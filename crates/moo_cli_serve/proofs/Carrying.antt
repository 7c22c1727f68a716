-- What a write does, said of equal values.
use Rattle.std.proofs.Common.{◌≡◌, ℕ, List, Option, Bool, sym, subst}
use Rattle.moo_cli_sockets.specs.declared.socket.Socket.{Socket}
use Rattle.moo_server_core.specs.declared.event.Event.{Event}
use Rattle.moo_cli_serve.specs.Writing.{IsWritten}

pub carried : (most : ℕ) (late leaving leaving' : Bool) (bytes bytes' left left' : List ℕ) (was was' is is' : Option Socket) (c : ℕ) (e : Option Event)
    → leaving' ≡ leaving → bytes' ≡ bytes → left' ≡ left → was' ≡ was → is' ≡ is
    → IsWritten most leaving late bytes left was is c e → IsWritten most leaving' late bytes' left' was' is' c e
carried most late leaving leaving' bytes bytes' left left' was was' is is' c e a b d f g written =
    subst (λ (x : Bool). IsWritten most x late bytes' left' was' is' c e) (sym a)
    (subst (λ (x : List ℕ). IsWritten most leaving late x left' was' is' c e) (sym b)
    (subst (λ (x : List ℕ). IsWritten most leaving late bytes x was' is' c e) (sym d)
    (subst (λ (x : Option Socket). IsWritten most leaving late bytes left x is' c e) (sym f)
    (subst (λ (x : Option Socket). IsWritten most leaving late bytes left was x c e) (sym g) written))))
