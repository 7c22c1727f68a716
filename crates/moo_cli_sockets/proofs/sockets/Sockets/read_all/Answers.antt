use Rattle.std.proofs.Common.{◌≡◌, ℕ, ◌+◌, ◌<◌, ◌≤◌, List, [], ◌++◌, length, get_or, Contains, Option, inl, refl, sym, ◌∙◌, ap, subst, append_assoc, arith}
use Rattle.std.specs.List.{AllPairs}
use Rattle.std.proofs.lemmas.List.{append-nil, get_or_default}
use Rattle.moo_server_core.specs.declared.event.Event.{Event}
use Rattle.slab.specs.Slab.{Slab, get}
use Rattle.moo_cli_sockets.specs.declared.socket.Socket.{Socket}
use Rattle.moo_cli_sockets.specs.Coming.{Each, Follow, IsListed, IsRead, held, only}
use Rattle.moo_cli_sockets.specs.Reading.{Brings}
use Rattle.moo_cli_sockets.proofs.Counting.{each_gap, each_map, each_more, reads_leave}
use Rattle.moo_cli_sockets.proofs.Elements.{visited_more}
use Rattle.moo_cli_sockets.proofs.Listing.{listed_on}
use Rattle.moo_cli_sockets.proofs.Sent.{follow_append}
use Rattle.moo_cli_sockets.proofs.sockets.Sockets.read_all.Goals as goal

pub loop-c-init : goal.loop-c-init
loop-c-init c = (0, [], refl, λ k. refl, sym (append-nil c.args.events.now.items), λ j d from below. omega arith, λ j d less. absurd (omega (arith, less)), refl, λ k from. refl, (refl, refl))

pub loop-c-preserved : goal.loop-c-preserved
loop-c-preserved c =
    let numbers : List ℕ = c.deref-c-items.result.now in
    let i = c.loop-c.c-index in
    let number : ℕ = get_or numbers i 0 in
    let so_far = c.loop-c.invariant in
    let event = c.in_ok-event.event in
    let within : i < length numbers = c.loop-c-test.true in
    let rising : AllPairs (λ (a b : ℕ). a < b) numbers = subst (λ (ns : List ℕ). AllPairs (λ (a b : ℕ). a < b) ns) (sym c.deref-c-items.ensures.value) c.sort_numbers.ensures.rising in
    let up : so_far.0 ≤ number = so_far.5 i 0 (omega arith) within in
    let each : Each (λ k e. IsRead (held c.args.self.now.sockets k) k e) number so_far.1 =
    each_gap (λ k e. IsRead (held c.args.self.now.sockets k) k e) so_far.0 number so_far.1 up (λ k from below. tt) so_far.2 in
    let reads = so_far.1 ++ only event in
    let here : held c.loop-c.self.sockets number ≡ held c.args.self.now.sockets number =
    so_far.3 number ∙ reads_leave (λ (k : ℕ). held c.args.self.now.sockets k) number number (held c.args.self.now.sockets number) so_far.1 (omega arith) each in
    let is : IsRead (held c.args.self.now.sockets number) number event = subst (λ (w : Option (List ℕ)). IsRead w number event) here c.in_ok-event.ensures.read.0 in
    let same : c.keep_readable.new.self.sockets ≡ c.read.new.self.sockets = c.keep_readable.ensures.same in
    let now : Slab Socket = c.keep_readable.new.self.sockets in
    let others : (k : ℕ) → (k ≡ number → ⊥) → get now k ≡ get c.loop-c.self.sockets k =
    λ k differs. ap (λ (s : Slab Socket). get s k) same ∙ c.read.ensures.others k differs in
    let brings_before : Each (λ k e. Brings (get c.args.self.now.sockets k) e (get now k)) number so_far.1 =
    each_map (λ k e. Brings (get c.args.self.now.sockets k) e (get c.loop-c.self.sockets k)) (λ k e. Brings (get c.args.self.now.sockets k) e (get now k)) number so_far.1
    (λ k less e is. subst (λ (slot : Option Socket). Brings (get c.args.self.now.sockets k) e slot) (sym (others k (λ is. omega (arith, is, less)))) is)
    (each_gap (λ k e. Brings (get c.args.self.now.sockets k) e (get c.loop-c.self.sockets k)) so_far.0 number so_far.1 up (λ k from below. inl (so_far.8 k from)) so_far.7) in
    let brings_here : Brings (get c.args.self.now.sockets number) event (get now number) =
    subst (λ (s : Slab Socket). Brings (get c.args.self.now.sockets number) event (get s number)) (sym same)
    (subst (λ (slot : Option Socket). Brings slot event (get c.read.new.self.sockets number)) (so_far.8 number up) c.in_ok-event.ensures.brings) in (
      number + 1,
      reads,
      each_more (λ k e. IsRead (held c.args.self.now.sockets k) k e) number so_far.1 reads event each is refl,
      follow_append so_far.1 (only event) reads c.args.self.now.sockets c.loop-c.self.sockets c.keep_readable.new.self.sockets refl so_far.3
          (subst (λ (s : Slab Socket). Follow (only event) c.loop-c.self.sockets s) (sym same) c.in_ok-event.ensures.read.1),
      c.in_ok-put.ensures ∙ ap (λ (es : List Event). es ++ only event) so_far.4 ∙ append_assoc c.args.events.now.items so_far.1 (only event),
      λ j d from below. omega (arith, rising i j d (omega (arith, from)) below, get_or_default numbers i 0 d within),
      visited_more (λ (k : ℕ). IsListed c.keep_readable.new.self.readable.items c.keep_readable.new.self.sockets k) numbers i number within (get_or_default numbers i 0 number within)
          (λ j d less.
          listed_on c.loop-c.self.readable.items c.keep_readable.new.self.readable.items c.loop-c.self.sockets c.keep_readable.new.self.sockets (get_or numbers j d)
          (ap (λ (s : Slab Socket). get s (get_or numbers j d)) same
          ∙ c.read.ensures.others (get_or numbers j d) (λ e. omega (arith, e, rising j i d less within, get_or_default numbers i 0 d within)))
          (λ k there. c.in_ok-keep_readable.ensures.others k (subst (λ ns. Contains ns.items k) (sym c.read.ensures.listed) there))
          (so_far.6 j d less))
          c.in_ok-keep_readable.ensures.listed,
      each_more (λ k e. Brings (get c.args.self.now.sockets k) e (get now k)) number so_far.1 reads event brings_before brings_here refl,
      λ k from. others k (λ e. omega (arith, e, from)) ∙ so_far.8 k (omega (arith, from, up)),
      (c.keep_readable.ensures.alike.0 ∙ c.read.ensures.alike.0 ∙ so_far.9.0, c.keep_readable.ensures.alike.1 ∙ c.read.ensures.alike.1 ∙ so_far.9.1),
    )

pub returns-clause-read : goal.returns-clause-read
returns-clause-read c = let all = c.loop-c.invariant in (all.0, all.1, all.2, all.3, all.4, all.7, all.8)

pub returns-clause-listed : goal.returns-clause-listed
returns-clause-listed c k was =
    let numbers : List ℕ = c.deref-c-items.result.now in
    let moved : Contains c.replace-numbers.result.items k = subst (λ ns. Contains ns.items k) (sym c.replace-numbers.ensures.value) was in
    let there : Contains numbers k = subst (λ (ns : List ℕ). Contains ns k) (sym c.deref-c-items.ensures.value) (c.sort_numbers.ensures.kept k moved) in
    let listed : IsListed c.loop-c.self.readable.items c.loop-c.self.sockets (get_or numbers there.0 k) = c.loop-c.invariant.6 there.0 k (omega (arith, there.1, c.loop-c-test.false)) in
    subst (λ (n : ℕ). IsListed c.loop-c.self.readable.items c.loop-c.self.sockets n) there.2 listed
