use Rattle.std.proofs.Common.{◌≡◌, ℕ, ◌+◌, ◌<◌, ◌≤◌, Bool, List, length, get_or, Contains, refl, sym, ◌∙◌, ap, subst, arith, rules}
use Rattle.std.proofs.Common.{inl}
use Rattle.std.specs.List.{AllPairs}
use Rattle.std.proofs.lemmas.List.{get_or_default}
use Rattle.slab.specs.Slab.{Slab, get}
use Rattle.moo_cli_sockets.specs.declared.socket.Socket.{Socket}
use Rattle.moo_cli_sockets.proofs.Elements.{visited_more}
use Rattle.moo_server_core.specs.Application.{silence, then_out}
use Rattle.moo_cli_serve.specs.Idle.{IsIdle}
use Rattle.moo_cli_serve.specs.Silence.{is_silent}
use Rattle.moo_cli_serve.specs.Writing.{IsWrittenTo, is_among}
use Rattle.moo_cli_serve.proofs.Coursing.{hands_join, hands_none}
use Rattle.moo_cli_serve.proofs.Idling.{between_due, past_due}
use Rattle.moo_cli_serve.proofs.Writing.{room_all, room_more, written_all, written_gap, written_more}
use Rattle.moo_cli_serve.proofs.leaving.write_all.Goals as goal

pub loop-c-init : goal.loop-c-init
loop-c-init g c = (
  0,
  record {
    handed = (silence, hands_none g.S.Application.layer c.args.server.now);
    each = c.new-parted.ensures.items;
    left = λ k from. record { socket = ap (λ (s : Slab Socket). get s k) c.due.ensures.same; waiting = refl };
    log = refl;
  },
  omega arith,
  λ j d less. absurd (omega (arith, less)),
  λ j d from below. omega arith,
  λ k less. absurd (omega (arith, less)),
  c.due.ensures.alike,
)

pub returns-in_err-late-clause-handed : goal.returns-in_err-late-clause-handed
returns-in_err-late-clause-handed g c = (silence, hands_none g.S.Application.layer c.args.server.now)

pub returns-in_err-due-clause-handed : goal.returns-in_err-due-clause-handed
returns-in_err-due-clause-handed g c = (silence, hands_none g.S.Application.layer c.args.server.now)

pub returns-in_err-event-clause-handed : goal.returns-in_err-event-clause-handed
returns-in_err-event-clause-handed g c =
    let so_far = c.loop-c.invariant.1.handed in
    let now = c.in_err-event.ensures.handed in
    (then_out so_far.0 now.0, hands_join g.S.Application.layer so_far.0 now.0 c.args.server.now c.loop-c.server c.write.new.server so_far.1 now.1)

pub returns-in_err-put-clause-handed : goal.returns-in_err-put-clause-handed
returns-in_err-put-clause-handed g c =
    let so_far = c.loop-c.invariant.1.handed in
    let now = c.in_ok-event.ensures.handed in
    (then_out so_far.0 now.0, hands_join g.S.Application.layer so_far.0 now.0 c.args.server.now c.loop-c.server c.write.new.server so_far.1 now.1)

pub loop-c-preserved : goal.loop-c-preserved
loop-c-preserved g c =
    let numbers : List ℕ = c.deref-c-items.result.now in
    let i = c.loop-c.c-index in
    let number : ℕ = get_or numbers i 0 in
    let so_far = c.loop-c.invariant in
    let late : List ℕ = c.in_ok-late.late.items in
    let old : Slab Socket = c.args.sockets.now.sockets in
    let rest : (k : ℕ) → k < 65536 → (Contains c.in_ok-due.due.items k → ⊥) → IsIdle g.S.Application.layer c.args.is_settled late c.args.server.now old k =
    λ k small none.
    subst (λ (s : Slab Socket). IsIdle g.S.Application.layer c.args.is_settled late c.args.server.now s k) c.due.ensures.same
    (subst (λ (ls : List ℕ). IsIdle g.S.Application.layer c.args.is_settled ls c.args.server.now c.due.new.sockets.sockets k) c.deref.ensures.value (c.in_ok-due.ensures.rest k small none)) in
    let within : i < length numbers = c.loop-c-test.true in
    let rising : AllPairs (λ (a b : ℕ). a < b) numbers = subst (λ (ns : List ℕ). AllPairs (λ (a b : ℕ). a < b) ns) (sym c.deref-c-items.ensures.value) c.in_ok-due.ensures.rising in
    let up : so_far.0 ≤ number = so_far.4 i 0 (omega arith) within in
    let small : number < 65536 = search rules in
    let idle : (k : ℕ) → so_far.0 ≤ k → k < number → IsIdle g.S.Application.layer c.args.is_settled late c.args.server.now old k =
    λ k from below.
    rest k (omega (arith, below, small))
    (λ there. between_due numbers i so_far.0 k rising so_far.3 within from (omega (arith, below, get_or_default numbers i 0 k within))
    (subst (λ (ns : List ℕ). Contains ns k) (sym c.deref-c-items.ensures.value) there)) in
    let before = so_far.1.handed in
    let now = c.in_ok-event.ensures.handed in
    let flag : c.is_among-is_late.result ≡ is_among late number = search rules in (
      number + 1,
      written_more g.S.Application.layer c.args.most_waiting late number c.args.server.now c.loop-c.server c.write.new.server
          old c.loop-c.sockets.sockets c.write.new.sockets.sockets c.loop-c.parted.items c.put.new.events.items c.in_ok-event.event
          (written_gap g.S.Application.layer c.args.most_waiting c.args.is_settled late so_far.0 number c.args.server.now c.loop-c.server old c.loop-c.sockets.sockets c.loop-c.parted.items
          up (omega (arith, small)) idle c.requires so_far.1)
          (then_out before.0 now.0, hands_join g.S.Application.layer before.0 now.0 c.args.server.now c.loop-c.server c.write.new.server before.1 now.1)
          (subst (λ (b : Bool). IsWrittenTo g.S.Application.layer c.args.most_waiting b c.loop-c.server c.write.new.server c.loop-c.sockets.sockets c.write.new.sockets.sockets number c.in_ok-event.event) flag
          c.in_ok-event.ensures.written)
          c.in_ok-event.ensures.others c.write.ensures.log c.in_ok-put.ensures,
      omega (arith, small),
      visited_more (λ (k : ℕ). k < number + 1) numbers i number within (get_or_default numbers i 0 number within) (λ j d less. omega (arith, so_far.3 j d less, up)) (omega arith),
      λ j d from below. omega (arith, rising i j d (omega (arith, from)) below, get_or_default numbers i 0 d within),
      room_more g.S.Application.layer c.args.most_waiting c.args.is_settled late so_far.0 number c.args.server.now c.loop-c.server c.write.new.server
          old c.loop-c.sockets.sockets c.write.new.sockets.sockets small idle c.requires so_far.1.left c.in_ok-event.ensures.others c.in_ok-event.ensures.room so_far.5,
      (c.write.ensures.alike.0 ∙ so_far.6.0, c.write.ensures.alike.1 ∙ so_far.6.1),
    )

pub returns-clause-handed : goal.returns-clause-handed
returns-clause-handed g c = c.loop-c.invariant.1.handed

pub returns-clause-written : goal.returns-clause-written
returns-clause-written g c =
    let numbers : List ℕ = c.deref-c-items.result.now in
    let so_far = c.loop-c.invariant in
    let late : List ℕ = c.in_ok-late.late.items in
    let old : Slab Socket = c.args.sockets.now.sockets in
    let rest : (k : ℕ) → k < 65536 → (Contains c.in_ok-due.due.items k → ⊥) → IsIdle g.S.Application.layer c.args.is_settled late c.args.server.now old k =
    λ k small none.
    subst (λ (s : Slab Socket). IsIdle g.S.Application.layer c.args.is_settled late c.args.server.now s k) c.due.ensures.same
    (subst (λ (ls : List ℕ). IsIdle g.S.Application.layer c.args.is_settled ls c.args.server.now c.due.new.sockets.sockets k) c.deref.ensures.value (c.in_ok-due.ensures.rest k small none)) in
    let idle : (k : ℕ) → so_far.0 ≤ k → k < 65536 → IsIdle g.S.Application.layer c.args.is_settled late c.args.server.now old k =
    λ k from below.
    rest k below
    (λ there. past_due numbers c.loop-c.c-index so_far.0 k so_far.3 (omega (arith, c.loop-c-test.false)) from
    (subst (λ (ns : List ℕ). Contains ns k) (sym c.deref-c-items.ensures.value) there)) in
    written_all g.S.Application.layer c.args.most_waiting (is_silent c.find_late.new.self.silence c.args.now) late 65536 c.args.server.now c.loop-c.server old c.loop-c.sockets.sockets c.loop-c.parted.items (inl (omega arith))
    c.in_ok-late.ensures.late
    (written_gap g.S.Application.layer c.args.most_waiting c.args.is_settled late so_far.0 65536 c.args.server.now c.loop-c.server old c.loop-c.sockets.sockets c.loop-c.parted.items
    so_far.2 (omega arith) idle c.requires so_far.1)

pub returns-clause-room : goal.returns-clause-room
returns-clause-room g c =
    let numbers : List ℕ = c.deref-c-items.result.now in
    let so_far = c.loop-c.invariant in
    let late : List ℕ = c.in_ok-late.late.items in
    let old : Slab Socket = c.args.sockets.now.sockets in
    let rest : (k : ℕ) → k < 65536 → (Contains c.in_ok-due.due.items k → ⊥) → IsIdle g.S.Application.layer c.args.is_settled late c.args.server.now old k =
    λ k small none.
    subst (λ (s : Slab Socket). IsIdle g.S.Application.layer c.args.is_settled late c.args.server.now s k) c.due.ensures.same
    (subst (λ (ls : List ℕ). IsIdle g.S.Application.layer c.args.is_settled ls c.args.server.now c.due.new.sockets.sockets k) c.deref.ensures.value (c.in_ok-due.ensures.rest k small none)) in
    room_all g.S.Application.layer c.args.most_waiting c.args.is_settled late so_far.0 c.args.server.now c.loop-c.server old c.loop-c.sockets.sockets
    (λ k from below.
    rest k below
    (λ there. past_due numbers c.loop-c.c-index so_far.0 k so_far.3 (omega (arith, c.loop-c-test.false)) from
    (subst (λ (ns : List ℕ). Contains ns k) (sym c.deref-c-items.ensures.value) there)))
    c.requires so_far.1.left so_far.5
