use Rattle.std.proofs.Common.{◌≡◌, List, [], ◌++◌, inl, inr, true, refl, sym, ◌∙◌, subst, rules}
use Rattle.std.proofs.lemmas.Bool.{true≢false}
use Rattle.std.proofs.lemmas.Result.{err_from_is_err_and}
use Rattle.moo_server_core.specs.declared.event.Event.{Event}
use Rattle.moo_cli_serve.specs.Course.{Given}
use Rattle.moo_cli_serve.specs.Room.{HaveRoom}
use Rattle.moo_cli_serve.specs.Rounds.{GivenIfOpen}
use Rattle.moo_cli_serve.specs.Silence.{Listens}
use Rattle.moo_cli_serve.proofs.Events.{cuts_none}
use Rattle.moo_cli_serve.proofs.Hearing.{listens_kept}
use Rattle.moo_cli_serve.proofs.Idling.{room_follows, room_same}
use Rattle.moo_cli_serve.proofs.Serviced.{refused_of}
use Rattle.moo_cli_serve.proofs.Rounding.{begins_on, follows_end, rests_hold}
use Rattle.moo_cli_serve.proofs.serving.Serving.turn.Goals as goal

pub invariant_of-clients : goal.invariant_of-clients
invariant_of-clients g c = record { room = λ on. absurd (true≢false (sym on ∙ c.replace-is_settled.ensures.after)) }

pub invariant_of-clients-in-Break-branch-2 : goal.invariant_of-clients-in-Break-branch-2
invariant_of-clients-in-Break-branch-2 g c = record { room = λ on. absurd (true≢false (sym on ∙ c.replace-is_settled.ensures.after)) }

pub invariant_of-clients-in-Break-branch-3 : goal.invariant_of-clients-in-Break-branch-3
invariant_of-clients-in-Break-branch-3 g c = record { room = λ on. absurd (true≢false (sym on ∙ c.replace-is_settled.ensures.after)) }

pub invariant_of-clients-in-Break-branch-4 : goal.invariant_of-clients-in-Break-branch-4
invariant_of-clients-in-Break-branch-4 g c = record { room = λ on. absurd (true≢false (sym on ∙ c.replace-is_settled.ensures.after)) }

pub invariant_of-clients-in-Break-branch-5 : goal.invariant_of-clients-in-Break-branch-5
invariant_of-clients-in-Break-branch-5 g c = record { room = λ on. absurd (true≢false (sym on ∙ c.replace-is_settled.ensures.after)) }

pub invariant_of-clients-2 : goal.invariant_of-clients-2
invariant_of-clients-2 g c = record { room = λ on. c.in_ok-parted.ensures.room }

pub returns-in_err-look-clause-follows : goal.returns-in_err-look-clause-follows
returns-in_err-look-clause-follows g c = record { still = c.requires.still; continues = c.requires.continues }

pub returns-in_err-look-clause-round : goal.returns-in_err-look-clause-round
returns-in_err-look-clause-round g c = search rules

pub returns-in_err-came-clause-follows : goal.returns-in_err-came-clause-follows
returns-in_err-came-clause-follows g c = record { still = c.requires.still; continues = c.requires.continues }

pub returns-in_err-came-clause-round : goal.returns-in_err-came-clause-round
returns-in_err-came-clause-round g c = search rules

pub returns-in_err-hear-clause-follows : goal.returns-in_err-hear-clause-follows
returns-in_err-hear-clause-follows g c = record { still = c.requires.still; continues = c.requires.continues }

pub returns-in_err-hear-clause-round : goal.returns-in_err-hear-clause-round
returns-in_err-hear-clause-round g c = search rules

pub give-given-requires : goal.give-given-requires
give-given-requires g c = record { still = c.requires.still; continues = c.requires.continues }

pub returns-in_err-given-clause-follows : goal.returns-in_err-given-clause-follows
returns-in_err-given-clause-follows g c = c.in_err-given.ensures.follows

pub returns-in_err-given-clause-round : goal.returns-in_err-given-clause-round
returns-in_err-given-clause-round g c = search rules

pub write_all-requires : goal.write_all-requires
write_all-requires g c settled =
    let was : c.args.self.now.clients.is_settled ≡ true = sym c.replace-is_settled.ensures.value ∙ settled in
    let looked : HaveRoom c.args.self.now.clients.most_waiting c.look.new.self.sockets =
    room_same c.args.self.now.clients.most_waiting c.args.self.now.clients.sockets.sockets c.look.new.self.sockets (c.args.self.now.clients.room was)
    (rests_hold c.args.self.now.clients.sockets c.rest.new.self c.look.new.self (record { same = c.rest.ensures.same; alike = c.rest.ensures.alike; held = c.look.ensures.held; still = c.look.ensures.still; then_alike = c.look.ensures.alike })) in
    room_follows c.args.self.now.clients.most_waiting c.in_ok-came.ensures.came c.look.new.self.sockets c.come.new.sockets.sockets looked c.in_ok-came.ensures.comes.follow

pub returns-in_err-parted-clause-follows : goal.returns-in_err-parted-clause-follows
returns-in_err-parted-clause-follows g c =
    follows_end g.S.Application.layer g.D.Disk.kind
    c.give-given.new.server c.write_all.new.server c.give-given.new.disk c.in_ok-given.ensures.follows c.in_err-parted.ensures.handed

pub returns-in_err-parted-clause-round : goal.returns-in_err-parted-clause-round
returns-in_err-parted-clause-round g c = search rules

pub give_if_open-requires : goal.give_if_open-requires
give_if_open-requires g c =
    follows_end g.S.Application.layer g.D.Disk.kind
    c.give-given.new.server c.write_all.new.server c.give-given.new.disk c.in_ok-given.ensures.follows c.in_ok-parted.ensures.handed

pub returns-in_err-give_if_open-clause-follows : goal.returns-in_err-give_if_open-clause-follows
returns-in_err-give_if_open-clause-follows g c = c.in_err-give_if_open.ensures.follows

pub returns-in_err-give_if_open-clause-round : goal.returns-in_err-give_if_open-clause-round
returns-in_err-give_if_open-clause-round g c = search rules

pub returns-clause-follows : goal.returns-clause-follows
returns-clause-follows g c = c.in_ok-give_if_open.ensures.follows

pub returns-clause-round : goal.returns-clause-round
returns-clause-round g c = record {
  first = c.in_ok-came.came.items;
  read = c.come.new.sockets;
  begins = begins_on c.args.self.now.clients.sockets c.rest.new.self c.look.new.self c.come.new.sockets c.args.self.now.console c.come.new.console c.args.self.now.moment c.come.new.moment c.in_ok-came.came.items
      (record { same = c.rest.ensures.same; alike = c.rest.ensures.alike; held = c.look.ensures.held; still = c.look.ensures.still; then_alike = c.look.ensures.alike }) c.in_ok-came.ensures;
  second = c.as_secs-second.result;
  listens = listens_kept c.as_secs-second.result c.in_ok-came.came.items c.args.self.now.timeouts.silence c.hear.new.self c.write_all.new.timeouts.silence
      (subst (λ (es : List Event). Listens c.as_secs-second.result es c.args.self.now.timeouts.silence c.hear.new.self) c.deref.ensures.value c.in_ok-hear.ensures)
      c.in_ok-parted.ensures.heard c.in_ok-parted.ensures.limit;
  given = c.give-given.new.server;
  between = c.give-given.new.disk;
  gives = subst (λ (es : List Event). Given g.S.Application.layer g.D.Disk.kind c.args.self.now.server c.args.self.now.disk es c.give-given.new.server c.give-given.new.disk)
      c.deref-2.ensures.value c.in_ok-given.ensures.all;
  parted = c.in_ok-parted.parted.items;
  written = c.write_all.new.server;
  writes = c.in_ok-parted.ensures.written;
  alike = c.in_ok-parted.ensures.alike;
  handed = c.in_ok-parted.ensures.handed;
  ends = subst (λ (es : List Event). GivenIfOpen g.S.Application.layer g.D.Disk.kind c.write_all.new.server c.give-given.new.disk es c.give_if_open.new.server c.give_if_open.new.disk)
      c.deref-3.ensures.value c.in_ok-give_if_open.ensures.all;
  most_is = refl;
  logins_are = c.in_ok-parted.ensures.logins;
}

pub returns-in_err-look-clause-ended : goal.returns-in_err-look-clause-ended
returns-in_err-look-clause-ended g c =
    let p = err_from_is_err_and c.from_residual.result c.from_residual.ensures.1 in
    rw (p.1, p.2) ([], cuts_none g.S.Application.layer g.D.Disk.kind c.args.self.now _)

pub returns-in_err-came-clause-ended : goal.returns-in_err-came-clause-ended
returns-in_err-came-clause-ended g c =
    let p = err_from_is_err_and c.from_residual-in_err-came.result c.from_residual-in_err-came.ensures.1 in
    rw (p.1, p.2) ([], cuts_none g.S.Application.layer g.D.Disk.kind c.args.self.now _)

pub returns-in_err-hear-clause-ended : goal.returns-in_err-hear-clause-ended
returns-in_err-hear-clause-ended g c =
    let p = err_from_is_err_and c.from_residual-in_err-hear.result c.from_residual-in_err-hear.ensures.1 in
    rw (p.1, p.2) ([], cuts_none g.S.Application.layer g.D.Disk.kind c.args.self.now _)

pub returns-in_err-given-clause-ended : goal.returns-in_err-given-clause-ended
returns-in_err-given-clause-ended g c =
    let p = err_from_is_err_and c.from_residual-in_err-given.result c.from_residual-in_err-given.ensures.1 in
    let refused =
    refused_of g.S.Application.layer g.D.Disk.kind _ _ c.in_ok-came.came.items
    c.args.self.now.server c.give-given.new.server c.args.self.now.disk c.give-given.new.disk c.deref-2.ensures.value c.in_err-given.ensures.refused in
    rw (p.1, p.2) (
      refused.taken,
      record {
        first = c.in_ok-came.came.items;
        read = c.come.new.sockets;
        typing = c.come.new.console;
        begins = begins_on c.args.self.now.clients.sockets c.rest.new.self c.look.new.self c.come.new.sockets c.args.self.now.console c.come.new.console c.args.self.now.moment c.come.new.moment c.in_ok-came.came.items
            (record { same = c.rest.ensures.same; alike = c.rest.ensures.alike; held = c.look.ensures.held; still = c.look.ensures.still; then_alike = c.look.ensures.alike }) c.in_ok-came.ensures;
        refused = inl (refused, refl);
      },
    )

pub returns-in_err-parted-clause-ended : goal.returns-in_err-parted-clause-ended
returns-in_err-parted-clause-ended g c =
    let p = err_from_is_err_and c.from_residual-in_err-parted.result c.from_residual-in_err-parted.ensures.1 in
    rw (p.1, p.2) (
      c.in_ok-came.came.items,
      record {
        events_are = inr (
          c.come.new.sockets,
          c.come.new.console,
          begins_on c.args.self.now.clients.sockets c.rest.new.self c.look.new.self c.come.new.sockets
              c.args.self.now.console c.come.new.console c.args.self.now.moment c.come.new.moment c.in_ok-came.came.items (record { same = c.rest.ensures.same; alike = c.rest.ensures.alike; held = c.look.ensures.held; still = c.look.ensures.still; then_alike = c.look.ensures.alike }) c.in_ok-came.ensures,
        );
        given = c.give-given.new.server;
        gives = subst (λ (es : List Event). Given g.S.Application.layer g.D.Disk.kind c.args.self.now.server c.args.self.now.disk es c.give-given.new.server c.give-given.new.disk)
            c.deref-2.ensures.value c.in_ok-given.ensures.all;
        handed = c.in_err-parted.ensures.handed;
      },
    )

pub returns-in_err-give_if_open-clause-ended : goal.returns-in_err-give_if_open-clause-ended
returns-in_err-give_if_open-clause-ended g c =
    let p = err_from_is_err_and c.from_residual-in_err-give_if_open.result c.from_residual-in_err-give_if_open.ensures.1 in
    let refused =
    refused_of g.S.Application.layer g.D.Disk.kind _ _ c.in_ok-parted.parted.items
    c.write_all.new.server c.give_if_open.new.server c.give-given.new.disk c.give_if_open.new.disk c.deref-3.ensures.value c.in_err-give_if_open.ensures.refused in
    rw (p.1, p.2) (
      c.in_ok-came.came.items ++ refused.taken,
      record {
        first = c.in_ok-came.came.items;
        read = c.come.new.sockets;
        typing = c.come.new.console;
        begins = begins_on c.args.self.now.clients.sockets c.rest.new.self c.look.new.self c.come.new.sockets c.args.self.now.console c.come.new.console c.args.self.now.moment c.come.new.moment c.in_ok-came.came.items
            (record { same = c.rest.ensures.same; alike = c.rest.ensures.alike; held = c.look.ensures.held; still = c.look.ensures.still; then_alike = c.look.ensures.alike }) c.in_ok-came.ensures;
        refused = inr (
          record {
            given = c.give-given.new.server;
            between = c.give-given.new.disk;
            gives = subst (λ (es : List Event). Given g.S.Application.layer g.D.Disk.kind c.args.self.now.server c.args.self.now.disk es c.give-given.new.server c.give-given.new.disk)
                c.deref-2.ensures.value c.in_ok-given.ensures.all;
            parted = c.in_ok-parted.parted.items;
            written = c.write_all.new.server;
            left = c.write_all.new.sockets.sockets;
            second = c.as_secs-second.result;
            listened = c.write_all.new.timeouts.silence;
            listens = listens_kept c.as_secs-second.result c.in_ok-came.came.items c.args.self.now.timeouts.silence c.hear.new.self c.write_all.new.timeouts.silence
                (subst (λ (es : List Event). Listens c.as_secs-second.result es c.args.self.now.timeouts.silence c.hear.new.self) c.deref.ensures.value c.in_ok-hear.ensures)
                c.in_ok-parted.ensures.heard c.in_ok-parted.ensures.limit;
            writes = c.in_ok-parted.ensures.written;
            handed = c.in_ok-parted.ensures.handed;
            refused = refused;
          },
          refl,
        );
      },
    )

pub returns-clause-ended : goal.returns-clause-ended
returns-clause-ended g c = tt
