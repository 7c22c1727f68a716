use Rattle.std.proofs.Common.{◌≡◌, None, false, true, sym, ◌∙◌, subst, rules}
use Rattle.std.specs.Prelude.{IsSome}
use Rattle.slab.specs.Slab.{Slab, get}
use Rattle.moo_cli_sockets.specs.declared.socket.Socket.{Socket}
use Rattle.moo_server_core.specs.Application.{silence}
use Rattle.moo_server_core.specs.Server.{waiting_of}
use Rattle.moo_cli_sockets.specs.Coming.{held}
use Rattle.moo_cli_serve.specs.Room.{HasRoom}
use Rattle.moo_cli_serve.specs.Strangers.{leaves}
use Rattle.moo_cli_serve.specs.Writing.{IsWrittenTo}
use Rattle.moo_cli_serve.proofs.Coursing.{hands_none}
use Rattle.moo_cli_serve.proofs.Writing.{parts, stays, stays_room, unsent}
use Rattle.moo_cli_serve.proofs.leaving.write.Goals as goal

pub returns-then-not-contains-clause-handed : goal.returns-then-not-contains-clause-handed
returns-then-not-contains-clause-handed g c = (silence, hands_none g.S.Application.layer c.args.server.now)

pub returns-then-not-contains-clause-written : goal.returns-then-not-contains-clause-written
returns-then-not-contains-clause-written g c =
    unsent c.args.most_waiting c.args.is_late (leaves g.S.Application.layer c.args.server.now c.args.c) ((waiting_of g.S.Application.layer c.args.server.now).sent c.args.c)
    (get c.args.sockets.now.sockets c.args.c) c.args.c (λ some. search rules)

pub returns-clause-written : goal.returns-clause-written
returns-clause-written g c =
    let yes : c.is_parted.result ≡ true = search rules in
    let some : IsSome (held c.args.sockets.now.sockets c.args.c) = search rules in
    parts c.args.most_waiting c.args.is_late c.is_leaving-is_leaving.result (leaves g.S.Application.layer c.args.server.now c.args.c)
    c.take_output-output.result.items ((waiting_of g.S.Application.layer c.args.server.now).sent c.args.c) ((waiting_of g.S.Application.layer c.take_output-output.new.self).sent c.args.c)
    (get c.args.sockets.now.sockets c.args.c) (get c.close.new.self.sockets c.args.c) (held c.write.new.self.sockets c.args.c) c.args.c c.in_ok-waiting.waiting
    c.is_leaving-is_leaving.ensures c.take_output-output.ensures.all c.take_output-output.ensures.nothing (sym c.is_parted.ensures ∙ yes) some c.close.ensures.gone
    c.in_ok-waiting.ensures.sent c.in_ok-waiting.ensures.failed

pub returns-then-not-is_parted-clause-written : goal.returns-then-not-is_parted-clause-written
returns-then-not-is_parted-clause-written g c =
    let no : c.is_parted.result ≡ false = search rules in
    subst (λ (s : Slab Socket). IsWrittenTo g.S.Application.layer c.args.most_waiting c.args.is_late c.args.server.now c.take_output-output.new.self c.args.sockets.now.sockets s c.args.c None)
    (sym c.keep_writable.ensures.same)
    (stays c.args.most_waiting c.args.is_late c.is_leaving-is_leaving.result (leaves g.S.Application.layer c.args.server.now c.args.c)
    c.take_output-output.result.items ((waiting_of g.S.Application.layer c.args.server.now).sent c.args.c) ((waiting_of g.S.Application.layer c.take_output-output.new.self).sent c.args.c)
    (get c.args.sockets.now.sockets c.args.c) (get c.write.new.self.sockets c.args.c) c.args.c c.in_ok-waiting.waiting
    c.is_leaving-is_leaving.ensures c.take_output-output.ensures.all c.take_output-output.ensures.nothing (sym c.is_parted.ensures ∙ no) (c.in_ok-waiting.ensures.kept c.args.c) c.in_ok-waiting.ensures.sent)

pub returns-then-not-is_parted-clause-room : goal.returns-then-not-is_parted-clause-room
returns-then-not-is_parted-clause-room g c =
    let no : c.is_parted.result ≡ false = search rules in
    subst (λ (s : Slab Socket). HasRoom c.args.most_waiting s c.args.c) (sym c.keep_writable.ensures.same)
    (stays_room c.args.most_waiting c.args.is_late c.is_leaving-is_leaving.result c.take_output-output.result.items
    (held c.args.sockets.now.sockets c.args.c) (held c.write.new.self.sockets c.args.c) c.in_ok-waiting.waiting (sym c.is_parted.ensures ∙ no) c.in_ok-waiting.ensures.sent)
