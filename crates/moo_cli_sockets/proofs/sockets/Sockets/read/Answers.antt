use Rattle.std.proofs.Common.{None, Some, subst, sym}
use Rattle.slab.specs.Slab.{get}
use Rattle.moo_server_core.specs.declared.event.Event.TheVariants as the
use Rattle.moo_cli_sockets.specs.declared.socket.Came.{Came}
use Rattle.moo_cli_sockets.specs.declared.sockets.Sockets.{Sockets}
use Rattle.moo_cli_sockets.specs.Reading.{Brings, Reads}
use Rattle.moo_cli_sockets.proofs.Keeping.{brings_nothing, brings_piece}
use Rattle.moo_cli_sockets.proofs.sockets.Sockets.read.Goals.{then-is_writable+in_ok-push, else-is_writable}
use Rattle.moo_cli_sockets.proofs.sockets.Sockets.read.Goals as goal

pub returns-in-Bytes-clause-brings : goal.returns-in-Bytes-clause-brings
returns-in-Bytes-clause-brings c =
    let brings = brings_piece c.args.c c.from.result c.args.self.now.sockets c.in-Some.socket.now c.read.new.self c.in-Bytes.piece c.from.ensures c.in-Some.ensures.value
    (subst (λ (came : Came). Reads came c.in-Some.socket.now c.read.new.self) c.in-Bytes.is c.in_ok-came.ensures.reads) in
    elim c.if-is_writable.branch [
      | then-is_writable+in_ok-push w ↦
          subst (λ (s : Sockets). Brings (get c.args.self.now.sockets c.args.c) (Some (the.Bytes c.args.c c.in-Bytes.piece)) (get s.sockets c.args.c)) (sym w.self-is) brings
      | else-is_writable w ↦
          subst (λ (s : Sockets). Brings (get c.args.self.now.sockets c.args.c) (Some (the.Bytes c.args.c c.in-Bytes.piece)) (get s.sockets c.args.c)) (sym w.self-is) brings
    ]

pub returns-in-NothingYet-clause-brings : goal.returns-in-NothingYet-clause-brings
returns-in-NothingYet-clause-brings c =
    let brings = brings_nothing c.args.c c.from.result c.args.self.now.sockets c.in-Some.socket.now c.read.new.self c.from.ensures c.in-Some.ensures.value
    (subst (λ (came : Came). Reads came c.in-Some.socket.now c.read.new.self) c.in-NothingYet.is c.in_ok-came.ensures.reads) in
    elim c.if-is_writable.branch [
      | then-is_writable+in_ok-push w ↦ subst (λ (s : Sockets). Brings (get c.args.self.now.sockets c.args.c) None (get s.sockets c.args.c)) (sym w.self-is) brings
      | else-is_writable w ↦ subst (λ (s : Sockets). Brings (get c.args.self.now.sockets c.args.c) None (get s.sockets c.args.c)) (sym w.self-is) brings
    ]
