use Rattle.std.proofs.Common.{ℕ, ◌<◌, ◌≤◌, length, get_or}
use Rattle.moo_cli_sockets.specs.Reading.{IsAlike}
use Rattle.moo_cli_serve.specs.Room.{HasRoom}
use Rattle.moo_cli_serve.proofs.Writing.{AreWritten}
use Rattle.moo_cli_serve.proofs.leaving.write_all.Given as goal

-- The numbers before the index are written to. They are below n, and the others aren't. All below n have room.
abbrev pub invariant-loop-c : goal.invariant-loop-c
invariant-loop-c g l =
    (n : ℕ) × AreWritten g.S.Application.layer l.most_waiting l.late.items n l.initial.server l.server l.fn.sockets.sockets l.sockets.sockets l.parted.items
    × (n ≤ 65536)
    × ((j d : ℕ) → j < l.c-index → get_or l.c-items j d < n)
    × ((j d : ℕ) → l.c-index ≤ j → j < length l.c-items → n ≤ get_or l.c-items j d)
    × ((k : ℕ) → k < n → HasRoom l.most_waiting l.sockets.sockets k)
    × IsAlike l.fn.sockets l.sockets
