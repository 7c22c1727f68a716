-- The flags of an object as a number.
use Rattle.std.specs.Prelude.{ℕ, ◌+◌, Bool, false, if◌then◌else◌}
use Rattle.moo_world_object.specs.declared.flags.Flags.{Flags}

-- the weight of a bit if it is set, else 0
abbrev pub bit : Bool → ℕ → ℕ
bit b weight = if b then weight else 0

abbrev pub flags_number : Flags → ℕ
flags_number f =
    bit f.player 1 + bit f.programmer 2 + bit f.wizard 4 + bit f.obsolete_8 8 + bit f.read 16 + bit f.write 32 + bit f.obsolete_64 64
    + bit f.fertile 128

abbrev pub no_flags : Flags
no_flags = record {
  player = false;
  programmer = false;
  wizard = false;
  obsolete_8 = false;
  read = false;
  write = false;
  obsolete_64 = false;
  fertile = false;
}
