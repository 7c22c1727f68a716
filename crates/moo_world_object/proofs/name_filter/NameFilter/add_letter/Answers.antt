use Rattle.std.proofs.Common.{rules, ◌%◌, ◌/◌, arith}
use Rattle.std.proofs.lemmas.Nat.Bits.{bit_at_ones}
use Rattle.moo_world_object.proofs.Filter.{widens, word_passes}
use Rattle.moo_world_object.proofs.name_filter.NameFilter.add_letter.Goals as goal

pub returns-clause-widens : goal.returns-clause-widens
returns-clause-widens c = widens c.args.self.now.words c.from.result 4294967295 (search (rules)) (λ k low bit. bit_at_ones 32 k low)

pub returns-clause-added : goal.returns-clause-added
returns-clause-added c = λ hash. rw (c.from.ensures) (word_passes c.args.self.now.words c.args.first hash 4294967295 (search (rules)) (bit_at_ones 32 (hash / 256 % 32) (omega arith)))
