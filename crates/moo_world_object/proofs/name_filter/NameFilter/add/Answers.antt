use Rattle.std.proofs.Common.{rules, ◌%◌, ◌/◌, ◌*◌, ◌^◌, arith, bit_or, get_or}
use Rattle.moo_world_object.proofs.Filter.{widens, word_passes, bit_added, bit_kept}
use Rattle.moo_world_object.proofs.name_filter.NameFilter.add.Goals as goal

pub returns-clause-widens : goal.returns-clause-widens
returns-clause-widens c =
    let words = c.args.self.now.words in
    let bit = 1 * 2 ^ (c.args.hash / 256 % 32) % 4294967296 in
    widens words c.from-place.result (bit_or (get_or words c.from-place.result 0) bit) (search (rules)) (λ k low set. bit_kept (get_or words c.from-place.result 0) bit k set)

pub returns-clause-added : goal.returns-clause-added
returns-clause-added c =
    let words = c.args.self.now.words in
    let bit = 1 * 2 ^ (c.args.hash / 256 % 32) % 4294967296 in
    rw (c.from-place.ensures) (word_passes words c.args.first c.args.hash (bit_or (get_or words (c.args.first % 8) 0) bit) (search (rules)) (bit_added (get_or words (c.args.first % 8) 0) (c.args.hash / 256 % 32) (omega arith)))
