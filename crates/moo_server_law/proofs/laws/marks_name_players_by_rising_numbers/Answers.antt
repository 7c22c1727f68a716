use Rattle.moo_server_law.proofs.Order.{numbers_rise}
use Rattle.moo_server_law.proofs.laws.marks_name_players_by_rising_numbers.Goals as goal

pub returns : goal.returns
returns c = numbers_rise
