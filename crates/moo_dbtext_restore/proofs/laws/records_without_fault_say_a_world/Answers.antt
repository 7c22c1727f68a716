use Rattle.moo_dbtext_restore.proofs.Making.{parts_made, made_world_is_said}
use Rattle.moo_dbtext_restore.proofs.laws.records_without_fault_say_a_world.Goals as goal

pub returns : goal.returns
returns c = record {
  parts = λ r made parents places m t placed counted few few_players numbers. parts_made r placed counted made m parents places t few few_players numbers;
  world = λ r made parents places m t placed counted few few_players numbers. made_world_is_said r placed counted made m parents places t few few_players numbers;
}
