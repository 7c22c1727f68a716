use Rattle.moo_dbtext_object.specs.Lines.{limited, unlimited}
use Rattle.moo_dbtext.proofs.Written.{written}
use Rattle.moo_dbtext.proofs.Spelling.{spelled, spelled_within}
use Rattle.moo_dbtext.proofs.laws.canonical_bytes_spell_the_saved_world.Goals as goal

pub returns : goal.returns
returns c = record {
  any = λ s k. spelled s.world s.connected k.formed k.held (written unlimited s.world s.connected k.formed k.held k.few);
  within = λ s k. spelled_within s.world s.connected k.formed k.held (written limited s.world s.connected k.formed k.held k.few);
}
