use Rattle.moo_session.proofs.Steps.{no_words_fit}
use Rattle.moo_session.proofs.checkpoints.no_values.Goals as goal

pub word_list-requires : goal.word_list-requires
word_list-requires c = no_words_fit c.new.result.items c.new.ensures.items
