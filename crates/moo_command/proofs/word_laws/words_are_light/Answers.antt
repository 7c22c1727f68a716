use Rattle.moo_command.proofs.Light.{words_are_light, typed_is_light}
use Rattle.moo_command.proofs.word_laws.words_are_light.Goals as goal

pub returns-clause-words : goal.returns-clause-words
returns-clause-words c = words_are_light

pub returns-clause-typed : goal.returns-clause-typed
returns-clause-typed c = typed_is_light
