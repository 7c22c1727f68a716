use Rattle.std.proofs.Common.{◌≡◌, ◌∷◌, take}
use Rattle.moo_session.proofs.dispatch.all_words.Given as goal

abbrev pub invariant-loop-word : goal.invariant-loop-word
invariant-loop-word l = l.words.items ≡ l.typed.verb ∷ take l.word-index l.word-items
