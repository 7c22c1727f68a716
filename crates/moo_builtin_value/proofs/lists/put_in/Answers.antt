use Rattle.moo_builtin_value.proofs.NewLists.{made_gives}
use Rattle.moo_builtin_value.proofs.lists.put_in.Goals as goal

pub returns : goal.returns
returns c = made_gives _ _ _ c.inserted.ensures.ok c.inserted.ensures.limits c.inserted.ensures.err c.list_answer.ensures
