use Rattle.moo_dbtext_restore.proofs.Noded.{first_unsound_found}
use Rattle.moo_dbtext_restore.proofs.nodes.first_unsound.Goals as goal

pub returns : goal.returns
returns c =
    rw c.least_of-2.ensures (rw c.least_of.ensures
    (first_unsound_found c.args.links.now c.args.nodes.now c.requires.nodes c.first_misplaced-misplaced.result c.in_ok-endless.endless c.in_ok-unlisted.unlisted
    c.first_misplaced-misplaced.ensures c.in_ok-endless.ensures c.in_ok-unlisted.ensures))
