use Rattle.std.proofs.Common.{ℕ, List, sym, subst}
use Rattle.moo_dbtext_object.specs.Lines.{limited, unlimited}
use Rattle.moo_dbtext_read.specs.Saved.{Saved, SpellsSaved, SpellsSavedWithin}
use Rattle.moo_dbtext.proofs.Spelling.{spelled, spelled_within}
use Rattle.moo_dbtext.proofs.writing.write_world_and_connected.Goals as goal

pub returns-clause-spelled : goal.returns-clause-spelled
returns-clause-spelled c = λ few.
    let w = c.args.world.now in
    let whos = c.args.connected.now in
    subst (λ (bytes : List ℕ). SpellsSaved bytes (let s : Saved = record { world = w; connected = whos } in s)) (sym c.in_ok-bytes.ensures.bytes)
    (spelled w whos c.is_well_formed.ensures c.in_ok-bytes.ensures.held (c.in_ok-bytes.ensures.writable unlimited few))

pub returns-clause-within : goal.returns-clause-within
returns-clause-within c = λ few.
    let w = c.args.world.now in
    let whos = c.args.connected.now in
    subst (λ (bytes : List ℕ). SpellsSavedWithin bytes (let s : Saved = record { world = w; connected = whos } in s)) (sym c.in_ok-bytes.ensures.bytes)
    (spelled_within w whos c.is_well_formed.ensures c.in_ok-bytes.ensures.held (c.in_ok-bytes.ensures.writable limited few))
