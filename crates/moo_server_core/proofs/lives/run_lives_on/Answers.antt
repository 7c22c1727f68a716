use Rattle.std.proofs.Common.{◌≡◌, ◌++◌, ◌+◌, List, [], ◌∷◌, take, Some, sym, ◌∙◌, ap, subst, rules, arith}
use Rattle.std.proofs.lemmas.Grind.{common_steps}
use Rattle.std.proofs.lemmas.List.{take_all, take_more}
use Rattle.std.proofs.lemmas.Option.{slice_get-get_or}
use Rattle.moo_server_core.specs.declared.life.Life.{Life}
use Rattle.moo_server_core.specs.declared.life.LifeBegin.{LifeBegin}
use Rattle.moo_server_core.specs.Lives.{SoFar}
use Rattle.moo_server_core.proofs.Living.{so_far_more, so_far_none}
use Rattle.moo_server_core.proofs.lives.run_lives_on.Goals as goal

pub loop-place-init : goal.loop-place-init
loop-place-init g c = λ h s spells only.
    subst (λ (bs : List LifeBegin). SoFar g.S.Application.layer g.D.Disk.kind g.D.CrashDisk.images [] bs c.args.disk c.args.disk) (sym c.new-begins.ensures.items)
    (so_far_none g.S.Application.layer g.D.Disk.kind g.D.CrashDisk.images c.args.disk s h spells only)

pub loop-place-preserved : goal.loop-place-preserved
loop-place-preserved g c = λ h s spells only.
    let begins_are : c.push.new.self.items ≡ c.loop-place.begins.items ++ c.in-Ok.begin ∷ [] = first_of (search rules, grind (arith, common_steps)) in
    let lives = c.args.lives.now in
    let place = c.loop-place.place in
    let life = c.index-lives-place.result in
    let lived = c.in-Ok.ensures.lived in
    let lives_are : take place lives ++ life ∷ [] ≡ take (place + 1) lives =
    ap (λ (x : Life). take place lives ++ x ∷ []) c.index-lives-place.is ∙ sym (take_more lives place life c.loop-place-test.true) in
    let more = so_far_more g.S.Application.layer g.D.Disk.kind g.D.CrashDisk.images (take place lives) c.loop-place.begins.items c.args.disk c.loop-place.disk lived.0 c.in-Ok.left life c.in-Ok.begin
    (λ h'. (g.met.D.Disk.main_may_be_left c.loop-place.disk h').1) (c.loop-place.invariant h s spells only) lived.1 lived.2 in
    subst (λ (bs : List LifeBegin). SoFar g.S.Application.layer g.D.Disk.kind g.D.CrashDisk.images (take (place + 1) lives) bs c.args.disk c.in-Ok.left) (sym begins_are)
    (subst (λ (ls : List Life). SoFar g.S.Application.layer g.D.Disk.kind g.D.CrashDisk.images ls (c.loop-place.begins.items ++ c.in-Ok.begin ∷ []) c.args.disk c.in-Ok.left) lives_are more)

pub returns-clause-lives : goal.returns-clause-lives
returns-clause-lives g c = λ h s spells only.
    subst (λ (ls : List Life). SoFar g.S.Application.layer g.D.Disk.kind g.D.CrashDisk.images ls c.loop-place.begins.items c.args.disk c.loop-place.disk)
    (take_all c.loop-place.place c.args.lives.now c.loop-place-test.false) (c.loop-place.invariant h s spells only)

pub returns-then-is_err-clause-fault : goal.returns-then-is_err-clause-fault
returns-then-is_err-clause-fault g c = λ h s spells only.
    let lived = c.in-Ok.ensures.lived in
    record {
      place = c.loop-place-test.true;
      begins = c.loop-place.begins.items;
      disk = c.loop-place.disk;
      so_far = c.loop-place.invariant h s spells only;
      life = c.index-lives-place.result;
      life_is = slice_get-get_or c.args.lives.now c.loop-place.place c.index-lives-place.result c.loop-place-test.true ∙ ap Some (sym c.index-lives-place.is);
      meets = (lived.0, c.in-Ok.begin, lived.1, lived.2);
    }

pub returns-in-Err-clause-fault : goal.returns-in-Err-clause-fault
returns-in-Err-clause-fault g c = λ h s spells only. record {
  place = c.loop-place-test.true;
  begins = c.loop-place.begins.items;
  disk = c.loop-place.disk;
  so_far = c.loop-place.invariant h s spells only;
  life = c.index-lives-place.result;
  life_is = slice_get-get_or c.args.lives.now c.loop-place.place c.index-lives-place.result c.loop-place-test.true ∙ ap Some (sym c.index-lives-place.is);
  meets = c.in-Err.ensures.met;
}
