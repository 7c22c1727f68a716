use Rattle.std.proofs.Common.{◌≡◌, ◌∙◌, [], None, length, take, sym, ap, arith, get_or}
use Rattle.std.proofs.lemmas.List.{take_all}
use Rattle.moo_world_table.specs.World.{nothing, with_cells}
use Rattle.std.specs.Option.{unwrap_or}
use Rattle.moo_world_table.specs.Restoring.{rekeyed}
use Rattle.moo_dbtext_restore.specs.Plain.{plain_at, keys_on, programs_by_object}
use Rattle.moo_dbtext_restore.specs.declared.tour.Visit.TheVariants.{Enter}
use Rattle.moo_dbtext_restore.proofs.Keying.{cells_there, keying_enters, keying_leaves, all_keyed}
use Rattle.moo_dbtext_restore.proofs.objects.make_objects.Goals.{in-Enter+in_ok-add_definitions-in-Enter+in_ok-object-in-Enter, in-Leave}
use Rattle.moo_dbtext_restore.proofs.objects.make_objects.Goals as goal

pub make_at-requires : goal.make_at-requires
make_at-requires c =
    cells_there c.args.objects.now (programs_by_object c.args.programs.now) c.args.tour.now c.loop-visit.visit-index c.loop-visit.way.items c.add_definitions.new.way.items c.loop-visit.made.items c.in-Enter.x
    c.loop-visit-test.true (Enter 0) c.names_at.result.now c.names_at.ensures c.loop-visit.invariant c.in-Enter.is c.in_ok-add_definitions-in-Enter.ensures c.requires.counts
    ∙ ap length (sym c.deref.ensures.value)

pub loop-visit-preserved : goal.loop-visit-preserved
loop-visit-preserved c =
    let objects = c.args.objects.now in
    let rows = programs_by_object c.args.programs.now in
    let tour = c.args.tour.now in
    let i = c.loop-visit.visit-index in
    elim c.match-visit.branch [
      | in-Enter+in_ok-add_definitions-in-Enter+in_ok-object-in-Enter w ↦ (
          let x = w.in-Enter.x in
          let p = plain_at (get_or objects x None) (get_or rows x []) in
          let made = w.in_ok-object-in-Enter.ensures ∙ ap (λ l. with_cells p (rekeyed (keys_on l) (unwrap_or p nothing).cells)) w.deref.ensures.value in
          rw (w.made-is, w.way'-is, w.put.ensures)
          (keying_enters objects rows tour i c.loop-visit.way.items w.add_definitions.new.way.items c.loop-visit.made.items x c.loop-visit-test.true (Enter 0)
          w.names_at.result.now w.names_at.ensures c.loop-visit.invariant w.in-Enter.is w.in_ok-add_definitions-in-Enter.ensures w.in_ok-object-in-Enter.object made))
      | in-Leave w ↦ (
          rw (w.made-is, w.way'-is)
          (keying_leaves objects rows tour i c.loop-visit.way.items w.drop_definitions.new.way.items c.loop-visit.made.items w.in-Leave.x c.loop-visit-test.true (Enter 0)
          w.names_at-in-Leave.result.now w.names_at-in-Leave.ensures c.loop-visit.invariant w.in-Leave.is w.drop_definitions.ensures))
    ]

pub returns : goal.returns
returns c =
    let tour = c.args.tour.now in
    let i = c.loop-visit.visit-index in
    let whole : take i tour ≡ tour = take_all i tour (let end = c.loop-visit-test.false in omega (arith, end)) in
    all_keyed c.args.objects.now (programs_by_object c.args.programs.now) tour i c.loop-visit.way.items c.loop-visit.made.items c.requires.tour whole c.loop-visit.invariant
