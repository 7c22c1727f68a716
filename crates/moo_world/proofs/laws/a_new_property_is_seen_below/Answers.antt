use Rattle.std.proofs.Common.{refl}
use Rattle.std.specs.Option.{is_some}
use Rattle.moo_value.specs.Compare.{folded}
use Rattle.moo_value.specs.View.{tree}
use Rattle.moo_world_object.specs.BuiltIn.{built_in_of}
use Rattle.moo_world_object.specs.Cells.{own_cell}
use Rattle.moo_world_table.specs.Properties.{is_taken, is_full}
use Rattle.moo_world_table.proofs.Allowing.{define_free, property_free}
use Rattle.moo_world.specs.PropertyCalls.{define_raises}
use Rattle.moo_world.proofs.Reparented.{defined_on}
use Rattle.moo_world.proofs.laws.a_new_property_is_seen_below.Goals as goal

pub returns : goal.returns
returns c =
    let w = c.args.world.now in
    let name = c.args.name.now in
    let free = define_free (is_taken w.objects w.inheritance c.args.x (folded name)) (is_full w.objects w.inheritance c.args.x)
    (property_free (is_some (built_in_of (folded name))) (define_raises w c.args.x (folded name)) c.requires.allowed) in
    defined_on w c.args.x name (own_cell c.args.x (folded name) (tree c.args.value.now) c.args.owner c.args.perms) c.is_well_formed.ensures c.requires.object
    (record {
      free = free.0;
      roomy = free.1;
      own = refl;
      filled = refl;
      stored = (c.weight-weight.ensures.value, c.weight-weight.ensures.limits);
      owner = c.ranges.owner;
      string = c.as_bytes-bytes.ensures.string;
    })
