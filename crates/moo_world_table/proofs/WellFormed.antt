-- What keeps a world well formed.
use Rattle.std.proofs.Common.{[], refl, arith, FitsSigned, w32}
use Rattle.std.proofs.lemmas.List.Elements.{All-nil}
use Rattle.moo_value.specs.Tree.{IsTextByte}
use Rattle.moo_value.specs.Size.{IsString}
use Rattle.moo_world_tree.specs.Forest.{IsForest}
use Rattle.moo_world_object.specs.Cells.{Cell}
use Rattle.moo_world_object.specs.declared.verb.Verb.{Verb}
use Rattle.moo_world_table.specs.World.{IsWellFormed, IsCounted, IsJoined, IsFine, HasStored, nothing}

empty_forest : IsForest []
empty_forest = record { rooted = λ x. refl; exact = λ x y. refl }

no_objects : IsJoined [] []
no_objects = record { forest = empty_forest; many = refl; free = λ x h. refl }

pub fine_nothing : IsFine nothing
fine_nothing = record {
  name = record { text = All-nil IsTextByte; fits = omega arith };
  names = All-nil IsString;
  values = All-nil (λ (c : Cell). HasStored c.value);
  few_cells = omega arith;
  verb_names = All-nil (λ (v : Verb). IsString v.names);
  few_verbs = omega arith;
  numbers = record {
    owner = record { sfits = omega arith };
    cells = All-nil (λ (c : Cell). FitsSigned w32 c.owner);
    verbs = All-nil (λ (v : Verb). FitsSigned w32 v.owner);
  };
}

pub empty_well_formed : IsWellFormed (record { objects = []; inheritance = []; containment = []; players = [] })
empty_well_formed = record {
  parents = no_objects;
  places = no_objects;
  stocked = record {
    exact_cells = λ x. refl;
    names_once = λ x. refl;
    own_filled = λ x k d h. absurd (omega arith);
    fine = λ x. fine_nothing;
  };
  few = omega arith;
  few_players = omega arith;
  player_numbers = All-nil (FitsSigned w32);
  few_programs = omega arith;
}

pub empty_counted : IsCounted (record { objects = []; inheritance = []; containment = []; players = [] }) 0
empty_counted = record { formed = empty_well_formed; counted = refl }
