use Rattle.std.proofs.Common.{◌≡◌, ap, ◌∙◌, Ok}
use Rattle.type_specs.specs.Specs.{typed_spec}
use Rattle.type_scripts.specs.Counted.{counted}
use Rattle.type_anew.specs.Specs.{written_spec}
use Rattle.store_keeper.proofs.laws.renumbered_are_settled.Goals as goal

pub returns : goal.returns
returns c = λ s anew steady told same typed.
    let again : typed_spec counted (written_spec anew) ≡ Ok anew = ap (typed_spec counted) same ∙ typed in
    let room = c.specs_have_room.ensures (written_spec s) anew typed in
    record {
      steady = steady;
      told = told;
      numbers = room.0;
      sizes = room.1;
      anew = c.schemas_come_anew.ensures counted anew anew steady.proper again;
    }
