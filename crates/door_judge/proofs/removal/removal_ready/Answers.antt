use Rattle.data_meaning.specs.Database.{has_record}
use Rattle.door_meaning.specs.Replies.{NoRecord}
use Rattle.type_schema.specs.SchemaViews.{model_info_of, schema_of}
use Rattle.door_judge.proofs.Known.{named-model}
use Rattle.door_judge.proofs.PassedOn.{unless-true}
use Rattle.door_judge.proofs.removal.removal_ready.Goals as goal

pub returns-clause-may : goal.returns-clause-may
returns-clause-may c =
    let info = model_info_of c.in_ok-info.info.now in
    record {
      model = named-model (schema_of c.args.s.now) c.requires c.args.model.now info c.in_ok-info.ensures;
      there = unless-true (has_record c.args.d.now info.number c.args.id) NoRecord c.in_ok-is_there.field-0 c.in_ok-is_there.ensures;
      free = c.in_ok-is_free.ensures.free;
    }
