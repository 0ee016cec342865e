use Rattle.std.proofs.Common.{ap, sym, map}
use Rattle.type_schema.specs.SchemaViews.{model_info_of, schema_of}
use Rattle.impact_shrink.proofs.Listed.{all-places}
use Rattle.impact_shrink.proofs.places.all_places.Goals as goal

pub returns : goal.returns
returns c =
    all-places (schema_of c.args.s.now) c.as_slice.result.now c.args.d.now (ap (map model_info_of) (sym c.as_slice.ensures)) c.requires c.in_ok-places.places.items c.in_ok-places.ensures
