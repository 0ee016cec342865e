use Rattle.std.specs.Option.{option_copied}
use Rattle.std.proofs.Common.{◌==◌}
use Rattle.type_schema.specs.SchemaViews.{static_info_of}
use Rattle.data_records.proofs.Searches.{find-seen}
use Rattle.data_records.proofs.Tables.{is-some-seen}
use Rattle.data_records.proofs.principals.has_static.Goals as goal

pub returns : goal.returns
returns c =
    rw (
      find-seen (λ info. info.number == c.args.n) static_info_of c.args.s.now.statics,
      ← c.as_slice.ensures,
      ← c.static_in.ensures,
      is-some-seen static_info_of (option_copied c.static_in.result),
      is-some-seen (λ r. r.now) c.static_in.result,
    ) c.is_some.ensures
