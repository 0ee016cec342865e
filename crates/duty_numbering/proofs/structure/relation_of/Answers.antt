use Rattle.std.proofs.Common.{◌≡◌, ◌∙◌, map}
use Rattle.data_records.specs.Views.{record_data}
use Rattle.duty_meaning.specs.Structures.{target_of}
use Rattle.duty_numbering.specs.Elements.{pairs_among}
use Rattle.duty_numbering.proofs.StructureLaws.{among-whole}
use Rattle.duty_numbering.proofs.structure.relation_of.Goals as goal

pub returns : goal.returns
returns c =
    c.from_vec.ensures
    ∙ among-whole (λ d s t ids. pairs_among d s t c.args.field.now.number ids) c.args.database.now c.in_ok-link.link.database.now c.args.model (target_of c.args.field.now.ty)
    c.in_ok-link.link.source c.in_ok-link.link.target c.in_ok-found.found.items (map record_data c.records.result.now)
    c.in_ok-found.ensures c.in_ok-link.ensures.database c.in_ok-link.ensures.source (c.in_ok-link.ensures.target ∙ c.target_of.ensures) c.records.ensures.all
