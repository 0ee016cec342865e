use Rattle.std.proofs.Common.{◌≡◌, ◌∙◌, arith}
use Rattle.type_schema.specs.SchemaViews.{schema_of}
use Rattle.duty_numbering.proofs.SignatureLaws.{made-fits}
use Rattle.duty_numbering.proofs.signature.signature_of.Goals as goal

pub invariant_of-result : goal.invariant_of-result
invariant_of-result c = record {
  fits =
      made-fits (schema_of c.args.s.now) c.in_ok-numbering.numbering c.sorts-sorts.result c.functions-functions.result c.relations-relations.result
      c.from_vec.result c.from_vec-2.result c.requires c.in_ok-numbering.ensures c.sorts-sorts.ensures c.functions-functions.ensures (omega arith)
      c.relations-relations.ensures (omega arith) (c.from_vec.ensures ∙ c.in_ok-found.ensures.functions) (c.from_vec-2.ensures ∙ c.in_ok-found.ensures.relations);
}
