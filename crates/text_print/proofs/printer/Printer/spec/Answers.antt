use Rattle.std.proofs.Common.{◌∙◌, ◌++◌, ap}
use Rattle.std.specs.List.{flat_map}
use Rattle.text_print.specs.Marks.{text_of_marks}
use Rattle.text_print.specs.Models.{model_lines, spelled_spec, static_line}
use Rattle.text_print.proofs.Joined.{text-append}
use Rattle.text_print.proofs.Parts.{grown2}
use Rattle.text_print.proofs.printer.Printer.spec.Goals as goal

pub returns : goal.returns
returns c =
    grown2 c.args.self.now c.statics.new.self c.models.new.self (text_of_marks (flat_map static_line c.args.spec.now.statics)) (text_of_marks (flat_map model_lines c.args.spec.now.models)) (text_of_marks (spelled_spec c.args.spec.now)) (c.in_ok-statics.ensures ∙ ap (λ z. c.args.self.now ++ text_of_marks (flat_map static_line z)) c.as_slice.ensures) (c.in_ok-models.ensures ∙ ap (λ z. c.statics.new.self ++ text_of_marks (flat_map model_lines z)) c.as_slice-2.ensures) (text-append (flat_map static_line c.args.spec.now.statics) (flat_map model_lines c.args.spec.now.models))
