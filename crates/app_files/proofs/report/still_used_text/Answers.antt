use Rattle.std.proofs.Common.{◌≡◌, ◌∙◌}
use Rattle.std.specs.Fmt.{decimal}
use Rattle.app_files.proofs.report.still_used_text.Goals as goal

pub returns : goal.returns
returns c =
    let digits : c.as_bytes.result.now ≡ decimal c.args.at = c.as_bytes.ensures.value ∙ c.in_ok-number.ensures.ok in
    rw digits at c.join_pieces.ensures
