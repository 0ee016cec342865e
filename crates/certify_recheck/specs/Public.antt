-- The words of this crate's public contracts.
pub use Rattle.certify_recheck.specs.Numbers.{number_of}
pub use Rattle.certify_recheck.specs.Lines.{whole_lines, size_of_lines, line_of, lines_at}
pub use Rattle.certify_recheck.specs.Due.{Due, heading, part, tree, ending, IsNext, left_of, AreDue, IsFirstBad, lines_of}
pub use Rattle.certify_recheck.specs.Spots.{Spans, Passes, IsBadLine, IsPart, IsFault}
pub use Rattle.certify_recheck.specs.Laws.{IsLawfulPart, PartsAreLawfulTrees, OneAnswer}
pub use Rattle.certify_recheck.specs.Following.{IsFollowing, PartsFollow}
pub use Rattle.certify_recheck.specs.Written.{IsWritten, IsReadBack, WrittenLinesAreReadBack}
pub use Rattle.certify_recheck.specs.Walking.{TakesAll, IsReady, IsStep}
