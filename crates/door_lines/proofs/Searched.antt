-- What a search for a newline among the bytes that are held tells.
use Rattle.std.proofs.Common.{◌≡◌, ℕ, ◌+◌, ◌-◌, ◌<◌, ◌≤◌, List, ◌∷◌, ◌++◌, length, take, drop, sym, ap, subst, ◌∙◌, arith, Ok}
use Rattle.std.specs.Prelude.{slice_range}
use Rattle.door_lines.specs.declared.lines.Line.{Line}
use Rattle.door_lines.specs.Finds.{IsFirstNewline}
use Rattle.door_lines.specs.Lines.{LineBufState, Answers, IsInLine, IsRest, held}
use Rattle.door_lines.specs.Turns.{IsLineOf}
use Rattle.door_lines.proofs.Answered.{found_line}
use Rattle.door_lines.proofs.Ranges.{drop_range, size_range, split_range, take_range}
use Rattle.door_lines.proofs.RestLemmas.{in_line_more, in_line_same}

-- no newline before a place, and none from there on
pub none_held : (buf : LineBufState) (start : ℕ) → buf.from ≤ start → start ≤ buf.to → IsInLine (slice_range buf.room buf.from start) → IsInLine (slice_range buf.room start buf.to) → IsInLine (held buf)
none_held buf start ordered within before behind =
    in_line_same (held buf) _ (split_range buf.room buf.from start buf.to ordered within) (in_line_more _ _ before behind)

-- the first newline from a place on, where none is before that
pub newline_found : (buf : LineBufState) (start at size : ℕ) (line : Line) → buf.from ≤ start → start ≤ buf.to → buf.to ≤ length buf.room
    → IsInLine (slice_range buf.room buf.from start) → IsFirstNewline (slice_range buf.room start buf.to) at → buf.from + size ≡ start + at → IsLineOf buf size line
    → (rest : List ℕ) → IsRest buf rest → Answers ⊥ (record buf { from = buf.from + (size + 1); dropped = 0 }) rest (Ok line)
newline_found buf start at size line ordered within room before found place is =
    let s = size_range buf.room start buf.to within room in
    let below : start + at < buf.to = omega (arith, found.within, s) in
    let in_line : IsInLine (slice_range buf.room buf.from (start + at)) =
    in_line_same (slice_range buf.room buf.from (start + at)) _ (split_range buf.room buf.from start (start + at) ordered (omega arith))
    (in_line_more _ _ before (in_line_same _ _ (sym (take_range buf.room start buf.to at (omega arith))) found.before)) in
    let next : start + (at + 1) ≡ start + at + 1 = omega arith in
    let stands : slice_range buf.room (start + at) buf.to ≡ 10 ∷ slice_range buf.room (start + at + 1) buf.to =
    sym (drop_range buf.room start buf.to at (omega arith)) ∙ found.stands
    ∙ ap (λ l. 10 ∷ l) (drop_range buf.room start buf.to (at + 1) (omega arith) ∙ ap (λ n. slice_range buf.room n buf.to) next) in
    found_line buf size line is (omega (arith, below, place)) room
    (subst (λ n. IsInLine (slice_range buf.room buf.from n)) (sym place) in_line)
    (subst (λ n. slice_range buf.room n buf.to ≡ 10 ∷ slice_range buf.room (n + 1) buf.to) (sym place) stands)
