-- The answers to bytes that are held.
use Rattle.std.proofs.Common.{◌≡◌, ◌≢◌, ℕ, ◌+◌, ◌-◌, ◌<◌, ◌≤◌, List, [], ◌∷◌, ◌++◌, length, refl, sym, ap, subst, ◌∙◌, inl, inr, arith, append_assoc, length-append, Ok, Err}
use Rattle.std.specs.Prelude.{slice_range, Result}
use Rattle.std.proofs.lemmas.List.{nil_from_length}
use Rattle.door_lines.specs.declared.lines.Line.{Line}
use Rattle.door_lines.specs.declared.lines.Line.TheVariants.{Text, Cut, End}
use Rattle.door_lines.specs.declared.source.FlowErr.{FlowErr}
use Rattle.door_lines.specs.declared.source.FlowErr.TheVariants.{ReadFault, TooLong, Budget, OutOfMemory}
use Rattle.door_lines.specs.Lines.{LineBufState, Answers, IsFirst, IsInLine, IsRest, held}
use Rattle.door_lines.specs.Turns.{IsLineOf}
use Rattle.door_lines.proofs.Ranges.{empty_range, size_range, split_range}
use Rattle.door_lines.proofs.RestLemmas.{fresh_rest, in_line_more, in_line_same}

-- a line that ends the bytes where the source has ended, by more that is known of the end
pub first_as : (E F : Type 0) (buf : LineBufState) (bytes line : List ℕ) → (E → F) → IsFirst E buf bytes line → IsFirst F buf bytes line
first_as E F buf bytes line know (inl f) = inl f
first_as E F buf bytes line know (inr f) = inr (know f.0, f.1, f.2, f.3)

pub answers_as : (E F : Type 0) (buf : LineBufState) (bytes : List ℕ) (line : Line) → (E → F) → Answers E buf bytes (Ok line) → Answers F buf bytes (Ok line)
answers_as E F buf bytes (Text from to) know (line, first, in_line, fits, ordered, within, same) = (line, first_as E F buf bytes line know first, in_line, fits, ordered, within, same)
answers_as E F buf bytes Cut know (line, first, in_line, over) = (line, first_as E F buf bytes line know first, in_line, over)
answers_as E F buf bytes End know (ended, none, rest) = (know ended, none, rest)

-- the first bytes that are held, with those that were let go, where they are the line
module _ (ended : Type 0) (old new : LineBufState) (bytes gone : List ℕ) (size : ℕ) (within : old.from + size ≤ length old.room)
    (room : new.room ≡ old.room) (limit : new.line_limit ≡ old.line_limit) (count : length gone ≡ old.dropped)
    (in_line : IsInLine (gone ++ slice_range old.room old.from (old.from + size)))
    (first : IsFirst ended new bytes (gone ++ slice_range old.room old.from (old.from + size))) where
  length_of_line : length (gone ++ slice_range old.room old.from (old.from + size)) ≡ old.dropped + size
  length_of_line =
      let s = size_range old.room old.from (old.from + size) (omega arith) within in
      omega (arith, length-append gone (slice_range old.room old.from (old.from + size)), s, count)

  text_answer : old.dropped ≡ 0 → size ≤ old.line_limit → Answers ended new bytes (Ok (Text old.from (old.from + size)))
  text_answer none fits =
      let nothing : gone ≡ [] = nil_from_length gone (count ∙ none) in (
        gone ++ slice_range old.room old.from (old.from + size),
        first,
        in_line,
        omega (arith, length_of_line, fits, none, limit),
        omega arith,
        subst (λ r. old.from + size ≤ length r) (sym room) within,
        ap (λ r. slice_range r old.from (old.from + size)) room ∙ ap (λ l. l ++ slice_range old.room old.from (old.from + size)) (sym nothing),
      )

  pub line_answer : (line : Line) → IsLineOf old size line → Answers ended new bytes (Ok line)
  line_answer (Text from to) (none, fits, e, f) = subst (λ z. Answers ended new bytes (Ok (Text z to))) (sym e) (subst (λ z. Answers ended new bytes (Ok (Text old.from z))) (sym f) (text_answer none fits))
  line_answer Cut over = (gone ++ slice_range old.room old.from (old.from + size), first, in_line, omega (arith, length_of_line, over, limit))
  line_answer End never = absurd never

-- a newline stands behind so many bytes
pub found_line : (old : LineBufState) (size : ℕ) (line : Line) → IsLineOf old size line → old.from + size < old.to → old.to ≤ length old.room
    → IsInLine (slice_range old.room old.from (old.from + size)) → slice_range old.room (old.from + size) old.to ≡ 10 ∷ slice_range old.room (old.from + size + 1) old.to
    → (rest : List ℕ) → IsRest old rest → Answers ⊥ (record old { from = old.from + (size + 1); dropped = 0 }) rest (Ok line)
found_line old size given is below within in_line stands rest r =
    let new : LineBufState = record old { from = old.from + (size + 1); dropped = 0 } in
    let line = r.gone ++ slice_range old.room old.from (old.from + size) in
    let after = slice_range old.room (old.from + size + 1) old.to in
    let glued : rest ≡ line ++ 10 ∷ after =
    r.glued
    ∙ ap (λ l. r.gone ++ l) (split_range old.room old.from (old.from + size) old.to (omega arith) (omega arith))
    ∙ sym (append_assoc r.gone _ _) ∙ ap (λ l. line ++ l) stands in
    let place : old.from + (size + 1) ≡ old.from + size + 1 = omega arith in
    line_answer ⊥ old new rest r.gone size (omega arith) refl refl r.size (in_line_more r.gone _ r.in_line in_line)
    (inl (after, glued, fresh_rest new after refl (ap (λ n. slice_range old.room n old.to) place))) given is

-- the source has ended behind what is held, which is some
pub last_answer : (old : LineBufState) (size : ℕ) (line : Line) → IsLineOf old size line → old.from + size ≡ old.to → old.to ≤ length old.room
    → IsInLine (held old) → 0 < old.dropped + size → (rest : List ℕ) → IsRest old rest
    → Answers (Unit {0}) (record old { from = old.from + size; dropped = 0 }) rest (Ok line)
last_answer old size given is all within in_line some rest r =
    let new : LineBufState = record old { from = old.from + size; dropped = 0 } in
    let part = slice_range old.room old.from (old.from + size) in
    let whole : part ≡ held old = ap (slice_range old.room old.from) all in
    let s = size_range old.room old.from (old.from + size) (omega arith) (omega arith) in
    line_answer (Unit {0}) old new rest r.gone size (omega arith) refl refl r.size
    (in_line_more r.gone part r.in_line (in_line_same part (held old) whole in_line))
    (inr (
      tt,
      r.glued ∙ ap (λ l. r.gone ++ l) (sym whole),
      (λ none. absurd (let zero : length (r.gone ++ part) ≡ 0 = ap length none in omega (arith, zero, length-append r.gone part, s, r.size, some))),
      fresh_rest new [] refl (empty_range old.room (old.from + size) old.to (omega arith)),
    )) given is

-- nothing is held
pub no_answer : (old : LineBufState) (size : ℕ) → old.from + size ≡ old.to → old.dropped + size ≡ 0 → (rest : List ℕ) → IsRest old rest → Answers (Unit {0}) old rest (Ok End)
no_answer old size all none rest r =
    let empty : held old ≡ [] = empty_range old.room old.from old.to (omega arith) in
    let gone : r.gone ≡ [] = nil_from_length r.gone (omega (arith, r.size, none)) in
    (tt, r.glued ∙ ap (λ l. l ++ held old) gone ∙ empty, fresh_rest old [] (omega arith) empty)
