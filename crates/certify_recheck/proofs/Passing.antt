-- What is due at a spot, by the line that stands there.
use Rattle.std.proofs.Common.{◌≡◌, ℕ, suc, ◌+◌, List, [], ◌∷◌, ◌++◌, length, take, drop, map, refl, sym, ◌∙◌, ap, subst, arith}
use Rattle.certify_recheck.specs.Due.{AreDue, Due, IsFirstBad, IsNext, left_of}
use Rattle.certify_recheck.specs.Lines.{line_of, lines_at, size_of_lines, whole_lines}
use Rattle.certify_recheck.specs.Spots.{IsBadLine, IsRead, Passes, Spans}
use Rattle.certify_recheck.specs.declared.line.Line.{Line}
use Rattle.certify_recheck.specs.declared.spot.Spot.{Spot}

abbrev pub spot : ℕ → ℕ → Spot
spot at line = record { at = at; line = line }

lines_more : (text : List ℕ) (at : ℕ) (l : Line) (next : ℕ) → IsRead text at l next → lines_at text at ≡ l ∷ lines_at text next
lines_more text at l next read = ap (map line_of) read.is_first ∙ ap (λ k. k ∷ lines_at text next) (sym read.says)

module _ (text : List ℕ) (at line : ℕ) (l : Line) (next : ℕ) (read : IsRead text at l next) where
  spans_more : (n : ℕ) (to : Spot) → Spans text (spot next (line + 1)) n to → Spans text (spot at line) (suc n) to
  spans_more n to h =
      let size : size_of_lines (take (suc n) (whole_lines (drop at text))) ≡ length read.bytes + 1 + size_of_lines (take n (whole_lines (drop next text))) = ap (λ ls. size_of_lines (take (suc n) ls)) read.is_first in
      let behind : next ≡ at + length read.bytes + 1 = read.behind in
      let ends : to.at ≡ next + size_of_lines (take n (whole_lines (drop next text))) = h.at in
      let numbered : to.line ≡ line + 1 + n = h.line in
      record { at = omega arith; line = omega arith }

  spans_one : Spans text (spot at line) 1 (spot next (line + 1))
  spans_one =
      let size : size_of_lines (take 1 (whole_lines (drop at text))) ≡ length read.bytes + 1 + 0 = ap (λ ls. size_of_lines (take 1 ls)) read.is_first in
      let behind : next ≡ at + length read.bytes + 1 = read.behind in
      record { at = omega arith; line = refl }

  module _ (d : Due) (ds : List Due) where
    pub passes_more : (to : Spot) → IsNext d l → Passes text (spot next (line + 1)) (left_of d l ++ ds) to → Passes text (spot at line) (d ∷ ds) to
    passes_more to is_next h = record {
      count = suc h.count;
      met = subst (λ ls. AreDue (d ∷ ds) ls (suc h.count)) (sym (lines_more text at l next read)) (let both : AreDue (d ∷ ds) (l ∷ lines_at text next) (suc h.count) = (is_next, h.met) in both);
      spans = spans_more h.count to h.spans;
    }

    pub bad_more : (bad : ℕ) → IsNext d l → IsBadLine text (spot next (line + 1)) (left_of d l ++ ds) bad → IsBadLine text (spot at line) (d ∷ ds) bad
    bad_more bad is_next h =
        let numbered : bad ≡ line + 1 + h.count = h.is in
        record {
          count = suc h.count;
          bad = subst (λ ls. IsFirstBad (d ∷ ds) ls (suc h.count)) (sym (lines_more text at l next read)) (let both : IsFirstBad (d ∷ ds) (l ∷ lines_at text next) (suc h.count) = (is_next, h.bad) in both);
          is = omega arith;
        }

    pub bad_here : ¬ IsNext d l → IsBadLine text (spot at line) (d ∷ ds) line
    bad_here not_next = record {
      count = 0;
      bad = subst (λ ls. IsFirstBad (d ∷ ds) ls 0) (sym (lines_more text at l next read)) (let here : IsFirstBad (d ∷ ds) (l ∷ lines_at text next) 0 = not_next in here);
      is = omega arith;
    }

    pub done_here : IsNext d l → left_of d l ++ ds ≡ [] → Passes text (spot at line) (d ∷ ds) (spot next (line + 1))
    done_here is_next none = record {
      count = 1;
      met = subst (λ ls. AreDue (d ∷ ds) ls 1) (sym (lines_more text at l next read))
          (let both : AreDue (d ∷ ds) (l ∷ lines_at text next) 1 = (is_next, subst (λ es. AreDue es (lines_at text next) 0) (sym none) tt) in both);
      spans = spans_one;
    }

-- no line is left where something is due
pub bad_end : (text : List ℕ) (at line : ℕ) (d : Due) (ds : List Due) → whole_lines (drop at text) ≡ [] → IsBadLine text (spot at line) (d ∷ ds) line
bad_end text at line d ds none = record {
  count = 0;
  bad = subst (λ ls. IsFirstBad (d ∷ ds) ls 0) (sym (ap (map line_of) none)) (let here : IsFirstBad (d ∷ ds) [] 0 = tt in here);
  is = omega arith;
}
