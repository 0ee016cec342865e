-- The parts of a flat list of literals stay as they are where literals are put behind them.
use Rattle.std.proofs.Common.{◌≡◌, ℕ, ◌≤◌, List, [], ◌∷◌, ◌++◌, length, refl, sym, ap, ◌∙◌, arith, drop}
use Rattle.std.specs.List.{slice_range}
use Rattle.std.proofs.lemmas.List.{take-append-le, map_push, length-append, drop_at}
use Rattle.std.proofs.lemmas.List.Elements.{All-head, All-tail, All-weaker}
use Rattle.std.proofs.lemmas.Slice.{between_is, between_to_end}
use Rattle.solve_solver.specs.declared.literal.PLit.{PLit}
use Rattle.solve_solver.specs.declared.clauses.Span.{Span}
use Rattle.solve_solver.specs.Clauses.{parts, IsInside}

slice_range-append : {X : Type 0} (xs ys : List X) (i j : ℕ) → j ≤ length xs → slice_range (xs ++ ys) i j ≡ slice_range xs i j
slice_range-append xs ys i j h =
    between_is (xs ++ ys) i j ∙ ap (drop i) (take-append-le j xs ys h) ∙ sym (between_is xs i j)

pub parts-append : (xs ys : List PLit) (spans : List Span) → IsInside xs spans → parts (xs ++ ys) spans ≡ parts xs spans
parts-append xs ys [] h = refl
parts-append xs ys (s ∷ spans) h =
    let InXs : Span → Type 0 = λ (t : Span). (t.start ≤ t.end) × (t.end ≤ length xs) in
    let here = slice_range-append xs ys s.start s.end (All-head InXs s spans h).1 in
    let rest = parts-append xs ys spans (All-tail InXs s spans h) in
    cc

-- the parts with one more that holds all that was put behind
pub parts_push : (xs ys : List PLit) (spans : List Span) (s : Span) → IsInside xs spans → s.start ≡ length xs → s.end ≡ length (xs ++ ys) → parts (xs ++ ys) (spans ++ s ∷ []) ≡ parts xs spans ++ ys ∷ []
parts_push xs ys spans s h start end =
    let last : slice_range (xs ++ ys) s.start s.end ≡ ys = rw (start, end) (between_to_end (xs ++ ys) (length xs) (length (xs ++ ys)) (omega arith) ∙ drop_at xs ys (length xs) refl) in
    map_push (λ (t : Span). slice_range (xs ++ ys) t.start t.end) spans s ∙ ap (λ t. t ++ slice_range (xs ++ ys) s.start s.end ∷ []) (parts-append xs ys spans h) ∙ ap (λ t. parts xs spans ++ t ∷ []) last

pub IsInside-append : (xs ys : List PLit) (spans : List Span) → IsInside xs spans → IsInside (xs ++ ys) spans
IsInside-append xs ys spans h =
    All-weaker (λ (t : Span). (t.start ≤ t.end) × (t.end ≤ length xs)) (λ (t : Span). (t.start ≤ t.end) × (t.end ≤ length (xs ++ ys)))
    (λ t e. (e.0, omega (arith, e.1, length-append xs ys))) spans h
