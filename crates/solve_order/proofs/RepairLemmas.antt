-- What a search that found no negative cycle leaves: a potential that meets the goal too.
use Rattle.std.proofs.Common.{◌≡◌, ◌≢◌, ℕ, ◌-◌, ◌^◌, ◌<◌, ◌≤◌, List, [], ◌∷◌, ◌++◌, length, ℤ, pos, ◌+ℤ◌, ◌≤ℤ◌, IsTrue, ⊎_elim, refl, sym, ◌∙◌, subst, arith}
use Rattle.std.proofs.lemmas.Int.{ints}
use Rattle.std.proofs.lemmas.Bool.{cases_eq, cases_lt}
use Rattle.std.proofs.lemmas.List.{length_push, get_or_push, get_or_append_left}
use Rattle.solve_order.specs.declared.diff.Diff.{Diff}
use Rattle.solve_order.specs.declared.frontier.TheConstants.{UNSETTLED}
use Rattle.solve_order.specs.declared.frontier.Reach.{Reach}
use Rattle.solve_order.specs.Difference.{Constraints, is_literal}
use Rattle.solve_order.specs.Edges.{literal_at}
use Rattle.solve_order.specs.Reach.{reach_of}
use Rattle.solve_order.specs.Lowering.{CanMove, Moves}
use Rattle.solve_order.specs.Potential.{Meets, IsPotential}
use Rattle.solve_order.specs.Search.{lowered_value, IsRepaired}
use Rattle.solve_order.proofs.DifferenceLemmas.{IsLiteral-from_test}

-- a fact of each literal and of one more
each_push : (P : Diff → Type 0) (literals : List Diff) (l : Diff) → ((p : ℕ) → p < length literals → P (literal_at literals p)) → P l → (p : ℕ) → p < length (literals ++ l ∷ []) → P (literal_at (literals ++ l ∷ []) p)
each_push P literals l each here p b =
    let none : Diff = record { x = 0; y = 0; c = pos 0 } in
    let long = length_push literals l in
    ⊎_elim
    (λ (a : p < length literals). subst P (sym (get_or_append_left literals (l ∷ []) none p a)) (each p a))
    (λ (a : length literals ≤ p).
    let same : length literals ≡ p = omega arith in
    subst P (sym (get_or_push literals l none p same)) here)
    (cases_lt p (length literals))

-- a potential that meets the goal already
pub IsPotential-met : (e : Constraints) (values : List ℤ) (goal : Diff) → IsPotential e values → IsTrue (is_literal e.variables goal) → Meets values goal → IsPotential (record e { literals = e.literals ++ goal ∷ [] }) values
IsPotential-met e values goal h fits met = record {
  as_long = h.as_long;
  short = h.short;
  assigns = h.assigns;
  over = each_push (λ l. IsTrue (is_literal e.variables l)) e.literals goal h.over fits;
  meets_each = each_push (Meets values) e.literals goal h.meets_each met;
}

module _ (e : Constraints) (values : List ℤ) (goal : Diff) (f : List Reach) (h : IsPotential e values) (some : 0 < e.variables) (repaired : IsRepaired e.literals values goal f) where
  none_lowered : (v : ℕ) → v < length values → (reach_of f v).rank ≡ UNSETTLED → (reach_of f v).lowered ≡ pos 0
  none_lowered v b s = repaired.explored v (let x = repaired.traced.as_long in omega arith) s

  -- the lowered values meet each literal
  listed : (p : ℕ) → p < length e.literals → lowered_value values f (literal_at e.literals p).x ≤ℤ (lowered_value values f (literal_at e.literals p).y +ℤ (literal_at e.literals p).c)
  listed p b =
      let l = literal_at e.literals p in
      let fits = IsLiteral-from_test e.variables l (h.over p b) in
      let long = h.as_long in
      let x_within : l.x < length values = let z = fits.x_within in omega arith in
      let y_within : l.y < length values = let z = fits.y_within in omega arith in
      ⊎_elim
      (λ (s : (reach_of f l.y).rank ≡ UNSETTLED).
      let z = none_lowered l.y y_within s in
      let w = repaired.traced.not_negative l.x x_within in
      let m = h.meets_each p b in
      omega (arith, ints))
      (λ (s : (reach_of f l.y).rank ≢ UNSETTLED). repaired.listed_met l.y y_within s p (omega arith) b refl)
      (cases_eq (reach_of f l.y).rank UNSETTLED)

  zero_within : 0 < length values
  zero_within = let long = h.as_long in omega arith

  -- the lowered values are in range of that of vertex 0
  low : (v : ℕ) → v < length values → lowered_value values f 0 ≤ℤ (lowered_value values f v +ℤ pos (2 ^ 63))
  low v b =
      ⊎_elim
      (λ (s : (reach_of f v).rank ≡ UNSETTLED).
      let z = none_lowered v b s in
      let w = repaired.traced.not_negative 0 zero_within in
      let x = h.assigns.low v b in
      let y = h.assigns.zero in
      omega (arith, ints))
      (λ (s : (reach_of f v).rank ≢ UNSETTLED). (repaired.range_met v b s).low)
      (cases_eq (reach_of f v).rank UNSETTLED)

  high : (v : ℕ) → v < length values → lowered_value values f v ≤ℤ (lowered_value values f 0 +ℤ pos (2 ^ 63 - 1))
  high v b =
      ⊎_elim
      (λ (s : (reach_of f 0).rank ≡ UNSETTLED).
      let z = none_lowered 0 zero_within s in
      let w = repaired.traced.not_negative v b in
      let x = h.assigns.high v b in
      let y = h.assigns.zero in
      omega (arith, ints))
      (λ (s : (reach_of f 0).rank ≢ UNSETTLED). (repaired.range_met 0 zero_within s).high refl v b)
      (cases_eq (reach_of f 0).rank UNSETTLED)

  pub CanMove-repaired : CanMove values f (reach_of f 0).lowered
  CanMove-repaired =
      let t = repaired.traced in
      let zero = h.assigns.zero in
      record {
        as_long = t.as_long;
        rise_low = t.not_negative 0 zero_within;
        rise_high = t.bounded 0 zero_within;
        lowered_low = t.not_negative;
        lowered_high = t.bounded;
        low = λ v b. let x = low v b in omega (arith, ints);
        high = λ v b. let x = high v b in omega (arith, ints);
      }

  pub IsPotential-repaired : (new : List ℤ) → IsTrue (is_literal e.variables goal) → Moves values new f (reach_of f 0).lowered → IsPotential (record e { literals = e.literals ++ goal ∷ [] }) new
  IsPotential-repaired new fits moves =
      let long = moves.as_long in
      let can = CanMove-repaired in
      let same = h.as_long in
      let zero = h.assigns.zero in
      let meets : (l : Diff) → IsTrue (is_literal e.variables l) → lowered_value values f l.x ≤ℤ (lowered_value values f l.y +ℤ l.c) → Meets new l =
      λ l ok met.
      let within = IsLiteral-from_test e.variables l ok in
      let x = moves.moved l.x (let z = within.x_within in omega arith) in
      let y = moves.moved l.y (let z = within.y_within in omega arith) in
      omega (arith, ints)
      in
      record {
        as_long = same ∙ sym long;
        short = let x = h.short in omega arith;
        assigns = record {
          as_long = refl;
          zero = let x = moves.moved 0 zero_within in omega (arith, ints);
          low = λ v b. let x = moves.moved v (omega arith) in let y = can.low v (omega arith) in omega (arith, ints);
          high = λ v b. let x = moves.moved v (omega arith) in let y = can.high v (omega arith) in omega (arith, ints);
        };
        over = each_push (λ l. IsTrue (is_literal e.variables l)) e.literals goal h.over fits;
        meets_each = each_push (Meets new) e.literals goal (λ p b. meets (literal_at e.literals p) (h.over p b) (listed p b))
            (meets goal fits (let x = repaired.traced.starts in let y = repaired.traced.tail_stays in omega (arith, ints)));
      }
