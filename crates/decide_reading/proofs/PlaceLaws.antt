-- The first places of pairs, as one more pair comes.
use Rattle.std.proofs.Common.{◌≡◌, ◌∙◌, ℕ, Bool, true, false, ◌&&◌, inl, inr, cond, refl, sym, ap, List, [], ◌∷◌, ◌++◌, Option, None, Some, length}
use Rattle.std.specs.Prelude.{position, ◌==◌}
use Rattle.std.specs.Map.{lookup}
use Rattle.std.proofs.lemmas.Bool.{eqb-true, cases_Bool}
use Rattle.std.proofs.lemmas.Option.{none-some}
use Rattle.ground_problem.specs.declared.words.PairNode.{PairNode}
use Rattle.decide_reading.specs.Columns.{is_same_pair}
use Rattle.decide_reading.specs.Firsts.{AreFirstPlaces}
use Rattle.decide_reading.proofs.Positions.{position_kept, position_new}

module _ {K X : Type 0} (test : K → Bool) where
  -- what was found is found
  found_before : (es : List (K × X)) (e : K × X) (x : X) → lookup test es ≡ Some x → lookup test (es ++ e ∷ []) ≡ Some x
  found_before [] e x h = absurd (none-some x h)
  found_before (d ∷ es) e x h = by (test d.0) h (found_before es e x)
    where
      by : (b : Bool) → cond b (Some d.1) (lookup test es) ≡ Some x → (lookup test es ≡ Some x → lookup test (es ++ e ∷ []) ≡ Some x)
          → cond b (Some d.1) (lookup test (es ++ e ∷ [])) ≡ Some x
      by true h rest = h
      by false h rest = rest h

  -- where nothing was found, the value of the one more is, if its key passes
  found_new : (es : List (K × X)) (e : K × X) → lookup test es ≡ None → lookup test (es ++ e ∷ []) ≡ cond (test e.0) (Some e.1) None
  found_new [] e h = refl
  found_new (d ∷ es) e h = by (test d.0) h (found_new es e)
    where
      by : (b : Bool) → cond b (Some d.1) (lookup test es) ≡ None → (lookup test es ≡ None → lookup test (es ++ e ∷ []) ≡ cond (test e.0) (Some e.1) None)
          → cond b (Some d.1) (lookup test (es ++ e ∷ [])) ≡ cond (test e.0) (Some e.1) None
      by true h rest = absurd (none-some d.1 (sym h))
      by false h rest = rest h

both : (a b c : Bool) → (a && (b && c)) ≡ true → (a ≡ true) × (b ≡ true) × (c ≡ true)
both true true true h = (refl, refl, refl)
both true true false h = cc
both true false c h = cc
both false b c h = cc

-- pairs that are the same are one
one_pair : (q p : PairNode) → is_same_pair q p ≡ true → q ≡ p
one_pair q p h =
    let (r, s, t) = both (p.relation == q.relation) (q.holder == p.holder) (q.member == p.member) h in
    let rs : q.relation ≡ p.relation = sym (eqb-true p.relation q.relation r) in
    let hs : q.holder ≡ p.holder = eqb-true q.holder p.holder s in
    let ms : q.member ≡ p.member = eqb-true q.member p.member t in
    λ i. record { relation = rs i; holder = hs i; member = ms i }

-- a pair that has a place
pub noted_before : (es : List (PairNode × ℕ)) (before : List PairNode) (p : PairNode) → (lookup (is_same_pair p) es ≡ None → ⊥) → AreFirstPlaces es before
    → AreFirstPlaces es (before ++ p ∷ [])
noted_before es before p some are q = are q ∙ by (position (is_same_pair q) before) refl
  where
    apart : position (is_same_pair q) before ≡ None → is_same_pair q p ≡ true → ⊥
    apart none same = some (are p ∙ (ap (λ r. position (is_same_pair r) before) (sym (one_pair q p same)) ∙ none))

    by : (o : Option ℕ) → position (is_same_pair q) before ≡ o → position (is_same_pair q) before ≡ position (is_same_pair q) (before ++ p ∷ [])
    by (Some i) e = e ∙ sym (position_kept (is_same_pair q) before p i e)
    by None e =
        elim (cases_Bool (is_same_pair q p)) [
          | inl one ↦ absurd (apart e one)
          | inr other ↦ e ∙ (sym (ap (λ b. cond b (Some (length before)) None) other) ∙ sym (position_new (is_same_pair q) before p e))
        ]

-- and one that had none
pub noted_now : (es new : List (PairNode × ℕ)) (before : List PairNode) (p : PairNode) (place : ℕ) → new ≡ es ++ (p, place) ∷ [] → place ≡ length before → AreFirstPlaces es before
    → AreFirstPlaces new (before ++ p ∷ [])
noted_now es new before p place is same are q = ap (lookup (is_same_pair q)) is ∙ by (position (is_same_pair q) before) refl
  where
    by : (o : Option ℕ) → position (is_same_pair q) before ≡ o → lookup (is_same_pair q) (es ++ (p, place) ∷ []) ≡ position (is_same_pair q) (before ++ p ∷ [])
    by (Some i) e = found_before (is_same_pair q) es (p, place) i (are q ∙ e) ∙ sym (position_kept (is_same_pair q) before p i e)
    by None e =
        found_new (is_same_pair q) es (p, place) (are q ∙ e)
        ∙ (ap (λ n. cond (is_same_pair q p) (Some n) None) same ∙ sym (position_new (is_same_pair q) before p e))
