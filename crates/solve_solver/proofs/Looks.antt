-- A look at a clause, of which one watched literal is false.
use Rattle.std.proofs.Common.{◌≡◌, ◌⊎◌, ℕ, ◌+◌, ◌<◌, Bool, true, false, List, [], ◌∷◌, ◌++◌, length, get_or, take, inl, inr, refl}
use Rattle.std.specs.Bool.{OnTrue, OnFalse}
use Rattle.std.specs.List.{All, Contains}
use Rattle.std.proofs.lemmas.List.{take_more}
use Rattle.std.proofs.lemmas.List.Elements.{All-push, Contains-append_left, Contains-push}
use Rattle.solve_solver.specs.declared.literal.PLit.{PLit}
use Rattle.solve_solver.specs.declared.trail.Entry.{Entry}
use Rattle.solve_solver.specs.Units.{IsFalseIn}

-- the literals that were passed are false, or the other one that is watched
pub record Looked (es : List Entry) (passed : List PLit) (other : PLit) (has_other : Bool) : Type 0 where
  pub each : All (λ x. IsFalseIn es x ⊎ (x ≡ other)) passed
  pub there : OnTrue has_other (Contains passed other)
  pub none : OnFalse has_other (All (IsFalseIn es) passed)

pub Looked-other : (es : List Entry) (clause : List PLit) (i : ℕ) (d other : PLit) (has_other : Bool) → i < length clause → get_or clause i d ≡ other → Looked es (take i clause) other has_other → Looked es (take (i + 1) clause) other true
Looked-other es clause i d other has_other h e k = rw (take_more clause i d h, e) (record {
  each = All-push (λ x. IsFalseIn es x ⊎ (x ≡ other)) (take i clause) other k.each (inr refl);
  there = Contains-push (take i clause) other;
  none = tt;
})

pub Looked-false : (es : List Entry) (clause : List PLit) (i : ℕ) (d other : PLit) (has_other : Bool) → i < length clause → IsFalseIn es (get_or clause i d) → Looked es (take i clause) other has_other → Looked es (take (i + 1) clause) other has_other
Looked-false es clause i d other has_other h f k = rw (take_more clause i d h) (record {
  each = All-push (λ x. IsFalseIn es x ⊎ (x ≡ other)) (take i clause) (get_or clause i d) k.each (inl f);
  there = there has_other k.there;
  none = none has_other k.none;
})
  where
    there : (b : Bool) → OnTrue b (Contains (take i clause) other) → OnTrue b (Contains (take i clause ++ get_or clause i d ∷ []) other)
    there true c = Contains-append_left (take i clause) (get_or clause i d ∷ []) other c
    there false c = tt

    none : (b : Bool) → OnFalse b (All (IsFalseIn es) (take i clause)) → OnFalse b (All (IsFalseIn es) (take i clause ++ get_or clause i d ∷ []))
    none true c = tt
    none false c = All-push (IsFalseIn es) (take i clause) (get_or clause i d) c f
