-- Rounds of what total functions lead to.
use Rattle.std.proofs.Common.{◌≡◌, ℕ, zero, suc, ◌+◌, ◌-◌, ◌<◌, ◌≤◌, Bool, true, false, ◌||◌, ◌&&◌, refl, sym, ◌∙◌, List, [], ◌∷◌, ◌++◌, length, ap, arith, Some, add-one, take}
use Rattle.std.specs.Prelude.{◌==◌, ◌^◌, nat_lt, slice_get, replicate}
use Rattle.std.specs.List.{list_any, list_all}
use Rattle.std.specs.Cmp.Lexicographic.{pointwise}
use Rattle.std.proofs.Math.Bool.{beq}
use Rattle.std.proofs.lemmas.Bool.{and_parts, ltb-true}
use Rattle.std.proofs.lemmas.Option.{same_Some}
use Rattle.std.proofs.lemmas.List.{length-replicate}
use Rattle.std.proofs.Math.Seq.{take-append_seam}
use Rattle.form_formula.specs.declared.structure.FunSig.{FunSig}
use Rattle.form_formula.specs.declared.structure.SetSig.{SetSig}
use Rattle.form_formula.specs.declared.structure.Signature.{Signature}
use Rattle.form_formula.specs.Signature.{has_range}
use Rattle.form_formula.specs.Trees.{Formula}
use Rattle.form_terms.specs.Universe.{leads_to, sorts_of, is_needed_after}
use Rattle.ground_terms.specs.Codes.{is_marked, AreMarked}
use Rattle.ground_terms.specs.Needed.{AreSpread, AreNeededAfter}

-- a test that answers alike at each element
any_same : {A : Type 0} (p q : A → Bool) (xs : List A) → ((x : A) (k : ℕ) → slice_get xs k ≡ Some x → p x ≡ q x) → list_any p xs ≡ list_any q xs
any_same p q [] e = refl
any_same p q (x ∷ xs) e =
    ap (λ b. b || list_any p xs) (e x 0 refl) ∙ ap (λ b. q x || b) (any_same p q xs (λ y k h. e y (suc k) h))

module _ (g : Signature) where
  functions_fit : list_all (λ (f : FunSig). nat_lt f.from g.sorts && has_range g.sorts f.to) g.funs ≡ true
  functions_fit =
      let small : Bool = nat_lt (length g.funs) (2 ^ 32) && nat_lt (length g.sets) (2 ^ 32) in
      let funs : Bool = list_all (λ (f : FunSig). nat_lt f.from g.sorts && has_range g.sorts f.to) g.funs in
      let sets : Bool = list_all (λ (r : SetSig). nat_lt r.from g.sorts && nat_lt r.to g.sorts) g.sets in
      (and_parts small funs (and_parts (small && funs) sets g.fits).0).1

  passes_at : {A : Type 0} (p : A → Bool) (xs : List A) (i : ℕ) (x : A) → list_all p xs ≡ true → slice_get xs i ≡ Some x → p x ≡ true
  passes_at p [] i x h e = cc
  passes_at p (y ∷ xs) zero x h e = ap p (sym (same_Some y x e)) ∙ (and_parts (p y) (list_all p xs) h).0
  passes_at p (y ∷ xs) (suc i) x h e = passes_at p xs i x (and_parts (p y) (list_all p xs) h).1 e

  -- a function's source is a sort
  pub source_within : (sig : FunSig) (k : ℕ) → slice_get g.funs k ≡ Some sig → sig.from < g.sorts
  source_within sig k e =
      ltb-true sig.from g.sorts
      (and_parts (nat_lt sig.from g.sorts) (has_range g.sorts sig.to)
      (passes_at (λ (f : FunSig). nat_lt f.from g.sorts && has_range g.sorts f.to) g.funs k sig functions_fit e)).0

module _ (g : Signature) (f : Formula) where
  N : ℕ → ℕ → Bool
  N n sort = is_needed_after g f n sort

  -- what the functions lead to
  led_same : (p q : ℕ → Bool) (sort : ℕ) → ((s : ℕ) → s < g.sorts → p s ≡ q s)
      → list_any (λ sig. leads_to sort sig && p sig.from) g.funs ≡ list_any (λ sig. leads_to sort sig && q sig.from) g.funs
  led_same p q sort e =
      any_same (λ sig. leads_to sort sig && p sig.from) (λ sig. leads_to sort sig && q sig.from) g.funs
      (λ sig k h. ap (λ b. leads_to sort sig && b) (e sig.from (source_within g sig k h)))

  pub after_marking : (marks : List Bool) → ((sort : ℕ) → is_marked (replicate g.sorts false) sort ≡ false) → AreMarked (sorts_of g f) (replicate g.sorts false) marks → AreNeededAfter g f 0 marks
  after_marking marks none h =
      let size : length (replicate g.sorts false) ≡ g.sorts = length-replicate g.sorts false in
      record {
        size = h.size ∙ size;
        marked = λ sort lt. h.marked sort (omega (arith, lt, size)) ∙ ap (λ b. b || list_any (λ s. s == sort) (sorts_of g f)) (none sort);
      }

  pub after_spreading : (n : ℕ) (marks next : List Bool) → AreNeededAfter g f n marks → AreSpread g.funs marks marks next → AreNeededAfter g f (n + 1) next
  after_spreading n marks next h s =
      record {
        size = s.size ∙ h.size;
        marked = λ sort lt.
            s.marked sort (omega (arith, lt, h.size))
            ∙ (ap (λ b. b || list_any (λ sig. leads_to sort sig && is_marked marks sig.from) g.funs) (h.marked sort lt)
            ∙ (ap (λ b. is_needed_after g f n sort || b) (led_same (is_marked marks) (is_needed_after g f n) sort h.marked) ∙ ap (λ k. is_needed_after g f k sort) (sym (add-one n))));
      }

  -- where one round adds nothing, none does
  no_more : (n : ℕ) → ((s : ℕ) → s < g.sorts → is_needed_after g f (suc n) s ≡ is_needed_after g f n s) → (k s : ℕ) → s < g.sorts → is_needed_after g f (k + n) s ≡ is_needed_after g f n s
  no_more n e zero s lt = let z : 0 + n ≡ n = omega arith in ap (λ m. is_needed_after g f m s) z
  no_more n e (suc k) s lt =
      let z : suc k + n ≡ suc (k + n) = omega arith in
      ap (λ m. is_needed_after g f m s) z
      ∙ (ap (λ b. b || list_any (λ sig. leads_to s sig && is_needed_after g f (k + n) sig.from) g.funs) (no_more n e k s lt)
      ∙ (ap (λ b. is_needed_after g f n s || b) (led_same (is_needed_after g f (k + n)) (is_needed_after g f n) s (no_more n e k)) ∙ e s lt))

  pub settled : (n m : ℕ) (marks : List Bool) → n ≤ m → AreNeededAfter g f n marks → AreSpread g.funs marks marks marks → AreNeededAfter g f m marks
  settled n m marks le h s =
      let later = after_spreading n marks marks h s in
      let same : (s : ℕ) → s < g.sorts → is_needed_after g f (suc n) s ≡ is_needed_after g f n s =
      λ s lt. ap (λ k. is_needed_after g f k s) (sym (add-one n)) ∙ (sym (later.marked s lt) ∙ h.marked s lt) in
      let sum : (m - n) + n ≡ m = omega (arith, le) in
      record {
        size = h.size;
        marked = λ sort lt. h.marked sort lt ∙ (sym (no_more n same (m - n) sort lt) ∙ ap (λ k. is_needed_after g f k sort) sum);
      }

pub none_marked_at : (n sort : ℕ) → is_marked (replicate n false) sort ≡ false
none_marked_at zero sort = refl
none_marked_at (suc n) zero = refl
none_marked_at (suc n) (suc sort) = none_marked_at n sort

-- a slice that was written to, in the list that it is all of
pub written_back : {A : Type 0} (n : ℕ) (new rest : List A) → length new ≡ n → take n (new ++ rest) ≡ new
written_back n new rest e = ap (λ k. take k (new ++ rest)) (sym e) ∙ take-append_seam new rest

-- marks that are compared as equal
pub same_marks : (xs ys : List Bool) → pointwise beq xs ys ≡ true → xs ≡ ys
same_marks [] [] e = refl
same_marks [] (y ∷ ys) e = cc
same_marks (x ∷ xs) [] e = cc
same_marks (true ∷ xs) (true ∷ ys) e = ap (λ zs. true ∷ zs) (same_marks xs ys e)
same_marks (true ∷ xs) (false ∷ ys) e = cc
same_marks (false ∷ xs) (true ∷ ys) e = cc
same_marks (false ∷ xs) (false ∷ ys) e = ap (λ zs. false ∷ zs) (same_marks xs ys e)
