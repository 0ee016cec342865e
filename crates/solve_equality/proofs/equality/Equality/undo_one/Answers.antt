use Rattle.std.proofs.Common.{◌∙◌, List, [], ◌∷◌, ◌++◌, sym, subst, refl, arith, ℕ, Option}
use Rattle.solve_equality.specs.declared.entry.Entry.{Entry}
use Rattle.solve_equality.specs.Search.{IsTree, IsClosed}
use Rattle.solve_equality.specs.Entries.{IsSoundEquality}
use Rattle.solve_equality.proofs.EqualityUndo.{pop_sound, popped_pairs, parts_no_join, join_fits, parts_join}
use Rattle.solve_equality.proofs.equality.Equality.undo_one.Goals as goal

pub search-requires-clause-within : goal.search-requires-clause-within
search-requires-clause-within c =
    let e = c.self.inside in
    let front = c.pop.new.self.items in
    let last = c.in-Some.last in
    let was : IsSoundEquality (front ++ last ∷ []) e.entries.cap e.limit e.links.terms e.fixed.items e.links e.gaps e.parts e.visits e.failure =
    subst (λ (l : List Entry). IsSoundEquality l e.entries.cap e.limit e.links.terms e.fixed.items e.links e.gaps e.parts e.visits e.failure) c.in-Some.ensures.items c.self.invariant in
    let is_join = sym c.join.ensures ∙ c.in-Some-join.is in
    let j = c.in-Some-join.join in
    let fits = join_fits front last e.entries.cap e.limit e.links.terms e.fixed.items e.links e.gaps e.parts e.visits e.failure was j is_join in
    rw c.pop-in-Some.ensures fits.0

pub split-requires-clause-from_in : goal.split-requires-clause-from_in
split-requires-clause-from_in c =
    let e = c.self.inside in
    let front = c.pop.new.self.items in
    let last = c.in-Some.last in
    let was : IsSoundEquality (front ++ last ∷ []) e.entries.cap e.limit e.links.terms e.fixed.items e.links e.gaps e.parts e.visits e.failure =
    subst (λ (l : List Entry). IsSoundEquality l e.entries.cap e.limit e.links.terms e.fixed.items e.links e.gaps e.parts e.visits e.failure) c.in-Some.ensures.items c.self.invariant in
    let is_join = sym c.join.ensures ∙ c.in-Some-join.is in
    let j = c.in-Some-join.join in
    let fits = join_fits front last e.entries.cap e.limit e.links.terms e.fixed.items e.links e.gaps e.parts e.visits e.failure was j is_join in
    fits.1

pub split-requires-clause-into_in : goal.split-requires-clause-into_in
split-requires-clause-into_in c =
    let e = c.self.inside in
    let front = c.pop.new.self.items in
    let last = c.in-Some.last in
    let was : IsSoundEquality (front ++ last ∷ []) e.entries.cap e.limit e.links.terms e.fixed.items e.links e.gaps e.parts e.visits e.failure =
    subst (λ (l : List Entry). IsSoundEquality l e.entries.cap e.limit e.links.terms e.fixed.items e.links e.gaps e.parts e.visits e.failure) c.in-Some.ensures.items c.self.invariant in
    let is_join = sym c.join.ensures ∙ c.in-Some-join.is in
    let j = c.in-Some-join.join in
    let fits = join_fits front last e.entries.cap e.limit e.links.terms e.fixed.items e.links e.gaps e.parts e.visits e.failure was j is_join in
    fits.2

pub split-requires-clause-terms : goal.split-requires-clause-terms
split-requires-clause-terms c =
    let e = c.self.inside in
    let front = c.pop.new.self.items in
    let last = c.in-Some.last in
    let was : IsSoundEquality (front ++ last ∷ []) e.entries.cap e.limit e.links.terms e.fixed.items e.links e.gaps e.parts e.visits e.failure =
    subst (λ (l : List Entry). IsSoundEquality l e.entries.cap e.limit e.links.terms e.fixed.items e.links e.gaps e.parts e.visits e.failure) c.in-Some.ensures.items c.self.invariant in
    let is_join = sym c.join.ensures ∙ c.in-Some-join.is in
    let j = c.in-Some-join.join in
    let fits = join_fits front last e.entries.cap e.limit e.links.terms e.fixed.items e.links e.gaps e.parts e.visits e.failure was j is_join in
    c.search.ensures.terms ∙ was.visits_are ∙ sym fits.3

pub invariant_of-self : goal.invariant_of-self
invariant_of-self c =
    let e = c.self.inside in
    let front = c.pop.new.self.items in
    let last = c.in-Some.last in
    let was : IsSoundEquality (front ++ last ∷ []) e.entries.cap e.limit e.links.terms e.fixed.items e.links e.gaps e.parts e.visits e.failure =
    subst (λ (l : List Entry). IsSoundEquality l e.entries.cap e.limit e.links.terms e.fixed.items e.links e.gaps e.parts e.visits e.failure) c.in-Some.ensures.items c.self.invariant in
    let is_join = sym c.join.ensures ∙ c.in-Some-join.is in
    let j = c.in-Some-join.join in
    let fits = join_fits front last e.entries.cap e.limit e.links.terms e.fixed.items e.links e.gaps e.parts e.visits e.failure was j is_join in
    let found = c.search.ensures in
    let pairs = popped_pairs front last e.entries.cap e.limit e.links.terms e.fixed.items e.links e.gaps e.parts e.visits e.failure was c.pop-in-Some.new.self c.pop-in-Some.ensures in
    let back =
    parts_join front last e.entries.cap e.limit e.links.terms e.fixed.items e.links e.gaps e.parts e.visits e.failure was j is_join c.search.new.visits.visits c.split.new.self found.begins found.starts
    (subst (λ (ps : List (Option (ℕ × ℕ))). IsTree ps c.search.new.visits.visits) pairs found.tree)
    (subst (λ (ps : List (Option (ℕ × ℕ))). IsClosed ps c.search.new.visits.visits) pairs found.closed)
    c.split.ensures.classes c.split.ensures.anchors in
    rw (c.pop-in-Some.ensures, c.pop-in-Some-2.ensures)
    (pop_sound front last e.entries.cap e.limit e.links.terms e.fixed.items e.links e.gaps e.parts e.visits e.failure was c.pop.new.self.cap _ _ c.split.new.self c.search.new.visits (omega (arith, c.in-Some.ensures.capacity)) refl refl
    back (found.terms ∙ was.visits_are))

pub invariant_of-self-in_default-join : goal.invariant_of-self-in_default-join
invariant_of-self-in_default-join c =
    let e = c.self.inside in
    let front = c.pop.new.self.items in
    let last = c.in-Some.last in
    let was : IsSoundEquality (front ++ last ∷ []) e.entries.cap e.limit e.links.terms e.fixed.items e.links e.gaps e.parts e.visits e.failure =
    subst (λ (l : List Entry). IsSoundEquality l e.entries.cap e.limit e.links.terms e.fixed.items e.links e.gaps e.parts e.visits e.failure) c.in-Some.ensures.items c.self.invariant in
    rw (c.pop-in-Some.ensures, c.pop-in-Some-2.ensures)
    (pop_sound front last e.entries.cap e.limit e.links.terms e.fixed.items e.links e.gaps e.parts e.visits e.failure was c.pop.new.self.cap _ _ e.parts e.visits (omega (arith, c.in-Some.ensures.capacity)) refl refl
    (parts_no_join front last e.entries.cap e.limit e.links.terms e.fixed.items e.links e.gaps e.parts e.visits e.failure was (sym c.join.ensures ∙ c.in_default-join.is)) was.visits_are)
