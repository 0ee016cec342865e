use Rattle.std.proofs.Common.{ℕ, List, Option, ap, subst, arith}
use Rattle.solve_equality.specs.Edges.{Graph}
use Rattle.solve_equality.specs.Search.{IsPath}
use Rattle.solve_equality.specs.Entries.{IsStanding, IsForbidden}
use Rattle.solve_equality.proofs.EqualityState.{HasModel-sound}
use Rattle.solve_equality.proofs.EqualityCore.{core_fixed, core_forbidden, room_for_last}
use Rattle.solve_equality.proofs.equality.EqualityTheory.conflict.Goals as goal

pub push-requires : goal.push-requires
push-requires c =
    let e = c.self.inside in
    let f = c.in-Some.failure in
    let failed = subst (IsStanding e.links.terms e.fixed.items e.entries.items) c.in-Some.is c.self.invariant.standing in
    let path = c.write_path.new.path.items in
    let pairs = ap (λ (g : Graph). g.pairs) c.self.invariant.links_are in
    let is_path = subst (λ (ps : List (Option (ℕ × ℕ))). IsPath ps path f.left f.right) pairs c.write_path.ensures.path in
    let forbidden = subst (IsForbidden e.fixed.items e.entries.items f.left f.right) c.in-Some-forbidden_by.is failed.forbidden in
    let room = rw (← c.self.view_is) at c.requires.room in
    omega (arith, room_for_last e.links.terms e.fixed.items e.entries.items f.left f.right failed.left_in failed.right_in path is_path c.in-Some-forbidden_by.position forbidden, room, c.clear.ensures.capacity, c.write_path.ensures.capacity)

pub returns-in-Some-forbidden_by-clause-core : goal.returns-in-Some-forbidden_by-clause-core
returns-in-Some-forbidden_by-clause-core c =
    let e = c.self.inside in
    let f = c.in-Some.failure in
    let failed = subst (IsStanding e.links.terms e.fixed.items e.entries.items) c.in-Some.is c.self.invariant.standing in
    let path = c.write_path.new.path.items in
    let pairs = ap (λ (g : Graph). g.pairs) c.self.invariant.links_are in
    let is_path = subst (λ (ps : List (Option (ℕ × ℕ))). IsPath ps path f.left f.right) pairs c.write_path.ensures.path in
    let forbidden = subst (IsForbidden e.fixed.items e.entries.items f.left f.right) c.in-Some-forbidden_by.is failed.forbidden in
    rw c.push.ensures.items (core_forbidden e.links.terms e.fixed.items e.entries.items f.left f.right failed.left_in failed.right_in path is_path c.in-Some-forbidden_by.position forbidden)

pub returns-in_default-forbidden_by-clause-core : goal.returns-in_default-forbidden_by-clause-core
returns-in_default-forbidden_by-clause-core c =
    let e = c.self.inside in
    let f = c.in-Some.failure in
    let failed = subst (IsStanding e.links.terms e.fixed.items e.entries.items) c.in-Some.is c.self.invariant.standing in
    let path = c.write_path.new.path.items in
    let pairs = ap (λ (g : Graph). g.pairs) c.self.invariant.links_are in
    let is_path = subst (λ (ps : List (Option (ℕ × ℕ))). IsPath ps path f.left f.right) pairs c.write_path.ensures.path in
    let forbidden = subst (IsForbidden e.fixed.items e.entries.items f.left f.right) c.in_default-forbidden_by.is failed.forbidden in
    core_fixed e.links.terms e.fixed.items e.entries.items f.left f.right failed.left_in failed.right_in path is_path forbidden

pub returns-in_default-clause-core : goal.returns-in_default-clause-core
returns-in_default-clause-core c =
    let e = c.self.inside in
    absurd (rw (← c.self.view_is) at c.requires.no_model (HasModel-sound e.entries.items e.entries.cap e.limit e.links.terms e.fixed.items e.links e.gaps e.parts e.visits e.failure c.self.invariant c.in_default.is))
