-- What each kind of assertion leaves.
use Rattle.std.proofs.Common.{◌≡◌, ◌≢◌, ℕ, ◌<◌, ◌≤◌, Bool, true, ◌⊎◌, eqb, List, [], ◌∷◌, ◌++◌, length, map, Option, Some, None, sym, ap, ◌∙◌, subst, refl, inl, inr, arith}
use Rattle.std.proofs.Math.Logic.{⊎_elim}
use Rattle.std.proofs.lemmas.Bool.{cases_eq, eqb-true, eq-eqb}
use Rattle.std.proofs.lemmas.List.{length-map, length_push, get_or-map}
use Rattle.solve_equality.specs.declared.literal.EqualityLit.TheVariants.{Same, Differ}
use Rattle.solve_equality.specs.declared.entry.Join.{Join}
use Rattle.solve_equality.specs.declared.entry.Entry.{Entry}
use Rattle.solve_equality.specs.declared.entry.Entry.TheVariants.{Joined, Known, Apart, Failed}
use Rattle.solve_equality.specs.declared.entry.Failure.{Failure}
use Rattle.solve_theory.specs.Models.{HasModel}
use Rattle.solve_equality.specs.declared.visits.Visit.{Visit}
use Rattle.solve_equality.specs.Visits.{Visited, has_visited, visit_at}
use Rattle.solve_equality.specs.Edges.{Graph, pair_at, Joins}
use Rattle.solve_equality.specs.Partition.{Parts, class_at, anchor_at, joined, start}
use Rattle.solve_equality.specs.Search.{IsTree, IsClosed}
use Rattle.solve_equality.specs.Equality.{meets_literal, is_classes}
use Rattle.solve_equality.specs.EntryEnds.{literal_of, link_of, gap_of}
use Rattle.solve_equality.specs.Entries.{AreWithin, IsJoin, IsSettled, IsSeparated, SaysDifferent, IsForbidden, IsStanding, IsSoundEquality, entry_at}
use Rattle.solve_equality.specs.Clash.{IsClash, IsClashBy}
use Rattle.solve_equality.proofs.Classes.{class_at-joined, relabel_from, relabel_other, IsSameInClasses}
use Rattle.solve_equality.proofs.Members.{members}
use Rattle.solve_equality.proofs.EqualityState.{good, settled_if_model, within_at}
use Rattle.solve_equality.proofs.EqualitySteps.{at_push, push_sound, separated_same, settled_push, settled_before, same_before, agree_last, entry_at_last, entry_at_front}

-- the edge of a difference's number
gap_at : (entries : List Entry) (k : ℕ) → k < length entries → pair_at (map gap_of entries) k ≡ gap_of (entry_at entries k)
gap_at entries k l = get_or-map gap_of entries k (Known 0 0) None l

within_gap : (terms : ℕ) (e : Entry) (s t : ℕ) → AreWithin terms (literal_of e) → Joins (gap_of e) s t → t < terms
within_gap terms (Joined x) s t within h = absurd h
within_gap terms (Known l r) s t within h = absurd h
within_gap terms (Failed x) s t within h = absurd h
within_gap terms (Apart l r) s t within h =
    ⊎_elim (λ e. subst (λ u. u < terms) e.1 within.1) (λ e. subst (λ u. u < terms) e.0 within.0) h

says_from_gap : (e : Entry) (left right : ℕ) → Joins (gap_of e) right left → SaysDifferent (literal_of e) left right
says_from_gap (Joined x) left right h = absurd h
says_from_gap (Known l r) left right h = absurd h
says_from_gap (Failed x) left right h = absurd h
says_from_gap (Apart l r) left right h = ⊎_elim (λ e. inr (e.0, e.1)) (λ e. inl (e.0, e.1)) h

module _ (entries : List Entry) (room limit terms : ℕ) (fixed : List ℕ) (links gaps : Graph) (parts : Parts) (visits : Visited) (failure : Option Failure) (sound : IsSoundEquality entries room limit terms fixed links gaps parts visits failure) (has_model : HasModel (is_classes terms fixed) meets_literal (map literal_of entries)) (more : ℕ) (le : room ≤ more) (free : length entries < limit) where
  pub no_failure : failure ≡ None
  no_failure = settled_if_model terms fixed entries failure sound.standing has_model

  pub all_settled : (k : ℕ) → k < length entries → IsSettled (entry_at entries k)
  all_settled = subst (IsStanding terms fixed entries) no_failure sound.standing

  -- a search along the links from a term comes to the members of its class
  pub search_members : (found : List Visit) (near from : ℕ) → near < terms → class_at parts near ≡ from → 0 < length found → (visit_at found 0).term ≡ near → IsTree links.pairs found → IsClosed links.pairs found
      → (t : ℕ) → t < terms → has_visited found t ≡ eqb (class_at parts t) from
  search_members found near from near_in near_from begins starts tree closed t t_in =
      let pairs : links.pairs ≡ map link_of entries = ap (λ (g : Graph). g.pairs) sound.links_are in
      subst (λ (s : Parts). has_visited found t ≡ eqb (class_at s t) from) (sym sound.parts_are)
      (members terms fixed sound.fixed_in entries sound.lawful all_settled found near from near_in (ap (λ (s : Parts). class_at s near) (sym sound.parts_are) ∙ near_from) begins starts
      (subst (λ ps. IsTree ps found) pairs tree) (subst (λ ps. IsClosed ps found) pairs closed) t t_in)

  pub apart_sound : (l r : ℕ) (new_links new_gaps : Graph) → l < terms → r < terms → class_at parts l ≢ class_at parts r
      → new_links ≡ record links { pairs = links.pairs ++ None ∷ [] } → new_gaps ≡ record gaps { pairs = gaps.pairs ++ Some (l, r) ∷ [] }
      → IsSoundEquality (entries ++ Apart l r ∷ []) more limit terms fixed new_links new_gaps parts visits failure
  apart_sound l r new_links new_gaps l_in r_in apart links_e gaps_e =
      push_sound entries room limit terms fixed links gaps parts visits failure sound (Apart l r) more new_links new_gaps parts visits failure le free links_e gaps_e refl sound.visits_are (l_in, r_in)
      (separated_same entries room limit terms fixed links gaps parts visits failure sound (Apart l r) apart)
      (subst (IsStanding terms fixed (entries ++ Apart l r ∷ [])) (sym no_failure) (settled_push entries room limit terms fixed links gaps parts visits failure sound (Apart l r) all_settled tt))

  pub known_sound : (l r : ℕ) (new_links new_gaps : Graph) → l < terms → r < terms → class_at parts l ≡ class_at parts r
      → new_links ≡ record links { pairs = links.pairs ++ None ∷ [] } → new_gaps ≡ record gaps { pairs = gaps.pairs ++ None ∷ [] }
      → IsSoundEquality (entries ++ Known l r ∷ []) more limit terms fixed new_links new_gaps parts visits failure
  known_sound l r new_links new_gaps l_in r_in same links_e gaps_e =
      push_sound entries room limit terms fixed links gaps parts visits failure sound (Known l r) more new_links new_gaps parts visits failure le free links_e gaps_e refl sound.visits_are (l_in, r_in, same)
      (separated_same entries room limit terms fixed links gaps parts visits failure sound (Known l r) tt)
      (subst (IsStanding terms fixed (entries ++ Known l r ∷ [])) (sym no_failure) (settled_push entries room limit terms fixed links gaps parts visits failure sound (Known l r) all_settled tt))

  pub failed_differ_sound : (l r : ℕ) (new_links new_gaps : Graph) → l < terms → r < terms → class_at parts l ≡ class_at parts r
      → new_links ≡ record links { pairs = links.pairs ++ None ∷ [] } → new_gaps ≡ record gaps { pairs = gaps.pairs ++ None ∷ [] }
      → IsSoundEquality (entries ++ Failed (Differ l r) ∷ []) more limit terms fixed new_links new_gaps parts visits (Some (record { left = l; right = r; forbidden_by = Some (length entries) }))
  failed_differ_sound l r new_links new_gaps l_in r_in same links_e gaps_e =
      let e : Entry = Failed (Differ l r) in
      push_sound entries room limit terms fixed links gaps parts visits failure sound e more new_links new_gaps parts visits (Some (record { left = l; right = r; forbidden_by = Some (length entries) })) le free links_e gaps_e refl sound.visits_are (l_in, r_in)
      (separated_same entries room limit terms fixed links gaps parts visits failure sound e tt)
      (record {
        left_in = l_in;
        right_in = r_in;
        linked = λ f agrees. same_before entries room limit terms fixed links gaps parts visits failure sound e f agrees l r l_in r_in same;
        forbidden = (
          omega (arith, length_push entries e),
          subst (λ x. SaysDifferent (literal_of x) l r) (sym (entry_at_last entries e)) (inl (refl, refl)),
        );
        settled = settled_before entries room limit terms fixed links gaps parts visits failure sound e all_settled;
      })

  -- an equality of terms of two classes, the members of one of which are visited
  module _ (j : Join) (left_in : j.left < terms) (right_in : j.right < terms) (near_in : j.near < terms) (near_from : class_at parts j.near ≡ j.from)
      (ends : ((class_at parts j.left ≡ j.from) × (class_at parts j.right ≡ j.into)) ⊎ ((class_at parts j.left ≡ j.into) × (class_at parts j.right ≡ j.from)))
      (apart : j.from ≢ j.into) (kept : j.anchor ≡ anchor_at parts j.into) (seen : Visited) (seen_terms : seen.terms ≡ terms) (members : (t : ℕ) → t < terms → has_visited seen.visits t ≡ eqb (class_at parts t) j.from) where
    lawful_join : (anchor_at parts j.into ≡ None) ⊎ (anchor_at parts j.from ≡ None) → IsJoin terms parts j
    lawful_join empty = record { left_in = left_in; right_in = right_in; near_in = near_in; near_from = near_from; ends = ends; apart = apart; kept = kept; free = empty }

    -- a difference of terms of which no two are in the joined classes stays one
    separated_joined : (e : Entry) → ((s t : ℕ) → Joins (gap_of e) s t → class_at parts t ≡ j.from → class_at parts s ≢ j.into) → ((s t : ℕ) → Joins (gap_of e) s t → t < terms) → IsSeparated parts e → IsSeparated (joined parts j.from j.into) e
    separated_joined (Joined x) clear within h = tt
    separated_joined (Known l r) clear within h = tt
    separated_joined (Failed x) clear within h = tt
    separated_joined (Apart l r) clear within h = λ same.
        let n = (good entries room limit terms fixed links gaps parts visits failure sound).classes_len in
        let l_in : l < terms = within r l (inr (refl, refl)) in
        let r_in : r < terms = within l r (inl (refl, refl)) in
        let both = sym (class_at-joined parts j.from j.into l (omega arith)) ∙ same ∙ class_at-joined parts j.from j.into r (omega arith) in
        let cl = class_at parts l in
        let cr = class_at parts r in
        ⊎_elim
        (λ l_from. ⊎_elim
        (λ r_from. h (l_from ∙ sym r_from))
        (λ r_other. clear r l (inr (refl, refl)) l_from (sym (sym (relabel_from j.from j.into cl l_from) ∙ both ∙ relabel_other j.from j.into cr r_other)))
        (cases_eq cr j.from))
        (λ l_other. ⊎_elim
        (λ r_from. clear l r (inl (refl, refl)) r_from (sym (relabel_other j.from j.into cl l_other) ∙ both ∙ relabel_from j.from j.into cr r_from))
        (λ r_other. h (sym (relabel_other j.from j.into cl l_other) ∙ both ∙ relabel_other j.from j.into cr r_other))
        (cases_eq cr j.from))
        (cases_eq cl j.from)

    separated_all : ((k s t : ℕ) → k < length gaps.pairs → Joins (pair_at gaps.pairs k) s t → has_visited seen.visits t ≡ true → class_at parts s ≢ j.into)
        → (k : ℕ) → k < length entries → IsSeparated (joined parts j.from j.into) (entry_at entries k)
    separated_all clear k l =
        let gap : pair_at gaps.pairs k ≡ gap_of (entry_at entries k) = ap (λ (g : Graph). pair_at g.pairs k) sound.gaps_are ∙ gap_at entries k l in
        let k_in : k < length gaps.pairs = omega (arith, ap (λ (g : Graph). length g.pairs) sound.gaps_are, length-map entries gap_of) in
        let within : (s t : ℕ) → Joins (gap_of (entry_at entries k)) s t → t < terms = λ s t.
        within_gap terms (entry_at entries k) s t (within_at terms (start terms fixed) entries k (Known 0 0) sound.lawful l) in
        separated_joined (entry_at entries k)
        (λ s t h from. clear k s t k_in (subst (λ p. Joins p s t) (sym gap) h) (members t (within s t h) ∙ eq-eqb (class_at parts t) j.from from))
        within
        (sound.separated k l)

    pub joined_sound : (new_links new_gaps : Graph) (new_parts : Parts) → (anchor_at parts j.into ≡ None) ⊎ (anchor_at parts j.from ≡ None)
        → ((k s t : ℕ) → k < length gaps.pairs → Joins (pair_at gaps.pairs k) s t → has_visited seen.visits t ≡ true → class_at parts s ≢ j.into)
        → new_links ≡ record links { pairs = links.pairs ++ Some (j.left, j.right) ∷ [] } → new_gaps ≡ record gaps { pairs = gaps.pairs ++ None ∷ [] } → new_parts ≡ joined parts j.from j.into
        → IsSoundEquality (entries ++ Joined j ∷ []) more limit terms fixed new_links new_gaps new_parts seen failure
    joined_sound new_links new_gaps new_parts empty clear links_e gaps_e parts_e =
        push_sound entries room limit terms fixed links gaps parts visits failure sound (Joined j) more new_links new_gaps new_parts seen failure le free links_e gaps_e parts_e seen_terms (lawful_join empty)
        (subst (λ (p : Parts). (k : ℕ) → k < length (entries ++ Joined j ∷ []) → IsSeparated p (entry_at (entries ++ Joined j ∷ []) k)) (sym parts_e)
        (at_push (IsSeparated (joined parts j.from j.into)) entries (Joined j) (separated_all clear) tt))
        (subst (IsStanding terms fixed (entries ++ Joined j ∷ [])) (sym no_failure) (settled_push entries room limit terms fixed links gaps parts visits failure sound (Joined j) all_settled tt))

    -- a term of the class that the other is to be put into
    far : (x : ℕ) × (x < terms) × (class_at parts x ≡ j.into)
    far = ⊎_elim (λ e. (j.right, right_in, e.1)) (λ e. (j.left, left_in, e.0)) ends

    -- a test that gives the same in each class and at both terms of the equality gives the same in the two classes
    across : (f : ℕ → Bool) → IsSameInClasses terms parts f → f j.left ≡ f j.right → (t u : ℕ) → t < terms → u < terms → class_at parts t ≡ j.from → class_at parts u ≡ j.into → f t ≡ f u
    across f same linked t u t_in u_in at_t at_u =
        ⊎_elim
        (λ e. same t j.left t_in left_in (at_t ∙ sym e.0) ∙ linked ∙ same j.right u right_in u_in (e.1 ∙ sym at_u))
        (λ e. same t j.right t_in right_in (at_t ∙ sym e.1) ∙ sym linked ∙ same j.left u left_in u_in (e.0 ∙ sym at_u))
        ends

    abbrev longer : List Entry
    longer = entries ++ Failed (Same j.left j.right) ∷ []

    -- the terms of a clash are in the two classes, and must not be together
    clash_facts : (left right : ℕ) (by : Option ℕ) → IsClashBy parts gaps seen.visits j.from j.into left right by
        → (left < terms) × (right < terms) × (class_at parts left ≡ j.from) × (class_at parts right ≡ j.into) × IsForbidden fixed longer left right by
    clash_facts left right None h =
        let ok = good entries room limit terms fixed links gaps parts visits failure sound in
        let l = ok.anchors j.near left near_in (ap (anchor_at parts) near_from ∙ h.0) in
        let r = ok.anchors far.0 right far.1 (ap (anchor_at parts) far.2 ∙ h.1) in
        let at_left = l.1 ∙ near_from in
        let at_right = r.1 ∙ far.2 in
        (sound.fixed_in left l.0, sound.fixed_in right r.0, at_left, at_right, (l.0, r.0, λ e. apart (sym at_left ∙ ap (class_at parts) e ∙ at_right)))
    clash_facts left right (Some k) h =
        let gaps_terms : gaps.terms ≡ terms = ap (λ (g : Graph). g.terms) sound.gaps_are in
        let left_fits : left < terms = omega (arith, h.4) in
        let right_fits : right < terms = omega (arith, h.2) in
        let k_in : k < length entries = omega (arith, h.0, ap (λ (g : Graph). length g.pairs) sound.gaps_are, length-map entries gap_of) in
        let gap : pair_at gaps.pairs k ≡ gap_of (entry_at entries k) = ap (λ (g : Graph). pair_at g.pairs k) sound.gaps_are ∙ gap_at entries k k_in in (
          left_fits,
          right_fits,
          eqb-true (class_at parts left) j.from (sym (members left left_fits) ∙ h.5),
          h.3,
          (
            omega (arith, length_push entries (Failed (Same j.left j.right))),
            subst (λ e. SaysDifferent (literal_of e) left right) (sym (entry_at_front entries (Failed (Same j.left j.right)) k k_in))
                (says_from_gap (entry_at entries k) left right (subst (λ p. Joins p right left) gap h.1)),
          ),
        )

    pub failed_same_sound : (f : Failure) → IsClash parts gaps seen.visits j.from j.into f → (new_links new_gaps : Graph)
        → new_links ≡ record links { pairs = links.pairs ++ Some (j.left, j.right) ∷ [] } → new_gaps ≡ record gaps { pairs = gaps.pairs ++ None ∷ [] }
        → IsSoundEquality longer more limit terms fixed new_links new_gaps parts seen (Some f)
    failed_same_sound f clash new_links new_gaps links_e gaps_e =
        let e : Entry = Failed (Same j.left j.right) in
        let facts = clash_facts f.left f.right f.forbidden_by clash in
        push_sound entries room limit terms fixed links gaps parts visits failure sound e more new_links new_gaps parts seen (Some f) le free links_e gaps_e refl seen_terms (left_in, right_in)
        (separated_same entries room limit terms fixed links gaps parts visits failure sound e tt)
        (record {
          left_in = facts.0;
          right_in = facts.1;
          linked = λ g agrees.
              across g (same_before entries room limit terms fixed links gaps parts visits failure sound e g agrees) (agree_last entries room limit terms fixed links gaps parts visits failure sound e g agrees)
              f.left f.right facts.0 facts.1 facts.2 facts.3;
          forbidden = facts.4;
          settled = settled_before entries room limit terms fixed links gaps parts visits failure sound e all_settled;
        })
