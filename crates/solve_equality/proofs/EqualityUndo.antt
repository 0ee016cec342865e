-- What taking the last literal back leaves.
use Rattle.std.proofs.Common.{◌≡◌, ℕ, ◌-◌, ◌<◌, ◌≤◌, eqb, cond, List, [], ◌∷◌, ◌++◌, length, set, take, map, Option, Some, None, sym, ap, ◌∙◌, subst, refl, arith}
use Rattle.std.proofs.Math.Logic.{⊎_elim}
use Rattle.std.specs.Option.{option_or}
use Rattle.std.proofs.lemmas.Bool.{cases_eq, eq-eqb, ne_eqb}
use Rattle.std.proofs.lemmas.Option.{none-some, same_Some}
use Rattle.std.proofs.lemmas.List.{length-map, map_push, length_push, same_lists, get_or_default, set-set, set-get_or, take_at}
use Rattle.solve_equality.specs.declared.visits.Visit.{Visit}
use Rattle.solve_equality.specs.declared.entry.Join.{Join}
use Rattle.solve_equality.specs.declared.entry.Entry.{Entry}
use Rattle.solve_equality.specs.declared.entry.Entry.TheVariants.{Joined, Known, Apart, Failed}
use Rattle.solve_equality.specs.declared.entry.Failure.{Failure}
use Rattle.solve_equality.specs.Visits.{Visited, has_visited, visit_at}
use Rattle.solve_equality.specs.Edges.{Graph}
use Rattle.solve_equality.specs.Partition.{Parts, class_at, anchor_at, joined, relabel, start, IsRelabelled}
use Rattle.solve_equality.specs.Search.{IsTree, IsClosed}
use Rattle.solve_equality.specs.EntryEnds.{literal_of, link_of, gap_of, join_of}
use Rattle.solve_equality.specs.Entries.{after, step, AreWithin, IsJoin, IsLawful, IsSettled, IsSeparated, IsStanding, IsSoundEquality, entry_at}
use Rattle.solve_equality.proofs.Classes.{IsGood, IsGood-start, IsGood-after, after-push, AreLawful-pop, class_at-joined, relabel_other, coarse_step}
use Rattle.solve_equality.proofs.Members.{members}
use Rattle.solve_equality.proofs.EqualityState.{good, within_at}
use Rattle.solve_equality.proofs.EqualitySteps.{entry_at_front}

step_no_join : (s : Parts) (e : Entry) → join_of e ≡ None → step s e ≡ s
step_no_join s (Joined j) h = absurd (none-some j (sym h))
step_no_join s (Known l r) h = refl
step_no_join s (Apart l r) h = refl
step_no_join s (Failed x) h = refl

step_join : (s : Parts) (e : Entry) (j : Join) → join_of e ≡ Some j → step s e ≡ joined s j.from j.into
step_join s (Joined i) j h = ap (λ (x : Join). joined s x.from x.into) (same_Some i j h)
step_join s (Known l r) j h = absurd (none-some j h)
step_join s (Apart l r) j h = absurd (none-some j h)
step_join s (Failed x) j h = absurd (none-some j h)

lawful_join : (terms : ℕ) (s : Parts) (e : Entry) (j : Join) → join_of e ≡ Some j → IsLawful terms s e → IsJoin terms s j
lawful_join terms s (Joined i) j h lawful = subst (IsJoin terms s) (same_Some i j h) lawful
lawful_join terms s (Known l r) j h lawful = absurd (none-some j h)
lawful_join terms s (Apart l r) j h lawful = absurd (none-some j h)
lawful_join terms s (Failed x) j h lawful = absurd (none-some j h)

separated_back : (terms : ℕ) (s : Parts) (e x : Entry) → length s.classes ≡ terms → AreWithin terms (literal_of x) → IsSeparated (step s e) x → IsSeparated s x
separated_back terms s e (Joined j) n within h = tt
separated_back terms s e (Known l r) n within h = tt
separated_back terms s e (Failed y) n within h = tt
separated_back terms s e (Apart l r) n within h = λ same. h (coarse_step s e l r (omega (arith, within.0)) (omega (arith, within.1)) same)

settled_front : (terms : ℕ) (fixed : List ℕ) (entries : List Entry) (e : Entry) (failure : Option Failure) → IsStanding terms fixed (entries ++ e ∷ []) failure → (k : ℕ) → k < length entries → IsSettled (entry_at entries k)
settled_front terms fixed entries e None h k l = subst IsSettled (entry_at_front entries e k l) (h k (omega (arith, length_push entries e)))
settled_front terms fixed entries e (Some f) h k l = subst IsSettled (entry_at_front entries e k l) (h.settled k (omega (arith, length_push entries e)))

-- the classes before a join, from those after it
unjoined : (s : Parts) (from into : ℕ) (anchor : Option ℕ) (visits : List Visit) (new : Parts) → anchor ≡ anchor_at s into
    → ((t : ℕ) → t < length s.classes → has_visited visits t ≡ eqb (class_at s t) from)
    → IsRelabelled (joined s from into).classes visits from new.classes → new.anchors ≡ set (joined s from into).anchors into anchor → new ≡ s
unjoined s from into anchor visits new kept members relabelled anchors =
    let n = length-map s.classes (relabel from into) in
    let classes : new.classes ≡ s.classes =
    same_lists new.classes s.classes (relabelled.terms ∙ n)
    (λ k d l.
    let k_in : k < length s.classes = omega (arith, relabelled.terms) in
    get_or_default new.classes k d 0 l ∙ relabelled.at_term k (omega arith)
    ∙ ap (λ b. cond b from (class_at (joined s from into) k)) (members k k_in)
    ∙ ⊎_elim
    (λ is_from. ap (λ b. cond b from (class_at (joined s from into) k)) (eq-eqb (class_at s k) from is_from) ∙ sym is_from)
    (λ other.
    ap (λ b. cond b from (class_at (joined s from into) k)) (ne_eqb (class_at s k) from other)
    ∙ class_at-joined s from into k k_in ∙ relabel_other from into (class_at s k) other)
    (cases_eq (class_at s k) from)
    ∙ get_or_default s.classes k 0 d k_in) in
    let old : new.anchors ≡ s.anchors =
    anchors ∙ set-set s.anchors into (option_or (anchor_at s into) (anchor_at s from)) anchor ∙ ap (λ o. set s.anchors into o) kept ∙ set-get_or s.anchors into None in
    λ i. record { classes = classes i; anchors = old i }

module _ (entries : List Entry) (e : Entry) (room limit terms : ℕ) (fixed : List ℕ) (links gaps : Graph) (parts : Parts) (visits : Visited) (failure : Option Failure) (sound : IsSoundEquality (entries ++ e ∷ []) room limit terms fixed links gaps parts visits failure) where
  abbrev before : Parts
  before = after (start terms fixed) entries

  parts_step : parts ≡ step before e
  parts_step = sound.parts_are ∙ after-push (start terms fixed) entries e

  lawful_before : IsLawful terms before e
  lawful_before = (AreLawful-pop terms (start terms fixed) entries e sound.lawful).1

  good_before : IsGood terms fixed before
  good_before = IsGood-after terms fixed sound.fixed_in (start terms fixed) entries (IsGood-start terms fixed sound.fixed_in) (AreLawful-pop terms (start terms fixed) entries e sound.lawful).0

  settled : (k : ℕ) → k < length entries → IsSettled (entry_at entries k)
  settled = settled_front terms fixed entries e failure sound.standing

  shorter : {X : Type 0} (f : Entry → X) → take (length (map f (entries ++ e ∷ [])) - 1) (map f (entries ++ e ∷ [])) ≡ map f entries
  shorter f =
      let longer = map_push f entries e in
      ap (λ l. take (length l - 1) l) longer
      ∙ take_at (map f entries) (f e ∷ []) (length (map f entries ++ f e ∷ []) - 1) (omega (arith, length_push (map f entries) (f e)))

  pub pop_sound : (more : ℕ) (new_links new_gaps : Graph) (new_parts : Parts) (new_visits : Visited) → room ≤ more
      → new_links ≡ record links { pairs = take (length links.pairs - 1) links.pairs } → new_gaps ≡ record gaps { pairs = take (length gaps.pairs - 1) gaps.pairs }
      → new_parts ≡ before → new_visits.terms ≡ terms
      → IsSoundEquality entries more limit terms fixed new_links new_gaps new_parts new_visits None
  pop_sound more new_links new_gaps new_parts new_visits le links_e gaps_e parts_e visits_e = record {
    small = sound.small;
    has_room = omega (arith, sound.has_room);
    fits = omega (arith, sound.fits, length_push entries e);
    fixed_in = sound.fixed_in;
    links_are = links_e ∙ ap (λ (g : Graph). record g { pairs = take (length g.pairs - 1) g.pairs }) sound.links_are ∙ ap (λ (ps : List (Option (ℕ × ℕ))). record { pairs = ps; terms = terms; capacity = limit }) (shorter link_of);
    gaps_are = gaps_e ∙ ap (λ (g : Graph). record g { pairs = take (length g.pairs - 1) g.pairs }) sound.gaps_are ∙ ap (λ (ps : List (Option (ℕ × ℕ))). record { pairs = ps; terms = terms; capacity = limit }) (shorter gap_of);
    visits_are = visits_e;
    parts_are = parts_e;
    lawful = (AreLawful-pop terms (start terms fixed) entries e sound.lawful).0;
    separated = λ k l.
        let k_in : k < length (entries ++ e ∷ []) = omega (arith, length_push entries e) in
        subst (λ (s : Parts). IsSeparated s (entry_at entries k)) (sym parts_e)
        (separated_back terms before e (entry_at entries k) good_before.classes_len (within_at terms (start terms fixed) entries k (Known 0 0) (AreLawful-pop terms (start terms fixed) entries e sound.lawful).0 l)
        (subst (λ (s : Parts). IsSeparated s (entry_at entries k)) parts_step (subst (IsSeparated parts) (entry_at_front entries e k l) (sound.separated k k_in))));
    standing = settled;
  }

  -- the links that are left are those of the entries
  pub popped_pairs : (new_links : Graph) → new_links ≡ record links { pairs = take (length links.pairs - 1) links.pairs } → new_links.pairs ≡ map link_of entries
  popped_pairs new_links links_e =
      ap (λ (g : Graph). g.pairs) links_e ∙ ap (λ (g : Graph). take (length g.pairs - 1) g.pairs) sound.links_are ∙ shorter link_of

  pub parts_no_join : join_of e ≡ None → parts ≡ before
  parts_no_join h = parts_step ∙ step_no_join before e h

  module _ (j : Join) (is_join : join_of e ≡ Some j) where
    pub join_before : IsJoin terms before j
    join_before = lawful_join terms before e j is_join lawful_before

    -- the term and the classes of the join are in range
    pub join_fits : (j.near < terms) × (j.from < length parts.anchors) × (j.into < length parts.anchors) × (length parts.classes ≡ terms)
    join_fits =
        let now = good (entries ++ e ∷ []) room limit terms fixed links gaps parts visits failure sound in
        let from_in : j.from < terms = subst (λ t. t < terms) join_before.near_from (good_before.in_range j.near join_before.near_in) in
        let into_in : j.into < terms =
        ⊎_elim
        (λ ends. subst (λ t. t < terms) ends.1 (good_before.in_range j.right join_before.right_in))
        (λ ends. subst (λ t. t < terms) ends.0 (good_before.in_range j.left join_before.left_in))
        join_before.ends in
        (join_before.near_in, omega (arith, from_in, now.anchors_len), omega (arith, into_in, now.anchors_len), now.classes_len)

    pub parts_join : (found : List Visit) (new : Parts) → 0 < length found → (visit_at found 0).term ≡ j.near → IsTree (map link_of entries) found → IsClosed (map link_of entries) found
        → IsRelabelled parts.classes found j.from new.classes → new.anchors ≡ set parts.anchors j.into j.anchor → new ≡ before
    parts_join found new begins starts tree closed relabelled anchors =
        let same : parts ≡ joined before j.from j.into = parts_step ∙ step_join before e j is_join in
        unjoined before j.from j.into j.anchor found new join_before.kept
        (λ t t_in. members terms fixed sound.fixed_in entries (AreLawful-pop terms (start terms fixed) entries e sound.lawful).0 settled found j.near j.from join_before.near_in join_before.near_from begins starts tree closed t (omega (arith, good_before.classes_len)))
        (subst (λ (s : Parts). IsRelabelled s.classes found j.from new.classes) same relabelled)
        (anchors ∙ ap (λ (s : Parts). set s.anchors j.into j.anchor) same)
