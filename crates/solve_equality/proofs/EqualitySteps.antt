-- What an assertion, a failure and an undo make of what is kept beside the entries of an `Equality`.
use Rattle.std.proofs.Common.{◌≡◌, ℕ, ◌+◌, ◌<◌, ◌≤◌, ◌^◌, Bool, List, [], ◌∷◌, ◌++◌, length, map, Option, None, sym, ap, ◌∙◌, subst, refl, arith}
use Rattle.std.proofs.Math.Logic.{⊎_elim}
use Rattle.std.specs.List.{All}
use Rattle.std.proofs.lemmas.Bool.{cases_eq}
use Rattle.std.proofs.lemmas.List.{length-map, map_push, length_push, get_or_append_left, get_or_push}
use Rattle.solve_equality.specs.declared.entry.Entry.{Entry}
use Rattle.solve_equality.specs.declared.entry.Entry.TheVariants.{Known}
use Rattle.solve_equality.specs.declared.entry.Failure.{Failure}
use Rattle.solve_equality.specs.Visits.{Visited}
use Rattle.solve_equality.specs.Edges.{Graph, pair_at}
use Rattle.solve_equality.specs.Partition.{Parts, start}
use Rattle.solve_equality.specs.Search.{Agree}
use Rattle.solve_equality.specs.EntryEnds.{link_of, gap_of}
use Rattle.solve_equality.specs.Entries.{step, IsLawful, IsSettled, IsSeparated, IsStanding, IsSoundEquality, entry_at}
use Rattle.solve_equality.proofs.Classes.{after-push, AreLawful-push, IsSameInClasses}
use Rattle.solve_equality.proofs.Members.{link_at, same_in_classes}
use Rattle.solve_equality.proofs.ClassModels.{place_of_fixed}

-- nothing asserted
pub new_sound : (entries : List Entry) (room limit terms : ℕ) (fixed : List ℕ) → entries ≡ [] → limit ≤ room → limit < 2 ^ 32 → All (λ f. f < terms) fixed
    → IsSoundEquality entries room limit terms fixed (record { pairs = []; terms = terms; capacity = limit }) (record { pairs = []; terms = terms; capacity = limit }) (start terms fixed) (record { visits = []; terms = terms }) None
new_sound entries room limit terms fixed empty fits small within = rw empty (record {
  small = small;
  has_room = fits;
  fits = omega arith;
  fixed_in = λ f e. let place = place_of_fixed fixed f e in subst (λ g. g < terms) place.2 (within place.0 0 place.1);
  links_are = refl;
  gaps_are = refl;
  visits_are = refl;
  parts_are = refl;
  lawful = tt;
  separated = λ k l. absurd (omega arith);
  standing = λ k l. absurd (omega arith);
})

-- what holds of each entry and of one more
pub at_push : (P : Entry → Type 0) (entries : List Entry) (e : Entry) → ((k : ℕ) → k < length entries → P (entry_at entries k)) → P e → (k : ℕ) → k < length (entries ++ e ∷ []) → P (entry_at (entries ++ e ∷ []) k)
at_push P entries e h last k l =
    ⊎_elim
    (λ same. subst P (sym (ap (entry_at (entries ++ e ∷ [])) same ∙ get_or_push entries e (Known 0 0) (length entries) refl)) last)
    (λ other.
    let k_in : k < length entries = omega (arith, length_push entries e) in
    subst P (sym (get_or_append_left entries (e ∷ []) (Known 0 0) k k_in)) (h k k_in))
    (cases_eq k (length entries))

pub entry_at_last : (entries : List Entry) (e : Entry) → entry_at (entries ++ e ∷ []) (length entries) ≡ e
entry_at_last entries e = get_or_push entries e (Known 0 0) (length entries) refl

pub entry_at_front : (entries : List Entry) (e : Entry) (k : ℕ) → k < length entries → entry_at (entries ++ e ∷ []) k ≡ entry_at entries k
entry_at_front entries e k l = get_or_append_left entries (e ∷ []) (Known 0 0) k l

module _ (entries : List Entry) (room limit terms : ℕ) (fixed : List ℕ) (links gaps : Graph) (parts : Parts) (visits : Visited) (failure : Option Failure) (sound : IsSoundEquality entries room limit terms fixed links gaps parts visits failure) (e : Entry) where
  -- one more entry, with the edges and the classes that it makes
  pub push_sound : (more : ℕ) (new_links new_gaps : Graph) (new_parts : Parts) (new_visits : Visited) (new_failure : Option Failure) → room ≤ more → length entries < limit
      → new_links ≡ record links { pairs = links.pairs ++ link_of e ∷ [] } → new_gaps ≡ record gaps { pairs = gaps.pairs ++ gap_of e ∷ [] }
      → new_parts ≡ step parts e → new_visits.terms ≡ terms → IsLawful terms parts e
      → ((k : ℕ) → k < length (entries ++ e ∷ []) → IsSeparated new_parts (entry_at (entries ++ e ∷ []) k))
      → IsStanding terms fixed (entries ++ e ∷ []) new_failure
      → IsSoundEquality (entries ++ e ∷ []) more limit terms fixed new_links new_gaps new_parts new_visits new_failure
  push_sound more new_links new_gaps new_parts new_visits new_failure le free links_e gaps_e parts_e visits_e lawful separated standing = record {
    small = sound.small;
    has_room = omega (arith, sound.has_room);
    fits = omega (arith, length_push entries e);
    fixed_in = sound.fixed_in;
    links_are = links_e ∙ ap (λ (g : Graph). record g { pairs = g.pairs ++ link_of e ∷ [] }) sound.links_are ∙ ap (λ (ps : List (Option (ℕ × ℕ))). record { pairs = ps; terms = terms; capacity = limit }) (sym (map_push link_of entries e));
    gaps_are = gaps_e ∙ ap (λ (g : Graph). record g { pairs = g.pairs ++ gap_of e ∷ [] }) sound.gaps_are ∙ ap (λ (ps : List (Option (ℕ × ℕ))). record { pairs = ps; terms = terms; capacity = limit }) (sym (map_push gap_of entries e));
    visits_are = visits_e;
    parts_are = parts_e ∙ ap (λ s. step s e) sound.parts_are ∙ sym (after-push (start terms fixed) entries e);
    lawful = AreLawful-push terms (start terms fixed) entries e sound.lawful (subst (λ s. IsLawful terms s e) sound.parts_are lawful);
    separated = separated;
    standing = standing;
  }

  -- an entry that joins nothing
  pub separated_same : IsSeparated parts e → (k : ℕ) → k < length (entries ++ e ∷ []) → IsSeparated parts (entry_at (entries ++ e ∷ []) k)
  separated_same last = at_push (IsSeparated parts) entries e sound.separated last

  pub settled_push : ((k : ℕ) → k < length entries → IsSettled (entry_at entries k)) → IsSettled e → (k : ℕ) → k < length (entries ++ e ∷ []) → IsSettled (entry_at (entries ++ e ∷ []) k)
  settled_push all last = at_push IsSettled entries e all last

  -- a test that gives the same at both ends of each link gives the same at all terms of a class
  pub same_before : (f : ℕ → Bool) → ((k : ℕ) → k < length (map link_of (entries ++ e ∷ [])) → Agree f (pair_at (map link_of (entries ++ e ∷ [])) k)) → IsSameInClasses terms parts f
  same_before f agrees =
      subst (λ s. IsSameInClasses terms s f) (sym sound.parts_are)
      (same_in_classes terms fixed sound.fixed_in entries sound.lawful f
      (λ k l.
      let longer = length-map (entries ++ e ∷ []) link_of in
      let one_more = length_push entries e in
      subst (Agree f) (link_at (entries ++ e ∷ []) k (omega arith) ∙ ap link_of (entry_at_front entries e k l) ∙ sym (link_at entries k l)) (agrees k (omega arith))))

  -- and at both ends of the last link
  pub agree_last : (f : ℕ → Bool) → ((k : ℕ) → k < length (map link_of (entries ++ e ∷ [])) → Agree f (pair_at (map link_of (entries ++ e ∷ [])) k)) → Agree f (link_of e)
  agree_last f agrees =
      let longer = length-map (entries ++ e ∷ []) link_of in
      let one_more = length_push entries e in
      subst (Agree f) (link_at (entries ++ e ∷ []) (length entries) (omega arith) ∙ ap link_of (entry_at_last entries e)) (agrees (length entries) (omega arith))

  -- all entries but the last are settled
  pub settled_before : ((k : ℕ) → k < length entries → IsSettled (entry_at entries k)) → (k : ℕ) → k + 1 < length (entries ++ e ∷ []) → IsSettled (entry_at (entries ++ e ∷ []) k)
  settled_before all k l =
      let k_in : k < length entries = omega (arith, length_push entries e) in
      subst IsSettled (sym (entry_at_front entries e k k_in)) (all k k_in)
