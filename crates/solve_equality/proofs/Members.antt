-- Which terms a search along the equalities that joined classes comes to.
use Rattle.std.proofs.Common.{◌≡◌, ℕ, ◌<◌, Bool, true, eqb, List, length, map, None, sym, ap, ◌∙◌, subst, arith}
use Rattle.std.proofs.lemmas.Bool.{eqb-true, eq-eqb}
use Rattle.std.proofs.lemmas.List.{get_or-map, length-map}
use Rattle.solve_equality.specs.declared.visits.Visit.{Visit}
use Rattle.solve_equality.specs.declared.entry.Entry.{Entry}
use Rattle.solve_equality.specs.declared.entry.Entry.TheVariants.{Joined, Known, Apart, Failed}
use Rattle.solve_equality.specs.Visits.{has_visited, visit_at}
use Rattle.solve_equality.specs.Edges.{pair_at}
use Rattle.solve_equality.specs.Partition.{Parts, class_at, is_fixed, start}
use Rattle.solve_equality.specs.Search.{IsTree, IsClosed, Agree}
use Rattle.solve_equality.specs.EntryEnds.{link_of}
use Rattle.solve_equality.specs.Entries.{after, AreLawful, IsSettled, entry_at}
use Rattle.solve_equality.proofs.SearchLemmas.{same_when, place_of_visited, visited_at}
use Rattle.solve_equality.proofs.PathLemmas.{tree_same}
use Rattle.solve_equality.proofs.Classes.{IsGood-start, IsSameInClasses, same_after, same_start, put_at, ArePut}

-- the edge of an entry's number
pub link_at : (entries : List Entry) (k : ℕ) → k < length entries → pair_at (map link_of entries) k ≡ link_of (entry_at entries k)
link_at entries k l = get_or-map link_of entries k (Known 0 0) None l

-- a settled equality that joined classes has both terms in one class
class_of_link : (s : Parts) (c : ℕ) (e : Entry) → IsSettled e → ArePut s e → Agree (λ t. eqb (class_at s t) c) (link_of e)
class_of_link s c (Joined j) settled put = ap (λ n. eqb n c) put
class_of_link s c (Known l r) settled put = tt
class_of_link s c (Apart l r) settled put = tt
class_of_link s c (Failed x) settled put = absurd settled

module _ (terms : ℕ) (fixed : List ℕ) (fixed_in : (f : ℕ) → is_fixed fixed f ≡ true → f < terms) (entries : List Entry) (lawful : AreLawful terms (start terms fixed) entries) where
  -- a test that gives the same at both ends of each link gives the same at all terms of a class
  pub same_in_classes : (f : ℕ → Bool) → ((k : ℕ) → k < length entries → Agree f (pair_at (map link_of entries) k)) → IsSameInClasses terms (after (start terms fixed) entries) f
  same_in_classes f agrees =
      same_after terms (start terms fixed) f entries (IsGood-start terms fixed fixed_in).classes_len (same_start terms fixed fixed_in f) lawful agrees

  -- a search from a term of a class comes to its members and no others
  pub members : ((k : ℕ) → k < length entries → IsSettled (entry_at entries k)) → (visits : List Visit) (near from : ℕ) → near < terms → class_at (after (start terms fixed) entries) near ≡ from
      → 0 < length visits → (visit_at visits 0).term ≡ near → IsTree (map link_of entries) visits → IsClosed (map link_of entries) visits
      → (t : ℕ) → t < terms → has_visited visits t ≡ eqb (class_at (after (start terms fixed) entries) t) from
  members settled visits near from near_in at_near begins starts tree closed t t_in =
      let s : Parts = after (start terms fixed) entries in
      let n = length-map entries link_of in
      let agrees : (k : ℕ) → k < length (map link_of entries) → Agree (λ u. eqb (class_at s u) from) (pair_at (map link_of entries) k) = λ k l.
      let k_in : k < length entries = omega arith in
      subst (Agree (λ u. eqb (class_at s u) from)) (sym (link_at entries k k_in))
      (class_of_link s from (entry_at entries k) (settled k k_in) (put_at terms (start terms fixed) entries k (Known 0 0) (IsGood-start terms fixed fixed_in).classes_len lawful k_in)) in
      let at_start : has_visited visits near ≡ true = ap (has_visited visits) (sym starts) ∙ visited_at visits 0 begins in
      same_when (has_visited visits t) (eqb (class_at s t) from)
      (λ seen.
      let place = place_of_visited visits t seen in
      ap (λ u. eqb (class_at s u) from) (sym place.2)
      ∙ tree_same (map link_of entries) visits (λ u. eqb (class_at s u) from) tree agrees place.0 place.1
      ∙ ap (λ u. eqb (class_at s u) from) starts ∙ eq-eqb (class_at s near) from at_near)
      (λ is_from.
      same_in_classes (has_visited visits) (λ k l. closed k (omega arith)) t near t_in near_in (eqb-true (class_at s t) from is_from ∙ sym at_near) ∙ at_start)
