-- A structure that is cut down is one over the signature.
use Rattle.std.proofs.Common.{◌≡◌, ℕ, zero, suc, ◌+◌, ◌<◌, inl, inr, Bool, true, false, refl, sym, ◌∙◌, List, [], ◌∷◌, Some, None, Option, length, cond, ap, subst, arith, slice_get, Contains, map}
use Rattle.std.specs.Prelude.{slice_index_or}
use Rattle.std.specs.List.{filter, All, range_with_len}
use Rattle.std.specs.Option.{option_map, option_or}
use Rattle.std.proofs.lemmas.Bool.{and_parts}
use Rattle.std.proofs.lemmas.List.{length-map}
use Rattle.std.proofs.lemmas.List.FromFn.{length-map-range_with_len}
use Rattle.form_formula.specs.declared.structure.Range.{Range}
use Rattle.form_formula.specs.declared.structure.Range.TheVariants as kinds
use Rattle.form_formula.specs.declared.structure.FunSig.{FunSig}
use Rattle.form_formula.specs.declared.structure.SetSig.{SetSig}
use Rattle.form_formula.specs.declared.structure.Signature.{Signature}
use Rattle.form_formula.specs.declared.structure.SVal.{SVal}
use Rattle.form_formula.specs.declared.structure.SVal.TheVariants.{Rec, Flag, Num, Str}
use Rattle.form_formula.specs.declared.structure.Structure.{Structure}
use Rattle.form_formula.specs.Trees.{Formula}
use Rattle.form_formula.specs.Truth.{elements, entry}
use Rattle.form_terms.specs.GroundTerms.{GroundTerm}
use Rattle.form_terms.specs.Structures.{IsStructure, IsValueOf, IsEntryOf, size_of}
use Rattle.form_terms.specs.Passing.{Choice, IsChoice}
use Rattle.form_terms.specs.Cut.{is_kept, kept, place_of, place_of_option, default_of, moved, moved_value, table_of, pairs_of, cut}
use Rattle.form_terms.proofs.Lists.{Contains-head, Contains-tail, Contains-cons_cases, Contains-none}
use Rattle.form_terms.proofs.Kept.{All-from, All-Contains, enumerated, length-enumerated}
use Rattle.form_terms.proofs.CutFacts.{default_kept, place_within, cut_size, old_of, cut_entry, moved_pair, both_kept}

-- what is in a list of changed elements that pass a test
pub from_filter : {X Y : Type 0} (h : X → Y) (p : X → Bool) (xs : List X) (y : Y) → Contains (map h (filter p xs)) y → (x : X) × Contains xs x × (p x ≡ true) × (h x ≡ y)
from_filter h p [] y there = Contains-none y there
from_filter {X} {Y} h p (x ∷ xs) y there = choose (from_filter h p xs y) (p x) refl there
  where
    choose : (Contains (map h (filter p xs)) y → (z : X) × Contains xs z × (p z ≡ true) × (h z ≡ y)) → (b : Bool) → p x ≡ b
        → Contains (map h (cond b (x ∷ filter p xs) (filter p xs))) y → (z : X) × Contains (x ∷ xs) z × (p z ≡ true) × (h z ≡ y)
    choose later true e there =
        elim (Contains-cons_cases (h x) (map h (filter p xs)) y there) [
          | inl same ↦ (x, Contains-head x xs, e, same)
          | inr rest ↦ let found = later rest in (found.0, Contains-tail x xs found.0 found.1, found.2, found.3)
        ]
    choose later false e there = let found = later there in (found.0, Contains-tail x xs found.0 found.1, found.2, found.3)

first_there : (n : ℕ) → 0 < n → slice_get (range_with_len 0 n) 0 ≡ Some 0
first_there zero some = absurd (omega (arith, some))
first_there (suc n) some = refl

module _ (g : Signature) (f : Formula) (s : Structure) (c : Choice) (terms : List GroundTerm) (over : IsStructure g s) (fits : IsChoice g s f c) where
  abbrev after : Structure
  after = cut g s c terms

  default_there : (sort : ℕ) → 0 < size_of s sort → (d : ℕ) × (default_of g s c terms sort ≡ Some d) × (d < size_of s sort)
  default_there sort some = choose (c.constant sort) refl
    where
      choose : (o : Option ℕ) → c.constant sort ≡ o → (d : ℕ) × (option_or o (slice_get (elements s sort) 0) ≡ Some d) × (d < size_of s sort)
      choose (Some d) e = (d, refl, fits.constants sort d e)
      choose None e = (0, first_there (size_of s sort) some, some)

  moved_within : (sort x : ℕ) → x < size_of s sort → moved g s c terms sort x < size_of after sort
  moved_within sort x within = choose (is_kept g s c terms sort x) refl
    where
      choose : (b : Bool) → is_kept g s c terms sort x ≡ b
          → cond b (place_of g s c terms sort x) (place_of_option g s c terms (default_of g s c terms sort) sort) < size_of after sort
      choose true e = place_within g s c terms over sort x within e
      choose false e =
          let d = default_there sort (omega (arith, within)) in
          let there = place_within g s c terms over sort d.0 d.2 (default_kept g s c terms over sort d.0 d.1) in
          let P : Option ℕ → Type 0 = λ o. place_of_option g s c terms o sort < size_of after sort in
          subst P (sym d.1) there

  value_moved : (to : Range) (v : SVal) → IsValueOf s to v → IsValueOf after to (moved_value g s c terms to v)
  value_moved (kinds.Rec sort) (Rec x) h = moved_within sort x h
  value_moved (kinds.Rec sort) (Flag b) h = absurd h
  value_moved (kinds.Rec sort) (Num n) h = absurd h
  value_moved (kinds.Rec sort) (Str t) h = absurd h
  value_moved kinds.Flag (Rec x) h = absurd h
  value_moved kinds.Flag (Flag b) h = tt
  value_moved kinds.Flag (Num n) h = absurd h
  value_moved kinds.Flag (Str t) h = absurd h
  value_moved kinds.Num (Rec x) h = absurd h
  value_moved kinds.Num (Flag b) h = absurd h
  value_moved kinds.Num (Num n) h = h
  value_moved kinds.Num (Str t) h = absurd h
  value_moved kinds.Str (Rec x) h = absurd h
  value_moved kinds.Str (Flag b) h = absurd h
  value_moved kinds.Str (Num n) h = absurd h
  value_moved kinds.Str (Str t) h = h

  entry_moved : (sig : FunSig) (o : Option SVal) → IsEntryOf s sig o → IsEntryOf after sig (option_map (moved_value g s c terms sig.to) o)
  entry_moved sig None h = h
  entry_moved sig (Some v) h = value_moved sig.to v h

  abbrev AreWithin : SetSig → ℕ × ℕ → Type 0
  AreWithin sig p = (p.0 < size_of after sig.from) × (p.1 < size_of after sig.to)

  pair_within : (r : ℕ) (sig : SetSig) → slice_get g.sets r ≡ Some sig → (p : ℕ × ℕ) → Contains (pairs_of g s c terms (r, sig)) p → AreWithin sig p
  pair_within r sig there p here =
      let found = from_filter (moved_pair g s c terms over sig) (both_kept g s c terms over sig) (slice_index_or s.sets r []) p here in
      let old = All-Contains (λ q. (q.0 < size_of s sig.from) × (q.1 < size_of s sig.to)) (slice_index_or s.sets r []) found.0 (over.pairs r sig there) found.1 in
      let both = and_parts (is_kept g s c terms sig.from found.0.0) (is_kept g s c terms sig.to found.0.1) found.2 in
      let new : AreWithin sig (moved_pair g s c terms over sig found.0) =
      (place_within g s c terms over sig.from found.0.0 old.0 both.0, place_within g s c terms over sig.to found.0.1 old.1 both.1) in
      let P : ℕ × ℕ → Type 0 = λ p. AreWithin sig p in
      subst P found.3 new

  pub cut_structure : IsStructure g after
  cut_structure = record {
    sizes = length-map-range_with_len (λ sort. length (kept g s c terms sort)) 0 g.sorts;
    functions = length-enumerated (table_of g s c terms) 0 g.funs;
    relations = length-enumerated (pairs_of g s c terms) 0 g.sets;
    places = λ h sig there.
        let start : 0 + h ≡ h = omega arith in
        let row : slice_index_or after.funs h [] ≡ table_of g s c terms (h, sig) =
        enumerated (table_of g s c terms) 0 h g.funs sig [] there ∙ ap (λ h. table_of g s c terms (h, sig)) start in
        ap length row ∙ (length-map (kept g s c terms sig.from) (λ x. option_map (moved_value g s c terms sig.to) (entry s h x)) ∙ sym (cut_size g s c terms over sig.from));
    values = λ h sig i there within.
        let old = old_of g s c terms over sig.from i within in
        let P : Option SVal → Type 0 = λ o. IsEntryOf after sig o in
        subst P (sym (cut_entry g s c terms over h sig i old.0 there old.1.0)) (entry_moved sig (entry s h old.0) (over.values h sig old.0 there old.1.1));
    pairs = λ r sig there.
        let start : 0 + r ≡ r = omega arith in
        let row : slice_index_or after.sets r [] ≡ pairs_of g s c terms (r, sig) =
        enumerated (pairs_of g s c terms) 0 r g.sets sig [] there ∙ ap (λ r. pairs_of g s c terms (r, sig)) start in
        let P : List (ℕ × ℕ) → Type 0 = λ ps. All (AreWithin sig) ps in
        subst P (sym row) (All-from (AreWithin sig) (pairs_of g s c terms (r, sig)) (pair_within r sig there));
  }
