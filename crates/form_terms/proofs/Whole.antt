-- A structure whose elements are all kept is its own cut.
use Rattle.std.proofs.Common.{◌≡◌, ℕ, zero, suc, ◌+◌, ◌<◌, inl, inr, Bool, true, refl, sym, ◌∙◌, List, [], ◌∷◌, Some, None, Option, length, ap, subst, arith, slice_get, Contains, map}
use Rattle.std.specs.Prelude.{slice_index_or, unwrap_or, ◌++◌}
use Rattle.std.specs.List.{filter, range_with_len, enumerate_from}
use Rattle.std.specs.Option.{option_map}
use Rattle.std.proofs.lemmas.List.FromFn.{get_or-range_with_len, length-range_with_len, get_or-map-range_with_len, length-map-range_with_len}
use Rattle.std.proofs.lemmas.List.{get_or_default, same_lists}
use Rattle.std.proofs.lemmas.Option.{slice_get-get_or}
use Rattle.form_formula.specs.declared.structure.Range.{Range}
use Rattle.form_formula.specs.declared.structure.Range.TheVariants as kinds
use Rattle.form_formula.specs.declared.structure.FunSig.{FunSig}
use Rattle.form_formula.specs.declared.structure.SetSig.{SetSig}
use Rattle.form_formula.specs.declared.structure.Signature.{Signature}
use Rattle.form_formula.specs.declared.structure.SVal.{SVal}
use Rattle.form_formula.specs.declared.structure.SVal.TheVariants.{Rec, Flag, Num, Str}
use Rattle.form_formula.specs.declared.structure.Structure.{Structure}
use Rattle.form_formula.specs.Truth.{elements, entry}
use Rattle.form_terms.specs.GroundTerms.{GroundTerm}
use Rattle.form_formula.specs.Trees.{Formula, yes, no, equal, less, has, flag, present, negation, both, either, exists, forall}
use Rattle.form_terms.specs.Parts.{Variable, Part, existential, parts, parts_of, name_of}
use Rattle.form_terms.specs.Universe.{variables_of, variables_in}
use Rattle.form_terms.specs.Satisfying.{SatisfiesWith, leading_elements}
use Rattle.form_terms.specs.Structures.{IsStructure, IsValueOf, IsEntryOf, size_of}
use Rattle.form_terms.specs.Passing.{Choice, IsChoice}
use Rattle.form_terms.specs.Cut.{IsNamedThroughout, leading_places, place_of_option, is_kept, kept, place_of, moved_value, table_of, pairs_of, cut}
use Rattle.form_terms.proofs.Lists.{flat_map-Contains, Contains-head, Contains-tail, range-within, cond_true}
use Rattle.form_terms.proofs.Kept.{All-Contains, enumerated, length-enumerated}
use Rattle.form_terms.proofs.CutFacts.{default_kept, named_kept, both_kept, moved_pair, old_at}

filter_all : {A : Type 0} (p : A → Bool) (xs : List A) → ((x : A) → Contains xs x → p x ≡ true) → filter p xs ≡ xs
filter_all p [] all = refl
filter_all p (x ∷ xs) all =
    cond_true (p x) (x ∷ filter p xs) (filter p xs) (all x (Contains-head x xs)) ∙ ap (λ ys. x ∷ ys) (filter_all p xs (λ y c. all y (Contains-tail x xs y c)))

map_all : {A : Type 0} (h : A → A) (xs : List A) → ((x : A) → Contains xs x → h x ≡ x) → map h xs ≡ xs
map_all h [] all = refl
map_all h (x ∷ xs) all =
    let here = all x (Contains-head x xs) in
    let later = map_all h xs (λ y c. all y (Contains-tail x xs y c)) in cc

found_at : {A : Type 0} (xs : List A) (k : ℕ) → k < length xs → (x : A) × (slice_get xs k ≡ Some x)
found_at [] k within = absurd (omega (arith, within))
found_at (x ∷ xs) zero within = (x, refl)
found_at (x ∷ xs) (suc k) within = found_at xs k (omega (arith, within))

module _ (g : Signature) (s : Structure) (c : Choice) (terms : List GroundTerm) (over : IsStructure g s)
    (all : (sort x : ℕ) → x < size_of s sort → is_kept g s c terms sort x ≡ true) where
  kept_whole : (sort : ℕ) → kept g s c terms sort ≡ elements s sort
  kept_whole sort =
      filter_all (is_kept g s c terms sort) (elements s sort) (λ x there. all sort x (omega (arith, (range-within 0 (size_of s sort) x there).1)))

  pub place_same : (sort x : ℕ) → x < size_of s sort → place_of g s c terms sort x ≡ x
  place_same sort x within =
      let less : x < length (elements s sort) = omega (arith, length-range_with_len 0 (size_of s sort), within) in
      let own : slice_index_or (elements s sort) x 0 ≡ x = get_or-range_with_len 0 (size_of s sort) x 0 within ∙ (omega arith) in
      let at : slice_get (elements s sort) x ≡ Some x = slice_get-get_or (elements s sort) x 0 less ∙ ap (λ n. Some n) own in
      let P : List ℕ → Type 0 = λ xs. slice_get xs x ≡ Some x in
      (old_at g s c terms over sort x x (subst P (sym (kept_whole sort)) at)).3

  moved_same : (to : Range) (v : SVal) → IsValueOf s to v → moved_value g s c terms to v ≡ v
  moved_same (kinds.Rec sort) (Rec x) h =
      ap (λ n. Rec n) (cond_true (is_kept g s c terms sort x) _ _ (all sort x h) ∙ place_same sort x h)
  moved_same (kinds.Rec sort) (Flag b) h = refl
  moved_same (kinds.Rec sort) (Num n) h = refl
  moved_same (kinds.Rec sort) (Str t) h = refl
  moved_same kinds.Flag v h = refl
  moved_same kinds.Num v h = refl
  moved_same kinds.Str v h = refl

  entry_same : (sig : FunSig) (o : Option SVal) → IsEntryOf s sig o → option_map (moved_value g s c terms sig.to) o ≡ o
  entry_same sig None h = refl
  entry_same sig (Some v) h = ap (λ v. Some v) (moved_same sig.to v h)

  table_same : (h : ℕ) (sig : FunSig) → slice_get g.funs h ≡ Some sig → table_of g s c terms (h, sig) ≡ slice_index_or s.funs h []
  table_same h sig there =
      let row : List (Option SVal) = slice_index_or s.funs h [] in
      let size : ℕ = size_of s sig.from in
      let F : ℕ → Option SVal = λ x. option_map (moved_value g s c terms sig.to) (entry s h x) in
      let whole : table_of g s c terms (h, sig) ≡ map F (range_with_len 0 size) = ap (map F) (kept_whole sig.from) in
      let long : length (map F (range_with_len 0 size)) ≡ size = length-map-range_with_len F 0 size in
      whole ∙ same_lists (map F (range_with_len 0 size)) row (long ∙ sym (over.places h sig there)) (λ k d within.
      let less : k < size = omega (arith, within, long) in
      let there' : k < length row = omega (arith, less, over.places h sig there) in
      get_or-map-range_with_len F 0 size k k d less (omega arith)
      ∙ (entry_same sig (entry s h k) (over.values h sig k there less) ∙ get_or_default row k None d there'))

  pairs_same : (r : ℕ) (sig : SetSig) → slice_get g.sets r ≡ Some sig → pairs_of g s c terms (r, sig) ≡ slice_index_or s.sets r []
  pairs_same r sig there =
      let pairs : List (ℕ × ℕ) = slice_index_or s.sets r [] in
      let inside : (p : ℕ × ℕ) → Contains pairs p → (p.0 < size_of s sig.from) × (p.1 < size_of s sig.to) = λ p here.
      All-Contains (λ q. (q.0 < size_of s sig.from) × (q.1 < size_of s sig.to)) pairs p (over.pairs r sig there) here in
      let every : filter (both_kept g s c terms over sig) pairs ≡ pairs =
      filter_all (both_kept g s c terms over sig) pairs (λ p here.
      let a = all sig.from p.0 (inside p here).0 in
      let b = all sig.to p.1 (inside p here).1 in cc) in
      ap (map (moved_pair g s c terms over sig)) every
      ∙ map_all (moved_pair g s c terms over sig) pairs (λ p here.
      let a = place_same sig.from p.0 (inside p here).0 in
      let b = place_same sig.to p.1 (inside p here).1 in
      λ i. (a i, b i))

  sizes_same : map (λ sort. length (kept g s c terms sort)) (range_with_len 0 g.sorts) ≡ s.sizes
  sizes_same =
      let F : ℕ → ℕ = λ sort. length (kept g s c terms sort) in
      let long : length (map F (range_with_len 0 g.sorts)) ≡ g.sorts = length-map-range_with_len F 0 g.sorts in
      same_lists (map F (range_with_len 0 g.sorts)) s.sizes (long ∙ sym over.sizes) (λ k d within.
      let less : k < g.sorts = omega (arith, within, long) in
      let there : k < length s.sizes = omega (arith, less, over.sizes) in
      get_or-map-range_with_len F 0 g.sorts k k d less (omega arith)
      ∙ (ap length (kept_whole k) ∙ (length-range_with_len 0 (size_of s k) ∙ get_or_default s.sizes k 0 d there)))

  funs_same : map (table_of g s c terms) (enumerate_from 0 g.funs) ≡ s.funs
  funs_same =
      let long : length (map (table_of g s c terms) (enumerate_from 0 g.funs)) ≡ length g.funs = length-enumerated (table_of g s c terms) 0 g.funs in
      same_lists (map (table_of g s c terms) (enumerate_from 0 g.funs)) s.funs (long ∙ sym over.functions) (λ h d within.
      let less : h < length g.funs = omega (arith, within, long) in
      let there : h < length s.funs = omega (arith, less, over.functions) in
      let sig = found_at g.funs h less in
      let start : 0 + h ≡ h = omega arith in
      enumerated (table_of g s c terms) 0 h g.funs sig.0 d sig.1
      ∙ (ap (λ h. table_of g s c terms (h, sig.0)) start ∙ (table_same h sig.0 sig.1 ∙ get_or_default s.funs h [] d there)))

  sets_same : map (pairs_of g s c terms) (enumerate_from 0 g.sets) ≡ s.sets
  sets_same =
      let long : length (map (pairs_of g s c terms) (enumerate_from 0 g.sets)) ≡ length g.sets = length-enumerated (pairs_of g s c terms) 0 g.sets in
      same_lists (map (pairs_of g s c terms) (enumerate_from 0 g.sets)) s.sets (long ∙ sym over.relations) (λ r d within.
      let less : r < length g.sets = omega (arith, within, long) in
      let there : r < length s.sets = omega (arith, less, over.relations) in
      let sig = found_at g.sets r less in
      let start : 0 + r ≡ r = omega arith in
      enumerated (pairs_of g s c terms) 0 r g.sets sig.0 d sig.1
      ∙ (ap (λ r. pairs_of g s c terms (r, sig.0)) start ∙ (pairs_same r sig.0 sig.1 ∙ get_or_default s.sets r [] d there)))

  pub cut_whole : cut g s c terms ≡ s
  cut_whole = λ i. record { sizes = sizes_same i; funs = funs_same i; sets = sets_same i }

module _ (g : Signature) (f : Formula) (s : Structure) (c : Choice) (terms : List GroundTerm) (over : IsStructure g s) (fits : IsChoice g s f c)
    (named : IsNamedThroughout g s c terms) where
  all_kept : (sort x : ℕ) → x < size_of s sort → is_kept g s c terms sort x ≡ true
  all_kept sort x within =
      elim (named sort x within) [
        | inl own ↦ named_kept g s c terms over sort x own
        | inr own ↦ default_kept g s c terms over sort x own
      ]

  -- an element that is chosen stays where it is
  same_pick : (sort : ℕ) (o : Option ℕ) → ((x : ℕ) → o ≡ Some x → x < size_of s sort) → place_of_option g s c terms o sort ≡ unwrap_or o 0
  same_pick sort None within = refl
  same_pick sort (Some x) within = place_same g s c terms over all_kept sort x (within x refl)

  same_picks : (a : Formula) (number : ℕ) (names : List (Option GroundTerm)) → ((p : Part) → Contains (parts number names [] a) p → Contains (parts_of f) p)
      → leading_places g s c terms number a ≡ leading_elements c number a
  same_picks yes number names inside = refl
  same_picks no number names inside = refl
  same_picks (equal t u) number names inside = refl
  same_picks (less t u) number names inside = refl
  same_picks (has r t u) number names inside = refl
  same_picks (flag k t) number names inside = refl
  same_picks (present k t) number names inside = refl
  same_picks (negation a) number names inside = refl
  same_picks (both a b) number names inside = refl
  same_picks (either a b) number names inside = refl
  same_picks (exists sort a) number names inside =
      let v : Variable = record { number = number; sort = sort; above = [] } in
      let rest : List Part = parts (number + 1) (names ++ name_of number sort [] ∷ []) [] a in
      let own : Contains (variables_of g f) v =
      flat_map-Contains variables_in (parts_of f) (existential v) v (inside (existential v) (Contains-head (existential v) rest)) (Contains-head v []) in
      let here = same_pick sort (c.variable number []) (λ x e. fits.variables v [] x own e) in
      let later = same_picks a (number + 1) (names ++ name_of number sort [] ∷ []) (λ p there. inside p (Contains-tail (existential v) rest p there)) in
      cc
  same_picks (forall sort a) number names inside = refl

  pub whole_satisfies : SatisfiesWith g f (cut g s c terms) (leading_places g s c terms 0 f) → SatisfiesWith g f s (leading_elements c 0 f)
  whole_satisfies h =
      let P : Structure → Type 0 = λ after. SatisfiesWith g f after (leading_places g s c terms 0 f) in
      let Q : List ℕ → Type 0 = λ picks. SatisfiesWith g f s picks in
      subst Q (same_picks f 0 [] (λ p there. there)) (subst P (cut_whole g s c terms over all_kept) h)
