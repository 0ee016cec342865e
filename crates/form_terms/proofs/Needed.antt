-- The needed sorts are the least that hold those of the formula and whatever total functions lead to.
use Rattle.std.proofs.Common.{◌≡◌, ℕ, zero, suc, ◌<◌, inl, inr, Bool, true, false, not, ◌&&◌, ◌||◌, refl, sym, ◌∙◌, List, [], ◌∷◌, Some, length, ap, subst, arith, Contains}
use Rattle.std.specs.Prelude.{◌==◌, slice_get}
use Rattle.std.specs.List.{list_any}
use Rattle.std.proofs.lemmas.Bool.{and_parts, eqb-true}
use Rattle.std.proofs.lemmas.Option.{slice_get_within, get_or_from_slice_get}
use Rattle.form_formula.specs.declared.structure.FunSig.{FunSig}
use Rattle.form_formula.specs.declared.structure.Range.{Range}
use Rattle.form_formula.specs.declared.structure.Range.TheVariants as kinds
use Rattle.form_formula.specs.declared.structure.Signature.{Signature}
use Rattle.form_formula.specs.Trees.{Formula}
use Rattle.form_formula.specs.Over.{IsOver}
use Rattle.form_terms.specs.GroundTerms.{record_sort, is_number}
use Rattle.form_terms.specs.Universe.{sorts_of, is_needed, is_needed_after, leads_to, HasNeeded}
use Rattle.form_terms.specs.Listing.{HasNoRepeats}
use Rattle.form_terms.proofs.Lists.{Contains-cons_cases, Contains-none, either_true}
use Rattle.form_terms.proofs.Kept.{list_any-some, list_any-from, or_right}
use Rattle.form_terms.proofs.CutFacts.{is_the_number, number_is}
use Rattle.form_terms.proofs.CutTruth.{needed_after}
use Rattle.form_terms.proofs.Recorded.{needed_below}
use Rattle.form_terms.proofs.Repeats.{short}

module _ (g : Signature) (f : Formula) where
  abbrev Step : ℕ → ℕ → FunSig → Bool
  Step n sort sig = leads_to sort sig && is_needed_after g f n sig.from

  stays : (n sort : ℕ) → is_needed_after g f n sort ≡ true → is_needed_after g f (suc n) sort ≡ true
  stays n sort e = ap (λ b. b || list_any (Step n sort) g.funs) e

  follows : (n sort : ℕ) (sig : FunSig) → Contains g.funs sig → leads_to sort sig ≡ true → is_needed_after g f n sig.from ≡ true → is_needed_after g f (suc n) sort ≡ true
  follows n sort sig there leads before =
      let both : Step n sort sig ≡ true = cc in
      or_right (is_needed_after g f n sort) (list_any (Step n sort) g.funs) (list_any-from (Step n sort) g.funs sig there both)

  -- a sort that is first reached in a round, and one that was first reached in each earlier one
  record IsChain (n sort : ℕ) : Type 0 where
    rest : List ℕ
    long : length rest ≡ suc n
    once : HasNoRepeats (sort ∷ rest)
    before : (x : ℕ) → Contains rest x → is_needed_after g f n x ≡ true

  extended : (n sort : ℕ) (rest : List ℕ) → is_needed_after g f n sort ≡ false → length rest ≡ suc n → HasNoRepeats rest
      → ((x : ℕ) → Contains rest x → is_needed_after g f n x ≡ true) → IsChain n sort
  extended n sort rest late long once before = record {
    rest = rest;
    long = long;
    once = ((λ c. let early = before sort c in let no' : true ≡ false = sym early ∙ late in cc), once);
    before = before;
  }

  only_one : (n from x : ℕ) → is_needed_after g f n from ≡ true → Contains (from ∷ []) x → is_needed_after g f n x ≡ true
  only_one n from x e c =
      let P : ℕ → Type 0 = λ x. is_needed_after g f n x ≡ true in
      elim (Contains-cons_cases from [] x c) [ inl same ↦ subst P same e | inr none ↦ Contains-none x none ]

  source : (n sort : ℕ) → is_needed_after g f (suc n) sort ≡ true → is_needed_after g f n sort ≡ false
      → (sig : FunSig) × Contains g.funs sig × (leads_to sort sig ≡ true) × (is_needed_after g f n sig.from ≡ true)
  source n sort now late =
      elim (either_true (is_needed_after g f n sort) (list_any (Step n sort) g.funs) now) [
        | inl early ↦ let no' : true ≡ false = sym early ∙ late in cc
        | inr step ↦
            let found = list_any-some (Step n sort) g.funs step in
            let both = and_parts (leads_to sort found.0) (is_needed_after g f n found.0.from) found.2 in
            (found.0, found.1, both.0, both.1)
      ]

  chain : (n sort : ℕ) → is_needed_after g f (suc n) sort ≡ true → is_needed_after g f n sort ≡ false → IsChain n sort
  chain zero sort now late =
      let from = source zero sort now late in
      extended zero sort (from.0.from ∷ []) late refl ((λ c. Contains-none from.0.from c), tt) (λ x c. only_one zero from.0.from x from.3 c)
  chain (suc n) sort now late =
      let from = source (suc n) sort now late in
      go from.0.from (chain n from.0.from from.3) (λ early. follows n sort from.0 from.1 from.2 early) from.3 (is_needed_after g f n from.0.from) refl
    where
      go : (from : ℕ) → (is_needed_after g f n from ≡ false → IsChain n from) → (is_needed_after g f n from ≡ true → is_needed_after g f (suc n) sort ≡ true)
          → is_needed_after g f (suc n) from ≡ true → (b : Bool) → is_needed_after g f n from ≡ b → IsChain (suc n) sort
      go from later early here true e = let now = early e in let no' : true ≡ false = sym now ∙ late in cc
      go from later early here false e =
          let before = later e in
          extended (suc n) sort (from ∷ before.rest) late (ap suc before.long) before.once (λ x c.
          elim (Contains-cons_cases from before.rest x c) [
            | inl same ↦ let P : ℕ → Type 0 = λ x. is_needed_after g f (suc n) x ≡ true in subst P same here
            | inr behind ↦ stays n x (before.before x behind)
          ])

  -- one round more reaches none
  reached : IsOver g [] f → (sort : ℕ) → is_needed_after g f (suc g.sorts) sort ≡ true → is_needed g f sort ≡ true
  reached over sort now = choose (is_needed g f sort) refl
    where
      choose : (b : Bool) → is_needed g f sort ≡ b → is_needed g f sort ≡ true
      choose true e = e
      choose false e =
          let way = chain g.sorts sort now e in
          let all : (x : ℕ) → Contains (sort ∷ way.rest) x → x < g.sorts = λ x c.
          elim (Contains-cons_cases sort way.rest x c) [
            | inl same ↦ let P : ℕ → Type 0 = λ x. x < g.sorts in subst P same (needed_below g f over (suc g.sorts) sort now)
            | inr behind ↦ needed_below g f over g.sorts x (way.before x behind)
          ] in
          absurd (omega (arith, short g.sorts (sort ∷ way.rest) way.once all, way.long))

  leads : (sort : ℕ) (sig : FunSig) → sig.partial ≡ false → sig.to ≡ kinds.Rec sort → leads_to sort sig ≡ true
  leads sort sig total to =
      let here = is_the_number (record_sort sig.to) sort (ap record_sort to) in
      let there : not sig.partial ≡ true = ap not total in cc

  pub needed_set : IsOver g [] f → HasNeeded g f (is_needed g f)
  needed_set over = record {
    named = λ sort c. needed_after g f g.sorts sort c;
    followed = λ h sig sort there total to before.
        reached over sort (follows g.sorts sort sig (h, slice_get_within g.funs h sig there, get_or_from_slice_get g.funs h sig sig there) (leads sort sig total to) before);
  }

  to_leads : (sort : ℕ) (sig : FunSig) → leads_to sort sig ≡ true → (sig.partial ≡ false) × (record_sort sig.to ≡ Some sort)
  to_leads sort sig e =
      let both = and_parts (not sig.partial) (is_number (record_sort sig.to) sort) e in
      (total sig.partial both.0, number_is (record_sort sig.to) sort both.1)
    where
      total : (b : Bool) → not b ≡ true → b ≡ false
      total true e = cc
      total false e = refl

  range_of : (range : Range) (sort : ℕ) → record_sort range ≡ Some sort → range ≡ kinds.Rec sort
  range_of (kinds.Rec n) sort e = let same : n ≡ sort = cc in ap (λ n. kinds.Rec n) same
  range_of kinds.Flag sort e = cc
  range_of kinds.Num sort e = cc
  range_of kinds.Str sort e = cc

  index_of : (xs : List FunSig) (sig : FunSig) → Contains xs sig → (h : ℕ) × (slice_get xs h ≡ Some sig)
  index_of [] sig c = Contains-none sig c
  index_of (x ∷ xs) sig c =
      elim (Contains-cons_cases x xs sig c) [
        | inl same ↦ (0, ap (λ x. Some x) same)
        | inr later ↦ let found = index_of xs sig later in (suc found.0, found.1)
      ]

  pub needed_least : (P : ℕ → Bool) → HasNeeded g f P → (n sort : ℕ) → is_needed_after g f n sort ≡ true → P sort ≡ true
  needed_least P has zero sort e =
      let found = list_any-some (λ s. s == sort) (sorts_of g f) e in
      ap P (sym (eqb-true found.0 sort found.2)) ∙ has.named found.0 found.1
  needed_least P has (suc n) sort e =
      elim (either_true (is_needed_after g f n sort) (list_any (Step n sort) g.funs) e) [
        | inl early ↦ needed_least P has n sort early
        | inr step ↦
            let found = list_any-some (Step n sort) g.funs step in
            let both = and_parts (leads_to sort found.0) (is_needed_after g f n found.0.from) found.2 in
            let leads = to_leads sort found.0 both.0 in
            let h = index_of g.funs found.0 found.1 in
            has.followed h.0 found.0 sort h.1 leads.0 (range_of found.0.to sort leads.1) (needed_least P has n found.0.from both.1)
      ]
