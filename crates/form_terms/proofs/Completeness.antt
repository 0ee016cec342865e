-- A structure that passes a formula over a closed list of terms satisfies it when it is cut down.
use Rattle.std.proofs.Common.{append_assoc, subst, ◌≡◌, ℕ, ◌+◌, ◌<◌, inl, inr, Bool, true, false, not, ◌||◌, refl, sym, ◌∙◌, List, [], ◌∷◌, ◌++◌, Some, None, Option, ap, arith, slice_get, Contains}
use Rattle.std.specs.Prelude.{option_and_then}
use Rattle.std.specs.Option.{option_or}
use Rattle.std.proofs.lemmas.List.Elements.{Contains-append_left, Contains-append_right}
use Rattle.form_formula.specs.declared.structure.Signature.{Signature}
use Rattle.form_formula.specs.declared.structure.Structure.{Structure}
use Rattle.form_formula.specs.Trees.{Formula, yes, no, equal, less, has, flag, present, negation, both, either, exists, forall}
use Rattle.form_formula.specs.NormalForm.{IsNormal}
use Rattle.form_formula.specs.Over.{IsOver}
use Rattle.form_formula.specs.Truth.{truth, elements}
use Rattle.form_terms.specs.GroundTerms.{and_last, GroundTerm, GroundTerms, constant, skolem, no_terms, term_and, sort_of}
use Rattle.form_terms.specs.Parts.{Variable, Part, existential, universal, parts, parts_of, quantifiers, name_of}
use Rattle.form_terms.specs.Universe.{IsClosedSet, HaveSorts, HasEach, variables_of, variables_in, sorts_of_part, is_needed}
use Rattle.form_terms.specs.Structures.{IsStructure, size_of}
use Rattle.form_terms.specs.Passing.{Choice, IsChoice, element_named, elements_named, IsNamed, HoldsOver}
use Rattle.form_terms.specs.Cut.{leading_places, place_of_option, is_kept, place_of, default_of, cut}
use Rattle.form_terms.specs.Satisfying.{AreElements, body_of, leading_sorts}
use Rattle.std.proofs.lemmas.List.{append-nil}
use Rattle.form_terms.proofs.Lists.{Contains-head, Contains-tail, flat_map-Contains, range-within, range-Contains}
use Rattle.form_terms.proofs.Kept.{list_any-from, list_all-from, or_right}
use Rattle.form_terms.proofs.CutFacts.{kept_named, named_kept, place_within, old_of}
use Rattle.form_terms.proofs.CutTruth.{and_last-sorts, and_last-each, and_last-elements, needed_after, Carried, Scope, atom_carried, scope_more}

no_arguments : (g : Signature) (s : Structure) (c : Choice) (ts : GroundTerms) (xs : List ℕ) → HaveSorts g ts [] → elements_named s c ts ≡ Some xs → [] ≡ xs
no_arguments g s c no_terms xs h e = cc
no_arguments g s c (term_and t ts) xs h e = absurd h

or_left : (a b : Bool) → a ≡ true → (a || b) ≡ true
or_left true b e = refl
or_left false b e = cc

module _ (g : Signature) (f : Formula) (s : Structure) (c : Choice) (terms : List GroundTerm)
    (over : IsStructure g s) (closed : IsClosedSet g f (Contains terms)) (fits : IsChoice g s f c) where
  abbrev after : Structure
  after = cut g s c terms

  -- terms that name the elements of the `forall`s above
  record AreArguments (above xs : List ℕ) (ts : GroundTerms) : Type 0 where
    sorts : HaveSorts g ts above
    listed : HasEach (Contains terms) ts
    named : elements_named s c ts ≡ Some xs

  abbrev Inside : ℕ → List (Option GroundTerm) → List ℕ → Formula → Type 0
  Inside number names above a = (p : Part) → Contains (parts number names above a) p → Contains (parts_of f) p

  -- an element of a needed sort that is kept is named
  kept_element : (sort x : ℕ) → is_needed g f sort ≡ true → x < size_of s sort → is_kept g s c terms sort x ≡ true → IsNamed g s c (Contains terms) sort x
  kept_element sort x need within e =
      elim (kept_named g s c terms over sort x e) [
        | inl named ↦ named
        | inr own ↦
            let first = fits.needed sort need (omega (arith, within)) in
            let default : default_of g s c terms sort ≡ Some first.0 = ap (λ o. option_or o (slice_get (elements s sort) 0)) first.1 in
            let same : first.0 ≡ x = let both = sym default ∙ own in cc in
            (constant sort, closed.first (constant sort) need, refl, first.1 ∙ ap (λ n. Some n) same)
      ]

  variable_named : (number sort x : ℕ) (above xs : List ℕ) (ts : GroundTerms) → AreArguments above xs ts
      → Contains (variables_of g f) (record { number = number; sort = sort; above = above }) → c.variable number xs ≡ Some x
      → IsNamed g s c (Contains terms) sort x
  variable_named number sort x above xs ts args own e = (
    skolem number sort ts,
    closed.applied (skolem number sort ts) (above, own, args.sorts, args.listed),
    refl,
    ap (option_and_then (c.variable number)) args.named ∙ e,
  )

  -- the ground term of a variable with no `forall` above it names its element
  own_name : (number sort x : ℕ) (above xs : List ℕ) (ts : GroundTerms) → AreArguments above xs ts → c.variable number xs ≡ Some x
      → (t : GroundTerm) → name_of number sort above ≡ Some t → (element_named s c t ≡ Some x) × (sort_of g t ≡ Some sort)
  own_name number sort x [] xs ts args e t name =
      let same : skolem number sort no_terms ≡ t = cc in
      let empty : [] ≡ xs = no_arguments g s c ts xs args.sorts args.named in
      (ap (element_named s c) (sym same) ∙ (ap (c.variable number) empty ∙ e), ap (sort_of g) (sym same))
  own_name number sort x (s' ∷ above) xs ts args e t name = cc

  carried_truth : (a : Formula) (number : ℕ) (scope env moved_env : List ℕ) (names : List (Option GroundTerm)) (above xs : List ℕ) (ts : GroundTerms)
      → IsOver g scope a → IsNormal a → Inside number names above a → Scope g f s c terms over closed fits scope env moved_env names
      → AreArguments above xs ts → HoldsOver g s c (Contains terms) number env xs a → truth after moved_env a ≡ true
  carried_truth yes number scope env moved_env names above xs ts h normal inside at args pass = refl
  carried_truth no number scope env moved_env names above xs ts h normal inside at args pass = absurd pass
  carried_truth (equal t u) number scope env moved_env names above xs ts h normal inside at args pass =
      atom_carried g f s c terms over closed fits scope env moved_env names at (equal t u) number above tt h inside ∙ pass
  carried_truth (less t u) number scope env moved_env names above xs ts h normal inside at args pass =
      atom_carried g f s c terms over closed fits scope env moved_env names at (less t u) number above tt h inside ∙ pass
  carried_truth (has r t u) number scope env moved_env names above xs ts h normal inside at args pass =
      atom_carried g f s c terms over closed fits scope env moved_env names at (has r t u) number above tt h inside ∙ pass
  carried_truth (flag k t) number scope env moved_env names above xs ts h normal inside at args pass =
      atom_carried g f s c terms over closed fits scope env moved_env names at (flag k t) number above tt h inside ∙ pass
  carried_truth (present k t) number scope env moved_env names above xs ts h normal inside at args pass =
      atom_carried g f s c terms over closed fits scope env moved_env names at (present k t) number above tt h inside ∙ pass
  carried_truth (negation a) number scope env moved_env names above xs ts h normal inside at args pass =
      ap not (atom_carried g f s c terms over closed fits scope env moved_env names at a number above normal h inside) ∙ pass
  carried_truth (both a b) number scope env moved_env names above xs ts h normal inside at args pass =
      let left = carried_truth a number scope env moved_env names above xs ts h.0 normal.0
      (λ p here. inside p (Contains-append_left (parts number names above a) (parts (number + quantifiers a) names above b) p here)) at args pass.0 in
      let right = carried_truth b (number + quantifiers a) scope env moved_env names above xs ts h.1 normal.1
      (λ p here. inside p (Contains-append_right (parts number names above a) (parts (number + quantifiers a) names above b) p here)) at args pass.1 in
      cc
  carried_truth (either a b) number scope env moved_env names above xs ts h normal inside at args (inl pass) =
      let left = carried_truth a number scope env moved_env names above xs ts h.0 normal.0
      (λ p here. inside p (Contains-append_left (parts number names above a) (parts (number + quantifiers a) names above b) p here)) at args pass in
      or_left (truth after moved_env a) (truth after moved_env b) left
  carried_truth (either a b) number scope env moved_env names above xs ts h normal inside at args (inr pass) =
      let right = carried_truth b (number + quantifiers a) scope env moved_env names above xs ts h.1 normal.1
      (λ p here. inside p (Contains-append_right (parts number names above a) (parts (number + quantifiers a) names above b) p here)) at args pass in
      or_right (truth after moved_env a) (truth after moved_env b) right
  carried_truth (exists sort a) number scope env moved_env names above xs ts h normal inside at args (x, e, pass) =
      let v : Variable = record { number = number; sort = sort; above = above } in
      let rest : List Part = parts (number + 1) (names ++ name_of number sort above ∷ []) above a in
      let own : Contains (variables_of g f) v =
      flat_map-Contains variables_in (parts_of f) (existential v) v (inside (existential v) (Contains-head (existential v) rest)) (Contains-head v []) in
      let within : x < size_of s sort = fits.variables v xs x own e in
      let name : IsNamed g s c (Contains terms) sort x = variable_named number sort x above xs ts args own e in
      let i : ℕ = place_of g s c terms sort x in
      let carried : Carried g f s c terms over closed fits sort x i = record { named = name; within = within; place = refl } in
      let next = scope_more g f s c terms over closed fits scope env moved_env names at sort x i (name_of number sort above) carried
      (own_name number sort x above xs ts args e) in
      let later = carried_truth a (number + 1) (scope ++ sort ∷ []) (env ++ x ∷ []) (moved_env ++ i ∷ []) (names ++ name_of number sort above ∷ []) above xs ts
      h.1 normal (λ p here. inside p (Contains-tail (existential v) rest p here)) next args pass in
      let there = place_within g s c terms over sort x within (named_kept g s c terms over sort x name) in
      list_any-from (λ i. truth after (moved_env ++ i ∷ []) a) (elements after sort) i (range-Contains 0 (size_of after sort) i (omega arith) (omega (arith, there))) later
  carried_truth (forall sort a) number scope env moved_env names above xs ts h normal inside at args pass =
      let rest : List Part = parts (number + 1) (names ++ None ∷ []) (above ++ sort ∷ []) a in
      let part : Contains (parts_of f) (universal sort) = inside (universal sort) (Contains-head (universal sort) rest) in
      let need : is_needed g f sort ≡ true =
      needed_after g f g.sorts sort (flat_map-Contains (sorts_of_part g) (parts_of f) (universal sort) sort part (Contains-head sort [])) in
      list_all-from (λ i. truth after (moved_env ++ i ∷ []) a) (elements after sort) (λ i there.
      let within = range-within 0 (size_of after sort) i there in
      let old = old_of g s c terms over sort i (omega (arith, within.1)) in
      let x : ℕ = old.0 in
      let name : IsNamed g s c (Contains terms) sort x = kept_element sort x need old.1.1 old.1.2 in
      let carried : Carried g f s c terms over closed fits sort x i = record { named = name; within = old.1.1; place = old.1.3 } in
      let next = scope_more g f s c terms over closed fits scope env moved_env names at sort x i None carried (λ t e. cc) in
      let longer : AreArguments (above ++ sort ∷ []) (xs ++ x ∷ []) (and_last ts name.0) = record {
        sorts = and_last-sorts g ts above name.0 sort args.sorts name.2;
        listed = and_last-each (Contains terms) ts name.0 args.listed name.1;
        named = and_last-elements s c ts xs name.0 x args.named name.3;
      } in
      carried_truth a (number + 1) (scope ++ sort ∷ []) (env ++ x ∷ []) (moved_env ++ i ∷ []) (names ++ None ∷ []) (above ++ sort ∷ []) (xs ++ x ∷ []) (and_last ts name.0)
      h.1 normal (λ p here. inside p (Contains-tail (universal sort) rest p here)) next longer (pass x old.1.1 name))

  pub cut_true : IsOver g [] f → IsNormal f → HoldsOver g s c (Contains terms) 0 [] [] f → truth after [] f ≡ true
  cut_true h normal pass =
      let at : Scope g f s c terms over closed fits [] [] [] [] = record {
        env_length = refl;
        moved_length = refl;
        names_length = refl;
        carried = λ depth sort e. cc;
      } in
      carried_truth f 0 [] [] [] [] [] [] no_terms h normal (λ p here. here) at (record { sorts = tt; listed = tt; named = refl }) pass

  last : (a : Formula) (number : ℕ) (scope env moved_env : List ℕ) (names : List (Option GroundTerm)) → IsOver g scope a → IsNormal a
      → Inside number names [] a → Scope g f s c terms over closed fits scope env moved_env names → HoldsOver g s c (Contains terms) number env [] a
      → Unit {0} × (truth after (moved_env ++ []) a ≡ true)
  last a number scope env moved_env names h normal inside at pass =
      let P : List ℕ → Type 0 = λ xs. truth after xs a ≡ true in (
        tt,
        subst P (sym (append-nil moved_env))
            (carried_truth a number scope env moved_env names [] [] no_terms h normal inside at (record { sorts = tt; listed = tt; named = refl }) pass),
      )

  -- the variables of the `exists` that a formula begins with
  leading_truth : (a : Formula) (number : ℕ) (scope env moved_env : List ℕ) (names : List (Option GroundTerm)) → IsOver g scope a → IsNormal a
      → Inside number names [] a → Scope g f s c terms over closed fits scope env moved_env names → HoldsOver g s c (Contains terms) number env [] a
      → AreElements after (leading_sorts a) (leading_places g s c terms number a)
      × (truth after (moved_env ++ leading_places g s c terms number a) (body_of a) ≡ true)
  leading_truth yes number scope env moved_env names h normal inside at pass = last yes number scope env moved_env names h normal inside at pass
  leading_truth no number scope env moved_env names h normal inside at pass = last no number scope env moved_env names h normal inside at pass
  leading_truth (equal t u) number scope env moved_env names h normal inside at pass = last (equal t u) number scope env moved_env names h normal inside at pass
  leading_truth (less t u) number scope env moved_env names h normal inside at pass = last (less t u) number scope env moved_env names h normal inside at pass
  leading_truth (has r t u) number scope env moved_env names h normal inside at pass = last (has r t u) number scope env moved_env names h normal inside at pass
  leading_truth (flag k t) number scope env moved_env names h normal inside at pass = last (flag k t) number scope env moved_env names h normal inside at pass
  leading_truth (present k t) number scope env moved_env names h normal inside at pass = last (present k t) number scope env moved_env names h normal inside at pass
  leading_truth (negation a) number scope env moved_env names h normal inside at pass = last (negation a) number scope env moved_env names h normal inside at pass
  leading_truth (both a b) number scope env moved_env names h normal inside at pass = last (both a b) number scope env moved_env names h normal inside at pass
  leading_truth (either a b) number scope env moved_env names h normal inside at pass = last (either a b) number scope env moved_env names h normal inside at pass
  leading_truth (forall sort a) number scope env moved_env names h normal inside at pass = last (forall sort a) number scope env moved_env names h normal inside at pass
  leading_truth (exists sort a) number scope env moved_env names h normal inside at (x, e, pass) =
      let v : Variable = record { number = number; sort = sort; above = [] } in
      let name : Option GroundTerm = name_of number sort [] in
      let rest : List Part = parts (number + 1) (names ++ name ∷ []) [] a in
      let own : Contains (variables_of g f) v =
      flat_map-Contains variables_in (parts_of f) (existential v) v (inside (existential v) (Contains-head (existential v) rest)) (Contains-head v []) in
      let within : x < size_of s sort = fits.variables v [] x own e in
      let args : AreArguments [] [] no_terms = record { sorts = tt; listed = tt; named = refl } in
      let named : IsNamed g s c (Contains terms) sort x = variable_named number sort x [] [] no_terms args own e in
      let i : ℕ = place_of g s c terms sort x in
      let carried : Carried g f s c terms over closed fits sort x i = record { named = named; within = within; place = refl } in
      let next = scope_more g f s c terms over closed fits scope env moved_env names at sort x i name carried (own_name number sort x [] [] no_terms args e) in
      let later = leading_truth a (number + 1) (scope ++ sort ∷ []) (env ++ x ∷ []) (moved_env ++ i ∷ []) (names ++ name ∷ []) h.1 normal
      (λ p here. inside p (Contains-tail (existential v) rest p here)) next pass in
      let there = place_within g s c terms over sort x within (named_kept g s c terms over sort x named) in
      let places : List ℕ = leading_places g s c terms (number + 1) a in
      let P : Option ℕ → Type 0 = λ o. AreElements after (sort ∷ leading_sorts a) (place_of_option g s c terms o sort ∷ places)
      × (truth after (moved_env ++ (place_of_option g s c terms o sort ∷ places)) (body_of a) ≡ true) in
      let Q : List ℕ → Type 0 = λ xs. truth after xs (body_of a) ≡ true in
      subst P (sym e) ((there, later.0), subst Q (append_assoc moved_env (i ∷ []) places) later.1)

  pub cut_leading : IsOver g [] f → IsNormal f → HoldsOver g s c (Contains terms) 0 [] [] f
      → AreElements after (leading_sorts f) (leading_places g s c terms 0 f) × (truth after (leading_places g s c terms 0 f) (body_of f) ≡ true)
  cut_leading h normal pass =
      let at : Scope g f s c terms over closed fits [] [] [] [] = record {
        env_length = refl;
        moved_length = refl;
        names_length = refl;
        carried = λ depth sort e. cc;
      } in
      leading_truth f 0 [] [] [] [] h normal (λ p here. here) at pass
