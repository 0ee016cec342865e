-- The formulas of obligations are closed and over the signature of the schema of start databases.
use Rattle.std.proofs.Common.{◌≡◌, ℕ, zero, suc, ◌+◌, ◌-◌, ◌<◌, ◌≤◌, Bool, true, false, not, List, [], ◌∷◌, ◌++◌, length, refl, ap, sym, ◌∙◌, subst, arith, cond, inl, inr, length-append}
use Rattle.std.specs.Prelude.{Option, Some, None, map, is_some, slice_get, flat_map, option_and_then, MatchOption}
use Rattle.std.specs.List as list
use Rattle.std.specs.Option.{option_map, option_map_or}
use Rattle.std.proofs.lemmas.Option.{slice_get_within}
use Rattle.text_tree.specs.declared.exprs.CmpOp.{CmpOp}
use Rattle.text_tree.specs.declared.exprs.CmpOp.TheVariants.{Eq, Ne, Lt, Le, Gt, Ge}
use Rattle.type_schema.specs.declared.types.TBase.TheVariants as base
use Rattle.type_schema.specs.declared.types.TTy.{TTy}
use Rattle.type_schema.specs.declared.types.TTy.TheVariants.{Plain, Set, Opt}
use Rattle.type_schema.specs.declared.rights.Kind.{Kind}
use Rattle.type_schema.specs.declared.rights.Kind.TheVariants as kind
use Rattle.type_schema.specs.declared.rights.Right.{Right}
use Rattle.type_schema.specs.declared.rights.Right.TheVariants.{Read}
use Rattle.type_schema.specs.declared.rights.Target.{Target}
use Rattle.type_schema.specs.declared.rights.Target.TheVariants as on
use Rattle.type_schema.specs.Trees.{Expr, flag, num, str, var, nothing, just, get, equal, iff, less, within, negation, both, either, if_expr, match_expr, SetExpr, everyone, nobody, listed, union, minus, find, path, mapped, flat_mapped, if_set, match_set, Items, no_items, static_item, record_item, Filters, no_filters, filter_and, Policy, Init, plain, of_set}
use Rattle.type_schema.specs.Schema.{FieldInfo, ModelInfo, Added, Schema, field_in, model_of, type_of, model_of_target}
use Rattle.type_schema.specs.Typing.{HasModel, Scope, Content, records, IsExpr, IsSet, AreItems, AreFilters, IsInit}
use Rattle.type_schema.specs.Commands.{Command, create_model, delete_model, add_static, remove_static, add_principal, add_field, remove_field, update_field, weaken_field, update_model, weaken_model, with_field, schema_after, AreNumberedFrom}
use Rattle.type_schema.specs.Proper.{IsProper}
use Rattle.type_schema.specs.Uses.{Use, in_order_of_text, uses_of, set_uses_of, item_uses_of, filter_uses_of, init_uses_of}
use Rattle.type_schema.specs.Script.{Script, schema_at, command_at, count, IsScript}
use Rattle.type_schema.specs.Kinds.{is_kind_at}
use Rattle.data_meaning.specs.Gain.{policy_at, updates}
use Rattle.data_meaning.proofs.Kept.{policy-typed, field-below}
use Rattle.data_meaning.proofs.Policies.{numbered-from, both-same}
use Rattle.form_formula.specs.declared.structure.Range.{Range}
use Rattle.form_formula.specs.declared.structure.Range.TheVariants as range
use Rattle.form_formula.specs.declared.structure.FunSig.{FunSig}
use Rattle.form_formula.specs.declared.structure.SetSig.{SetSig}
use Rattle.form_formula.specs.declared.structure.Signature.{Signature}
use Rattle.form_formula.specs.Trees.{Term, bound, app, Formula, has, exists}
use Rattle.form_formula.specs.Trees as tree
use Rattle.form_formula.specs.Over.{HasRange, IsOver, IsClosedTerm, IsClosed}
use Rattle.duty_meaning.specs.declared.duty.Duty.{Duty}
use Rattle.duty_meaning.specs.Structures.{before, Place, places_in, is_set, functions_of, relations_of, is_place, sort_of, function_of, relation_of, range_of, target_of, function_signature, relation_signature}
use Rattle.duty_meaning.specs.Cases.{Cases, held, constant}
use Rattle.duty_meaning.specs.Formulas.{Who, static, record_at, Written, nothing_written, with_added, written_out, field_cases, init_cases, is_allowed}
use Rattle.duty_meaning.specs.Reach.{init_reach}
use Rattle.duty_meaning.specs.Duties.{written_at, has_right, for_some, for_some_principal, gain_formula_of, leak_formula, added_formula, flow_formula_of, formula_of}
use Rattle.duty_meaning.specs.Gains.{IsGainDuty}
use Rattle.duty_meaning.specs.Flows.{IsFlowDuty}
use Rattle.duty_meaning.specs.Listed.{IsUseDuty, IsObligation}
use Rattle.duty_meaning.specs.Over.{IsSignatureOf, FormulasAreOver}
use Rattle.duty_meaning.proofs.Fitting.{sort-within}
use Rattle.duty_meaning.proofs.Means.{IsPrefix, prefix-more, prefix-itself, prefix-along, truth-of-type}
use Rattle.duty_meaning.proofs.Starting.{place, Placed, placed, find-kept}
use Rattle.duty_meaning.proofs.Adding.{written-more, written-kept, none-written, added-split}
use Rattle.duty_meaning.proofs.Shown.{has-field, AddsNothing, changed-there, model-there, field-there}
use Rattle.duty_meaning.proofs.Created.{command-there, created-type, created-there, first-type, first-there, type-split, model-split, model-of-start, kind-model}
use Rattle.duty_meaning.proofs.Gains.{updated-there}
use Rattle.duty_meaning.proofs.Reached.{get-parts}
use Rattle.duty_meaning.proofs.Listed.{from-list}
use Rattle.duty_meaning.proofs.Flows.{type-stays, model-stays}
use Rattle.duty_meaning.proofs.OverCases.{constant-over, atom-over, HasTerm, OverCases, OverWho, overwho-more}
use Rattle.duty_meaning.proofs.OverFormulas.{Speaks, next-over, allowed-over, init-over}
use Rattle.duty_meaning.proofs.OverReach.{init-reach-over}

-- ---- formulas over a signature are closed

closed-term : (g : Signature) (scope : List ℕ) (t : Term) (r : Range) → HasRange g scope t r → IsClosedTerm (length scope) t
closed-term g scope (bound sort depth) r h = slice_get_within scope depth sort h.0
closed-term g scope (tree.num n) r h = tt
closed-term g scope (tree.str bytes) r h = tt
closed-term g scope (app f t) r h = closed-term g scope t (range.Rec (let sig : FunSig = h.0 in sig.from)) h.2

closed : (g : Signature) (f : Formula) (scope : List ℕ) → IsOver g scope f → IsClosed (length scope) f
closed g tree.yes scope h = tt
closed g tree.no scope h = tt
closed g (tree.equal t u) scope h = (closed-term g scope t h.0 h.2, closed-term g scope u h.0 h.3)
closed g (tree.less t u) scope h = (closed-term g scope t range.Num h.0, closed-term g scope u range.Num h.1)
closed g (has r t u) scope h =
    (closed-term g scope t (range.Rec (let sig : SetSig = h.0 in sig.from)) h.2, closed-term g scope u (range.Rec (let sig : SetSig = h.0 in sig.to)) h.3)
closed g (tree.flag f t) scope h = closed-term g scope t (range.Rec (let sig : FunSig = h.0 in sig.from)) h.2
closed g (tree.present f t) scope h = closed-term g scope t (range.Rec (let sig : FunSig = h.0 in sig.from)) h.2
closed g (tree.negation a) scope h = closed g a scope h
closed g (tree.both a b) scope h = (closed g a scope h.0, closed g b scope h.1)
closed g (tree.either a b) scope h = (closed g a scope h.0, closed g b scope h.1)
closed g (exists sort a) scope h =
    let longer : length (scope ++ sort ∷ []) ≡ length scope + 1 = omega (arith, length-append scope (sort ∷ [])) in
    subst (λ (n : ℕ). IsClosed n a) longer (closed g a (scope ++ sort ∷ []) h.1)
closed g (tree.forall sort a) scope h =
    let longer : length (scope ++ sort ∷ []) ≡ length scope + 1 = omega (arith, length-append scope (sort ∷ [])) in
    subst (λ (n : ℕ). IsClosed n a) longer (closed g a (scope ++ sort ∷ []) h.1)

-- ---- numbers of sorts and functions

found-get : {A B : Type 0} (p : A → Bool) (h : A → B) (xs : List A) (y : A) → list.find p xs ≡ Some y → slice_get (map h xs) (before p xs) ≡ Some (h y)
found-get p h [] y e = cc
found-get {A} {B} p h (x ∷ xs) y e =
    elim (p x) as (λ (t : Bool). cond t (Some x) (list.find p xs) ≡ Some y → slice_get (h x ∷ map h xs) (cond t 0 (suc (before p xs))) ≡ Some (h y)) [
      | true ↦ λ e. let same : x ≡ y = cc in ap (λ u. Some (h u)) same
      | false ↦ λ e. found-get p h xs y e
    ] e

module _ (b : Schema) (g : Signature) (of : IsSignatureOf b g) where
  sort-below : (m : ℕ) → HasModel b m → sort_of b m < g.sorts
  sort-below m h = let below = sort-within b m h in omega (arith, below, of.sorts)

  -- a field as a function
  function-over : (m f : ℕ) (ty : TTy) (q : Placed b m f ty) → is_set ty ≡ false → (xs : List ℕ) (u : Term) → HasTerm b g xs (base.Id m) u
      → (zs : List ℕ) → IsPrefix xs zs → HasRange g zs (app (function_of b m f) u) (range_of b ty)
  function-over m f ty q no_set xs u it zs more =
      let keeps : not (is_set q.field.ty) ≡ true = ap (λ u. not (is_set u)) q.ty ∙ ap not no_set in
      let found = find-kept (is_place m f) (λ (u : Place). not (is_set u.field.ty)) (flat_map places_in b.models) (place m q.field) q.found keeps in (
        function_signature b (place m q.field),
        ap (λ l. slice_get l (function_of b m f)) of.functions ∙ found-get (is_place m f) (function_signature b) (functions_of b) (place m q.field) found,
        it zs more,
        ap (range_of b) (sym q.ty),
      )

  field-over : (m f : ℕ) (ty : TTy) → type_of b m f ≡ Some ty → (xs : List ℕ) (u : Term) → HasTerm b g xs (base.Id m) u → OverCases b g xs ty (held m f u)
  field-over m f (Plain p) h xs u it =
      (truth-of-type b m f (Plain p) h, λ zs more. function-over m f (Plain p) (placed b m f (Plain p) h) refl xs u it zs more)
  field-over m f (Opt p) h xs u it =
      (truth-of-type b m f (Opt p) h, λ zs more. function-over m f (Opt p) (placed b m f (Opt p) h) refl xs u it zs more)
  field-over m f (Set n) h xs u it =
      let q = placed b m f (Set n) h in
      let found = find-kept (is_place m f) (λ (u : Place). is_set u.field.ty) (flat_map places_in b.models) (place m q.field) q.found (ap is_set q.ty) in (
        truth-of-type b m f (Set n) h,
        λ zs more w at sign.
            atom-over g zs sign (has (relation_of b m f) u w) (
              relation_signature b (place m q.field),
              ap (λ l. slice_get l (relation_of b m f)) of.relations ∙ found-get (is_place m f) (relation_signature b) (relations_of b) (place m q.field) found,
              it zs more,
              subst (λ (x : TTy). HasRange g zs w (range.Rec (sort_of b (target_of x)))) (sym q.ty) (at zs (prefix-itself zs)),
            ),
      )

-- ---- along a script

field-late : (n : ℕ) (fields : List FieldInfo) (f : ℕ) (ty : TTy) → AreNumberedFrom n fields → option_map (λ (g : FieldInfo). g.ty) (field_in fields f) ≡ Some ty → n ≤ f
field-late n fields f ty numbered h =
    elim (field_in fields f) as (λ (o : Option FieldInfo). field_in fields f ≡ o → option_map (λ (g : FieldInfo). g.ty) o ≡ Some ty → n ≤ f) [
      | None ↦ λ here e. cc
      | Some g ↦ λ here e. numbered-from n fields f g numbered here
    ] refl h

module _ (t : Script) (is : IsScript t) (g : Signature) (of : IsSignatureOf t.start g) where
  abbrev b : Schema
  b = t.start

  abbrev SpeaksNow : Schema → Type 0
  SpeaksNow s = Speaks b s (written_out b s.added) g

  first-speaks : Speaks b b nothing_written g
  first-speaks = record { fields = field-over b g of; sorts = sort-below b g of }

  speaks-less : (s small : Schema) (written : Written) → Speaks b s written g → ((m f : ℕ) (ty : TTy) → type_of small m f ≡ Some ty → type_of s m f ≡ Some ty)
      → ((m : ℕ) → HasModel small m → HasModel s m) → Speaks b small written g
  speaks-less s small written h types models = record {
    fields = λ m f ty e xs u it. h.fields m f ty (types m f ty e) xs u it;
    sorts = λ m e. h.sorts m (models m e);
  }

  -- where a field stands for the same
  same-cases : (w v : Written) (m f : ℕ) (ty : TTy) (xs : List ℕ) (u : Term) → w m f ≡ v m f → OverCases b g xs ty (field_cases b w m f u) → OverCases b g xs ty (field_cases b v m f u)
  same-cases w v m f ty xs u e h = subst (λ (o : Option (Term → Cases)). OverCases b g xs ty (option_map_or (λ (at : Term → Cases). at u) o (held m f u))) e h

  created-speaks : (k : ℕ) → k < count t → (info : ModelInfo) → command_at t k ≡ Some (create_model info) → SpeaksNow (schema_at t k) → SpeaksNow (schema_after (schema_at t k) (create_model info))
  created-speaks k below info here speaks =
      let written : Written = written_out b (schema_at t k).added in
      let early : k ≤ count t = omega (arith, below) in
      record {
        fields = λ m f ty h xs u it. elim (type-split (schema_at t k) info m f ty h) [
          | inl old ↦ speaks.fields m f ty old xs u it
          | inr new ↦
              let typed : type_of b m f ≡ Some ty = subst (λ (n : ℕ). type_of b n f ≡ Some ty) new.0 (created-type t is k info below here f ty new.1) in
              let above : (schema_at t k).next_field ≤ f = field-late (schema_at t k).next_field info.fields f ty (is.commands k (create_model info) here).1 new.1 in
              same-cases nothing_written written m f ty xs u (sym (none-written b (schema_at t k) (is.proper k early) m f above)) (first-speaks.fields m f ty typed xs u it)
        ];
        sorts = λ m h. elim (model-split (schema_at t k) info m h) [
          | inl old ↦ speaks.sorts m old
          | inr new ↦ sort-below b g of m (subst (λ (n : ℕ). HasModel b n) new (created-there t is k info below here))
        ];
      }

  added-speaks : (k : ℕ) → k < count t → (m0 : ℕ) (f0 : FieldInfo) (init : Init) → command_at t k ≡ Some (add_field m0 f0 init) → SpeaksNow (schema_at t k)
      → SpeaksNow (schema_after (schema_at t k) (add_field m0 f0 init))
  added-speaks k below m0 f0 init here speaks =
      let s : Schema = schema_at t k in
      let early : k ≤ count t = omega (arith, below) in
      let new_one : Added = record { model = m0; field = f0.number; init = init } in
      let before_it : Written = written_out b s.added in
      let with_it : Written = with_added b before_it new_one in
      let asks : HasModel s m0 × (f0.number ≡ s.next_field) × IsInit s m0 f0.ty init = is.commands k (add_field m0 f0 init) here in
      subst (λ (w : Written). Speaks b (schema_after s (add_field m0 f0 init)) w g) (sym (written-more b s.added new_one))
      (record {
        fields = λ m f ty h xs u it. elim (added-split s m0 f0 init m f ty h) [
          | inl old ↦
              let there = has-field s m f ty old in
              let low : f < s.next_field = field-below s m f there.0 (is.proper k early) there.1 in
              same-cases before_it with_it m f ty xs u (sym (written-kept b before_it new_one m f (λ same. absurd (omega (arith, same, asks.1, low))))) (speaks.fields m f ty old xs u it)
          | inr is_new ↦
              let at : HasTerm b g xs (base.Id m0) u = subst (λ (i : ℕ). HasTerm b g xs (base.Id i) u) (sym is_new.0) it in
              let own : OverCases b g xs f0.ty (init_cases b before_it init u) = init-over b s before_it g speaks m0 f0.ty init asks.2 xs u at in
              let cases : field_cases b with_it m f u ≡ init_cases b before_it init u
              = ap (λ x. option_map_or (λ (at : Term → Cases). at u) (cond x (Some (init_cases b before_it init)) (before_it m f)) (held m f u))
              (both-same m0 m f0.number f is_new.0 is_new.1) in
              subst (λ (c : Cases). OverCases b g xs ty c) (sym cases) (subst (λ (x : TTy). OverCases b g xs x (init_cases b before_it init u)) is_new.2 own)
        ];
        sorts = λ m h. speaks.sorts m (changed-there s m0 (with_field f0) (λ i. refl) m h);
      })

  plain-speaks : (k : ℕ) (c : Command) → command_at t k ≡ Some c → IsProper (schema_after (schema_at t k) c) → SpeaksNow (schema_at t k) → AddsNothing c
      → Speaks b (schema_after (schema_at t k) c) (written_out b (schema_at t k).added) g
  plain-speaks k c here proper speaks a =
      speaks-less (schema_at t k) (schema_after (schema_at t k) c) (written_out b (schema_at t k).added) speaks
      (field-there (schema_at t k) c a (is.commands k c here) proper) (model-there (schema_at t k) c a)

  speaks-after : (k : ℕ) → k < count t → (c : Command) → command_at t k ≡ Some c → IsProper (schema_after (schema_at t k) c) → SpeaksNow (schema_at t k) → SpeaksNow (schema_after (schema_at t k) c)
  speaks-after k below (create_model info) here proper speaks = created-speaks k below info here speaks
  speaks-after k below (delete_model n) here proper speaks = plain-speaks k (delete_model n) here proper speaks tt
  speaks-after k below (add_static info) here proper speaks = plain-speaks k (add_static info) here proper speaks tt
  speaks-after k below (remove_static n) here proper speaks = plain-speaks k (remove_static n) here proper speaks tt
  speaks-after k below (add_principal n) here proper speaks = plain-speaks k (add_principal n) here proper speaks tt
  speaks-after k below (add_field n f init) here proper speaks = added-speaks k below n f init here speaks
  speaks-after k below (remove_field n f) here proper speaks = plain-speaks k (remove_field n f) here proper speaks tt
  speaks-after k below (update_field n f read write) here proper speaks = plain-speaks k (update_field n f read write) here proper speaks tt
  speaks-after k below (weaken_field n f read write reason) here proper speaks = plain-speaks k (weaken_field n f read write reason) here proper speaks tt
  speaks-after k below (update_model n create delete) here proper speaks = plain-speaks k (update_model n create delete) here proper speaks tt
  speaks-after k below (weaken_model n create delete reason) here proper speaks = plain-speaks k (weaken_model n create delete reason) here proper speaks tt

  speaks-at : (k : ℕ) → k ≤ count t → SpeaksNow (schema_at t k)
  speaks-at zero low =
      subst (λ (added : List Added). Speaks b (schema_at t 0) (written_out b added) g) (sym is.nothing_added)
      (speaks-less b (schema_at t 0) nothing_written first-speaks (first-type t is) (first-there t is))
  speaks-at (suc k) low =
      let below : k < count t = omega (arith, low) in
      let c = command-there t is k below in
      let proper : IsProper (schema_after (schema_at t k) c.0) = subst IsProper (is.steps k c.0 c.1) (is.proper (suc k) low) in
      subst SpeaksNow (sym (is.steps k c.0 c.1)) (speaks-after k below c.0 c.1 proper (speaks-at k (omega (arith, low))))

  -- ---- formulas of obligations

  right-over : (k : ℕ) → k ≤ count t → (target : Target) (right : Right) (xs : List ℕ) (r : Term) → HasTerm b g xs (base.Id (model_of_target target)) r
      → (w : Who) → OverWho b g xs w → (sign : Bool) → IsOver g xs (has_right t k target right r w sign (length xs))
  right-over k low target right xs r it w at sign =
      elim (policy_at t k target right) as (λ (o : Option Policy). policy_at t k target right ≡ o
      → IsOver g xs (option_map_or (λ policy. is_allowed b (written_at t k) policy r w sign (length xs)) o (constant (not sign)))) [
        | None ↦ λ here. constant-over g xs (not sign)
        | Some p ↦ λ here.
            allowed-over b (schema_at t k) (written_at t k) g (speaks-at k low) (model_of_target target) p
            (policy-typed (schema_at t k) p (is.proper k low).typed target right here) xs r it w at sign
      ] refl

  some-over : (m : ℕ) → HasModel b m → (xs : List ℕ) (F : Term → Formula)
      → (HasTerm b g (xs ++ sort_of b m ∷ []) (base.Id m) (bound (sort_of b m) (length xs)) → IsOver g (xs ++ sort_of b m ∷ []) (F (bound (sort_of b m) (length xs))))
      → IsOver g xs (for_some t m (length xs) F)
  some-over m there xs F k = (sort-below b g of m there, k (next-over b b nothing_written g first-speaks m xs))

  principal-over : (k : ℕ) (a : Kind) → is_kind_at t k a ≡ true → (xs : List ℕ) (F : Who → ℕ → Formula)
      → ((w : Who) (zs : List ℕ) → IsPrefix xs zs → OverWho b g zs w → IsOver g zs (F w (length zs))) → IsOver g xs (for_some_principal t a (length xs) F)
  principal-over k (kind.Static n) h xs F each = each (static n) xs (prefix-itself xs) tt
  principal-over k (kind.Model n) h xs F each =
      let longer : length (xs ++ sort_of b n ∷ []) ≡ length xs + 1 = omega (arith, length-append xs (sort_of b n ∷ [])) in
      some-over n (kind-model t is n k h) xs (λ q. F (record_at n q) (length xs + 1))
      (λ it. subst (λ (i : ℕ). IsOver g (xs ++ sort_of b n ∷ []) (F (record_at n (bound (sort_of b n) (length xs))) i)) longer
      (each (record_at n (bound (sort_of b n) (length xs))) (xs ++ sort_of b n ∷ []) (prefix-more xs (sort_of b n)) it))

  gain-over : (duty : Duty) → IsGainDuty t duty → IsOver g [] (gain_formula_of t duty)
  gain-over duty h =
      let target : Target = duty.target in
      let m : ℕ = model_of_target target in
      let low : duty.command - 1 < count t = below-count h in
      let high : duty.command ≤ count t = omega (arith, low, h.counted) in
      some-over m (target-there h) [] (λ r. for_some_principal t duty.kind 1 (λ q above.
      tree.both (has_right t duty.command target duty.right r q true above) (has_right t (duty.command - 1) target duty.right r q false above)))
      (λ it. principal-over duty.command duty.kind h.kind (sort_of b m ∷ []) (λ q above.
      tree.both (has_right t duty.command target duty.right (bound (sort_of b m) 0) q true above) (has_right t (duty.command - 1) target duty.right (bound (sort_of b m) 0) q false above))
      (λ w zs more at.
      let row : HasTerm b g zs (base.Id m) (bound (sort_of b m) 0) = λ ws r. it ws (prefix-along (sort_of b m ∷ []) zs ws more r) in (
        right-over duty.command high target duty.right zs (bound (sort_of b m) 0) row w at true,
        right-over (duty.command - 1) (omega (arith, low)) target duty.right zs (bound (sort_of b m) 0) row w at false,
      )))
    where
      below-count : IsGainDuty t duty → duty.command - 1 < count t
      below-count h =
          elim (command_at t (duty.command - 1)) as (λ (o : Option Command). command_at t (duty.command - 1) ≡ o → option_map_or (updates duty.target duty.right) o false ≡ true → duty.command - 1 < count t) [
            | None ↦ λ here e. cc
            | Some c ↦ λ here e. slice_get_within t.commands (duty.command - 1) c here
          ] refl h.updated

      target-there : IsGainDuty t duty → HasModel b (model_of_target duty.target)
      target-there h =
          elim (command_at t (duty.command - 1)) as (λ (o : Option Command). command_at t (duty.command - 1) ≡ o → option_map_or (updates duty.target duty.right) o false ≡ true
          → HasModel b (model_of_target duty.target)) [
            | None ↦ λ here e. cc
            | Some c ↦ λ here e.
                let low = slice_get_within t.commands (duty.command - 1) c here in
                model-of-start t is (duty.command - 1) (omega (arith, low)) (model_of_target duty.target)
                (updated-there (schema_at t (duty.command - 1)) duty.target duty.right c e (is.commands (duty.command - 1) c here)).0
          ] refl h.updated

-- ---- the models of uses are there

module _ (s : Schema) (used : Use) where
  -- the model of the use is there
  abbrev IsThere : Type 0
  IsThere = HasModel s used.model

  in-part : (us vs : List Use) (n : ℕ) → slice_get (us ++ vs) n ≡ Some used → ((n : ℕ) → slice_get us n ≡ Some used → IsThere) → ((n : ℕ) → slice_get vs n ≡ Some used → IsThere) → IsThere
  in-part us vs n h left right =
      elim (get-parts us vs n used h) [
        | inl one ↦ left n one.1
        | inr one ↦ right (n - length us) one.1
      ]

  in-sides : (op : CmpOp) (us vs : List Use) (n : ℕ) → slice_get (in_order_of_text op us vs) n ≡ Some used → ((n : ℕ) → slice_get us n ≡ Some used → IsThere)
      → ((n : ℕ) → slice_get vs n ≡ Some used → IsThere) → IsThere
  in-sides Eq us vs n h left right = in-part us vs n h left right
  in-sides Ne us vs n h left right = in-part us vs n h left right
  in-sides Lt us vs n h left right = in-part us vs n h left right
  in-sides Le us vs n h left right = in-part vs us n h right left
  in-sides Gt us vs n h left right = in-part vs us n h right left
  in-sides Ge us vs n h left right = in-part us vs n h left right

  own-use : (m f n : ℕ) → HasModel s m → slice_get ((record { model = m; field = f }) ∷ []) n ≡ Some used → IsThere
  own-use m f zero there u =
      let own : Use = record { model = m; field = f } in
      let same : own ≡ used = cc in
      subst (λ (x : Use). HasModel s x.model) same there
  own-use m f (suc n) there u = cc

  has-model : (m f : ℕ) (t : TTy) → type_of s m f ≡ Some t → HasModel s m
  has-model m f t h =
      elim (model_of s m) as (λ (o : Option ModelInfo). option_map (λ (x : FieldInfo). x.ty) (option_and_then (λ (i : ModelInfo). field_in i.fields f) o) ≡ Some t → is_some o ≡ true) [
        | None ↦ λ e. cc
        | Some i ↦ λ e. refl
      ] h

  mutual
    use-there : (x : Expr) (scope : Scope) (t : TTy) → IsExpr s scope t x → (n : ℕ) → slice_get (uses_of x) n ≡ Some used → IsThere
    use-there (flag y) scope t e n u = cc
    use-there (num k) scope t e n u = cc
    use-there (str bytes) scope t e n u = cc
    use-there (var depth name) scope t e n u = cc
    use-there nothing scope t e n u = cc
    use-there (just x) scope t e n u = use-there x scope (Plain e.0) e.2 n u
    use-there (get x m f) scope t e n u =
        in-part (uses_of x) ((record { model = m; field = f }) ∷ []) n u (λ n v. use-there x scope (Plain (base.Id m)) e.1 n v) (λ n v. own-use m f n (has-model m f t e.0) v)
    use-there (equal x y op) scope t e n u =
        in-part (uses_of x) (uses_of y) n u (λ n v. use-there x scope (Plain e.1.0) e.1.2 n v) (λ n v. use-there y scope (Plain e.1.0) e.1.3 n v)
    use-there (iff x y op) scope t e n u =
        in-part (uses_of x) (uses_of y) n u (λ n v. use-there x scope (Plain base.Bool) e.1 n v) (λ n v. use-there y scope (Plain base.Bool) e.2 n v)
    use-there (less x y op) scope t e n u =
        in-sides op (uses_of x) (uses_of y) n u (λ n v. use-there x scope (Plain base.Int) e.1 n v) (λ n v. use-there y scope (Plain base.Int) e.2 n v)
    use-there (within x m set) scope t e n u =
        in-part (uses_of x) (set_uses_of set) n u (λ n v. use-there x scope (Plain (base.Id m)) e.1 n v) (λ n v. set-use-there set scope (records m) e.2 n v)
    use-there (negation x) scope t e n u = use-there x scope (Plain base.Bool) e.1 n u
    use-there (both x y) scope t e n u =
        in-part (uses_of x) (uses_of y) n u (λ n v. use-there x scope (Plain base.Bool) e.1 n v) (λ n v. use-there y scope (Plain base.Bool) e.2 n v)
    use-there (either x y) scope t e n u =
        in-part (uses_of x) (uses_of y) n u (λ n v. use-there x scope (Plain base.Bool) e.1 n v) (λ n v. use-there y scope (Plain base.Bool) e.2 n v)
    use-there (if_expr c x y) scope t e n u =
        in-part (uses_of c ++ uses_of x) (uses_of y) n u
        (λ n v. in-part (uses_of c) (uses_of x) n v (λ n v. use-there c scope (Plain base.Bool) e.0 n v) (λ n v. use-there x scope t e.1 n v))
        (λ n v. use-there y scope t e.2 n v)
    use-there (match_expr x y name z) scope t e n u =
        in-part (uses_of x ++ uses_of y) (uses_of z) n u
        (λ n v. in-part (uses_of x) (uses_of y) n v (λ n v. use-there x scope (Opt e.0) e.1 n v) (λ n v. use-there y scope t e.2 n v))
        (λ n v. use-there z (scope ++ Plain e.0 ∷ []) t e.3 n v)

    set-use-there : (x : SetExpr) (scope : Scope) (w : Content) → IsSet s scope w x → (n : ℕ) → slice_get (set_uses_of x) n ≡ Some used → IsThere
    set-use-there everyone scope w e n u = cc
    set-use-there nobody scope w e n u = cc
    set-use-there (listed items) scope w e n u = items-use-there items scope w e n u
    set-use-there (union x y) scope w e n u =
        in-part (set_uses_of x) (set_uses_of y) n u (λ n v. set-use-there x scope w e.0 n v) (λ n v. set-use-there y scope w e.1 n v)
    set-use-there (minus x y) scope w e n u =
        in-part (set_uses_of x) (set_uses_of y) n u (λ n v. set-use-there x scope w e.0 n v) (λ n v. set-use-there y scope w e.1 n v)
    set-use-there (find m filters) scope w e n u = filters-use-there filters scope m e.1 e.2 n u
    set-use-there (path m x) scope w e n u = use-there x scope (Set m) e.1 n u
    set-use-there (mapped set k name m x) scope w e n u =
        in-part (set_uses_of set) (uses_of x) n u (λ n v. set-use-there set scope (records k) e.2 n v) (λ n v. use-there x (scope ++ Plain (base.Id k) ∷ []) (Plain (base.Id m)) e.3 n v)
    set-use-there (flat_mapped set k name body) scope w e n u =
        in-part (set_uses_of set) (set_uses_of body) n u (λ n v. set-use-there set scope (records k) e.1 n v) (λ n v. set-use-there body (scope ++ Plain (base.Id k) ∷ []) w e.2 n v)
    set-use-there (if_set c x y) scope w e n u =
        in-part (uses_of c ++ set_uses_of x) (set_uses_of y) n u
        (λ n v. in-part (uses_of c) (set_uses_of x) n v (λ n v. use-there c scope (Plain base.Bool) e.0 n v) (λ n v. set-use-there x scope w e.1 n v))
        (λ n v. set-use-there y scope w e.2 n v)
    set-use-there (match_set x y name z) scope w e n u =
        in-part (uses_of x ++ set_uses_of y) (set_uses_of z) n u
        (λ n v. in-part (uses_of x) (set_uses_of y) n v (λ n v. use-there x scope (Opt e.0) e.1 n v) (λ n v. set-use-there y scope w e.2 n v))
        (λ n v. set-use-there z (scope ++ Plain e.0 ∷ []) w e.3 n v)

    items-use-there : (x : Items) (scope : Scope) (w : Content) → AreItems s scope w x → (n : ℕ) → slice_get (item_uses_of x) n ≡ Some used → IsThere
    items-use-there no_items scope w e n u = cc
    items-use-there (static_item k items) scope w e n u = items-use-there items scope w e.2 n u
    items-use-there (record_item m x items) scope w e n u =
        in-part (uses_of x) (item_uses_of items) n u (λ n v. use-there x scope (Plain (base.Id m)) e.1 n v) (λ n v. items-use-there items scope w e.2 n v)

    filters-use-there : (x : Filters) (scope : Scope) (m : ℕ) → HasModel s m → AreFilters s scope m x → (n : ℕ) → slice_get (filter_uses_of m x) n ≡ Some used → IsThere
    filters-use-there no_filters scope m there e n u = cc
    filters-use-there (filter_and f op x filters) scope m there e n u =
        in-part (uses_of x) ((record { model = m; field = f }) ∷ filter_uses_of m filters) n u (λ n v. use-there x scope e.0.1 e.0.4 n v)
        (λ n v. in-part ((record { model = m; field = f }) ∷ []) (filter_uses_of m filters) n v (λ n v. own-use m f n there v) (λ n v. filters-use-there filters scope m there e.1 n v))

  init-use-there : (m : ℕ) (t : TTy) (init : Init) → IsInit s m t init → (n : ℕ) → slice_get (init_uses_of init) n ≡ Some used → IsThere
  init-use-there m t (plain x) is n u = use-there x (Plain (base.Id m) ∷ []) t is.1 n u
  init-use-there m t (of_set k set) is n u = set-use-there set (Plain (base.Id m) ∷ []) (records k) is.1 n u

-- ---- the law

module _ (t : Script) (is : IsScript t) (g : Signature) (of : IsSignatureOf t.start g) where
  flow-over : (duty : Duty) (spot m0 : ℕ) (f : FieldInfo) (init : Init) (at : Use) → IsFlowDuty t duty spot m0 f init at → IsOver g [] (flow_formula_of t duty spot)
  flow-over duty spot m0 f init at h =
      let k : ℕ = duty.command in
      let target : Target = duty.target in
      let m : ℕ = model_of_target target in
      let same_model : m ≡ m0 = ap model_of_target h.target in
      let low = slice_get_within t.commands (k - 1) (add_field m0 f init) h.adds.command in
      let high : k ≤ count t = omega (arith, low, h.adds.counted) in
      let early : k - 1 ≤ count t = omega (arith, low) in
      let asks : HasModel (schema_at t (k - 1)) m0 × (f.number ≡ (schema_at t (k - 1)).next_field) × IsInit (schema_at t (k - 1)) m0 f.ty init
      = is.commands (k - 1) (add_field m0 f init) h.adds.command in
      let number : suc (k - 1) ≡ k = omega (arith, h.adds.counted) in
      let added : schema_at t k ≡ schema_after (schema_at t (k - 1)) (add_field m0 f init) = ap (schema_at t) (sym number) ∙ is.steps (k - 1) (add_field m0 f init) h.adds.command in
      let now = speaks-at t is g of k high in
      let speaks : Speaks t.start (schema_at t (k - 1)) (written_at t k) g
      = speaks-less t is g of (schema_at t k) (schema_at t (k - 1)) (written_at t k) now
      (λ n x ty e. ap (λ (s : Schema). type_of s n x) added ∙ type-stays (schema_at t (k - 1)) m0 f init n x ty e)
      (λ n e. ap (λ (s : Schema). is_some (model_of s n)) added ∙ model-stays (schema_at t (k - 1)) m0 f init n e) in
      let there : HasModel t.start m = subst (λ (n : ℕ). HasModel t.start n) (sym same_model) (model-of-start t is (k - 1) early m0 asks.0) in
      let source : HasModel t.start at.model = model-of-start t is (k - 1) early at.model (init-use-there (schema_at t (k - 1)) at m0 f.ty init asks.2 (spot - 1) h.used) in
      let r : Term = bound (sort_of t.start m) 0 in
      let body : Who → Term → ℕ → Formula = λ q y above.
      tree.both (has_right t k target Read r q true above)
      (tree.both (init_reach t.start (written_at t k) y init r (spot - 1) above) (has_right t k (on.Field at.model at.field) Read y q false above)) in
      let the_formula : flow_formula_of t duty spot ≡ leak_formula t duty init (spot - 1) at
      = ap (λ o. option_map_or (added_formula t duty spot) o tree.no) h.adds.command ∙ ap (λ o. option_map_or (leak_formula t duty init (spot - 1)) o tree.no) h.used in
      subst (λ (x : Formula). IsOver g [] x) (sym the_formula)
      (some-over t is g of m there [] (λ r. for_some_principal t duty.kind 1 (λ q above. for_some t at.model above (λ y.
      tree.both (has_right t k target Read r q true (above + 1))
      (tree.both (init_reach t.start (written_at t k) y init r (spot - 1) (above + 1)) (has_right t k (on.Field at.model at.field) Read y q false (above + 1))))))
      (λ it. principal-over t is g of k duty.kind h.kind (sort_of t.start m ∷ []) (λ q above. for_some t at.model above (λ y. body q y (above + 1)))
      (λ w zs more its.
      some-over t is g of at.model source zs (λ y. body w y (length zs + 1))
      (λ here.
      let ws : List ℕ = zs ++ sort_of t.start at.model ∷ [] in
      let y : Term = bound (sort_of t.start at.model) (length zs) in
      let longer : length ws ≡ length zs + 1 = omega (arith, length-append zs (sort_of t.start at.model ∷ [])) in
      let next : IsPrefix zs ws = prefix-more zs (sort_of t.start at.model) in
      let row : HasTerm t.start g ws (base.Id m) r = λ vs q. it vs (prefix-along (sort_of t.start m ∷ []) zs vs more (prefix-along zs ws vs next q)) in
      let row0 : HasTerm t.start g ws (base.Id m0) r = subst (λ (n : ℕ). HasTerm t.start g ws (base.Id n) r) same_model row in
      let who : OverWho t.start g ws w = overwho-more t.start g zs ws w next its in
      subst (λ (n : ℕ). IsOver g ws (body w y n)) longer (
        right-over t is g of k high target Read ws r row w who true,
        (
          init-reach-over t.start (schema_at t (k - 1)) (written_at t k) g speaks at y m0 f.ty init asks.2 ws r row0 here (spot - 1) h.used,
          right-over t is g of k high (on.Field at.model at.field) Read ws y here w who false,
        ),
      )))))

  formula-over : (duty : Duty) → IsObligation t duty → IsOver g [] (formula_of t duty)
  formula-over duty h =
      elim duty.spot as (λ (o : Option ℕ). MatchOption o (IsGainDuty t duty) (IsUseDuty t duty) → IsOver g [] (option_map_or (flow_formula_of t duty) o (gain_formula_of t duty))) [
        | None ↦ λ e. gain-over t is g of duty e
        | Some spot ↦ λ e. flow-over duty spot e.model e.field e.init e.at e.flow
      ] h

pub over_and_closed : FormulasAreOver
over_and_closed t is g of duty member =
    let one = formula-over t is g of duty (from-list t is duty member) in
    (one, closed g (formula_of t duty) [] one)
