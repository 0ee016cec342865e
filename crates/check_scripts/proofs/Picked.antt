-- The witness of the elements at which a structure satisfies the formula of an obligation.
use Rattle.std.proofs.Common.{◌≡◌, ℕ, zero, suc, ◌+◌, ◌-◌, ◌<◌, true, false, List, [], ◌∷◌, refl, ap, sym, ◌∙◌, subst, arith}
use Rattle.std.specs.Prelude.{Option, Some, None, slice_get, option_and_then, Contains, MatchOption, map}
use Rattle.std.specs.List.{range_with_len}
use Rattle.std.specs.Option.{option_map, option_map_or}
use Rattle.type_schema.specs.declared.rights.Kind.{Kind}
use Rattle.type_schema.specs.declared.rights.Kind.TheVariants as kind
use Rattle.type_schema.specs.declared.rights.Right.TheVariants.{Read}
use Rattle.type_schema.specs.declared.rights.Target.TheVariants as on
use Rattle.type_schema.specs.Trees.{Init}
use Rattle.type_schema.specs.Proper.{model_numbers}
use Rattle.type_schema.specs.Schema.{FieldInfo, ModelInfo, Schema, model_of_target}
use Rattle.type_schema.specs.Uses.{Use}
use Rattle.type_schema.specs.Script.{Script, IsScript}
use Rattle.type_schema.specs.Kinds.{is_kind_at}
use Rattle.data_meaning.specs.Database.{Table, Database, ids_of, IsInOrder}
use Rattle.data_meaning.specs.declared.cells.Cell.{Cell}
use Rattle.data_meaning.specs.Run.{run_to}
use Rattle.data_meaning.specs.Gain.{IsStart, kind_of, GainAt, FlowAt}
use Rattle.form_formula.specs.declared.structure.Signature.{Signature}
use Rattle.form_formula.specs.declared.structure.Structure.{Structure}
use Rattle.form_formula.specs.NormalForm.{signed_form, normal_form}
use Rattle.form_formula.specs.Trees.{Term, Formula, bound, both, exists}
use Rattle.form_formula.specs.Truth.{truth, size_of}
use Rattle.form_formula.proofs.NormalForms.{truth-signed_form}
use Rattle.form_terms.specs.Satisfying.{SatisfiesWith}
use Rattle.duty_meaning.specs.declared.duty.Duty.{Duty}
use Rattle.duty_meaning.specs.Structures.{sort_of, structure_of}
use Rattle.duty_meaning.specs.Formulas.{Who, static, record_at}
use Rattle.duty_meaning.specs.Duties.{written_at, has_right, for_some, for_some_principal, init_in, obligations_of, formula_of, gain_formula_of, flow_formula_of}
use Rattle.duty_meaning.specs.Reach.{init_reach}
use Rattle.duty_meaning.specs.Reads.{init_read_by}
use Rattle.duty_meaning.specs.Gains.{IsGainDuty}
use Rattle.duty_meaning.specs.Flows.{cell_of, IsFlowDuty}
use Rattle.duty_meaning.specs.Over.{IsSignatureOf}
use Rattle.duty_meaning.proofs.Gains.{static-gains, record-gains}
use Rattle.duty_meaning.proofs.Flows.{the-formula, static-leaks, record-leaks}
use Rattle.duty_meaning.specs.Listed.{IsUseDuty}
use Rattle.duty_meaning.proofs.Listed.{obligations-listed}
use Rattle.check_witness.specs.Back.{HasIds, IsBuildable}
use Rattle.check_witness.specs.Built.{built, built_table}
use Rattle.check_witness.proofs.Databases.{start}
use Rattle.check_witness.proofs.Looked.{ids-built}
use Rattle.check_witness.proofs.Scripts.{buildable}
use Rattle.check_witness.proofs.Structures.{sizes, tell-the-truth}
use Rattle.check_scripts.specs.FailsBy.{IsGainOf, IsLeakOf, FailsBy}
use Rattle.check_scripts.specs.Picked.{id_at, who_of, source_place, use_in, use_of, leaking_cell, picked_witness, PickedWitnessesFail}

range-get : (n a x : ℕ) → x < n → slice_get (range_with_len a n) x ≡ Some (a + x)
range-get zero a x less = absurd (omega (arith, less))
range-get (suc n) a zero less = let same : a ≡ a + 0 = omega arith in ap (λ i. Some i) same
range-get (suc n) a (suc x) less =
    let same : (a + 1) + x ≡ a + suc x = omega arith in
    range-get n (a + 1) x (omega (arith, less)) ∙ ap (λ i. Some i) same

module _ (t : Script) (is : IsScript t) (g : Signature) (of_start : IsSignatureOf t.start g) (st : Structure) (fits : IsBuildable t.start g st) (has : HasIds st) where
  abbrev d : Database
  d = built t.start st

  on-start : IsStart t d
  on-start = (start t.start g st fits has).2 t refl

  -- the id of an element
  got : (m x : ℕ) → x < size_of st (sort_of t.start m) → slice_get (ids_of d m) x ≡ Some (suc x)
  got m x less =
      ap (λ l. slice_get l x) (ids-built t.start st (sizes t.start g st fits) m)
      ∙ range-get (size_of st (sort_of t.start m)) 1 x less
      ∙ ap (λ i. Some i) (let same : 1 + x ≡ suc x = omega arith in same)

  -- what the normal form is true of is true on the database
  on-database : (xs : List ℕ) (f : Formula) → truth st xs (signed_form true f) ≡ true → truth (structure_of t.start d) xs f ≡ true
  on-database xs f h = tell-the-truth t.start g st fits xs f ∙ sym (truth-signed_form st true xs f) ∙ h

  -- ---- gains

  module _ (duty : Duty) (of : IsGainDuty t duty) where
    abbrev m : ℕ
    m = model_of_target duty.target

    abbrev gain_body : Who → ℕ → Formula
    gain_body q above =
        both (has_right t duty.command duty.target duty.right (bound (sort_of t.start m) 0) q true above)
        (has_right t (duty.command - 1) duty.target duty.right (bound (sort_of t.start m) 0) q false above)

    gain-at : (a : Kind) → duty.kind ≡ a → (picks : List ℕ)
        → SatisfiesWith g (normal_form (exists (sort_of t.start m) (for_some_principal t a 1 gain_body))) st picks
        → (kind_of (who_of a picks) ≡ a) × GainAt t duty.command duty.target duty.right d (id_at picks 0) (who_of a picks)
    gain-at (kind.Static n) e [] h = absurd h.elements
    gain-at (kind.Static n) e (x ∷ []) h =
        let of_kind : is_kind_at t duty.command (kind.Static n) ≡ true = subst (λ (a : Kind). is_kind_at t duty.command a ≡ true) e of.kind in
        (refl, static-gains t is duty of d on-start n of_kind x (suc x) (got m x h.elements.0) (on-database (x ∷ []) (gain_body (static n) 1) h.true_there))
    gain-at (kind.Static n) e (x ∷ y ∷ picks) h = absurd h.elements.1
    gain-at (kind.Model n) e [] h = absurd h.elements
    gain-at (kind.Model n) e (x ∷ []) h = absurd h.elements.1
    gain-at (kind.Model n) e (x ∷ y ∷ []) h =
        let of_kind : is_kind_at t duty.command (kind.Model n) ≡ true = subst (λ (a : Kind). is_kind_at t duty.command a ≡ true) e of.kind in
        let body : Formula = gain_body (record_at n (bound (sort_of t.start n) 1)) 2 in (
          refl,
          record-gains t is duty of d on-start n of_kind x (suc x) (got m x h.elements.0) y (suc y) (got n y h.elements.1.0)
              (on-database (x ∷ y ∷ []) body h.true_there),
        )
    gain-at (kind.Model n) e (x ∷ y ∷ z ∷ picks) h = absurd h.elements.1.1

    gains-by : (picks : List ℕ) → SatisfiesWith g (normal_form (gain_formula_of t duty)) st picks
        → (kind_of (who_of duty.kind picks) ≡ duty.kind) × GainAt t duty.command duty.target duty.right d (id_at picks 0) (who_of duty.kind picks)
    gains-by picks h = gain-at duty.kind refl picks h

  -- ---- leaks

  module _ (duty : Duty) (spot mo : ℕ) (f : FieldInfo) (init : Init) (at : Use) (of : IsFlowDuty t duty spot mo f init at) where
    abbrev mt : ℕ
    mt = model_of_target duty.target

    abbrev leak_body : Who → Term → ℕ → Formula
    leak_body w y above =
        both (has_right t duty.command duty.target Read (bound (sort_of t.start mt) 0) w true above)
        (both (init_reach t.start (written_at t duty.command) y init (bound (sort_of t.start mt) 0) (spot - 1) above)
        (has_right t duty.command (on.Field at.model at.field) Read y w false above))

    abbrev Leaks : Kind → List ℕ → Type 0
    Leaks a picks =
        (kind_of (who_of a picks) ≡ a)
        × FlowAt t duty.command d (id_at picks 0) (who_of a picks) (cell_of at (id_at picks (source_place a)))
        × Contains (init_read_by (run_to t duty.command d) init (id_at picks 0) (spot - 1)) (cell_of at (id_at picks (source_place a)))

    leak-at : (a : Kind) → duty.kind ≡ a → (picks : List ℕ)
        → SatisfiesWith g (normal_form (exists (sort_of t.start mt) (for_some_principal t a 1 (λ w above. for_some t at.model above (λ y. leak_body w y (above + 1)))))) st picks
        → Leaks a picks
    leak-at (kind.Static n) e [] h = absurd h.elements
    leak-at (kind.Static n) e (x ∷ []) h = absurd h.elements.1
    leak-at (kind.Static n) e (x ∷ z ∷ []) h =
        let of_kind : is_kind_at t duty.command (kind.Static n) ≡ true = subst (λ (a : Kind). is_kind_at t duty.command a ≡ true) e of.kind in
        let leak =
        static-leaks t is duty spot mo f init at of d on-start n of_kind x (suc x) (got mt x h.elements.0) z (suc z) (got at.model z h.elements.1.0)
        (on-database (x ∷ z ∷ []) (leak_body (static n) (bound (sort_of t.start at.model) 1) 2) h.true_there) in
        (refl, leak.0, leak.1)
    leak-at (kind.Static n) e (x ∷ z ∷ v ∷ picks) h = absurd h.elements.1.1
    leak-at (kind.Model n) e [] h = absurd h.elements
    leak-at (kind.Model n) e (x ∷ []) h = absurd h.elements.1
    leak-at (kind.Model n) e (x ∷ y ∷ []) h = absurd h.elements.1.1
    leak-at (kind.Model n) e (x ∷ y ∷ z ∷ []) h =
        let of_kind : is_kind_at t duty.command (kind.Model n) ≡ true = subst (λ (a : Kind). is_kind_at t duty.command a ≡ true) e of.kind in
        let body : Formula = leak_body (record_at n (bound (sort_of t.start n) 1)) (bound (sort_of t.start at.model) 2) 3 in
        let leak =
        record-leaks t is duty spot mo f init at of d on-start n of_kind x (suc x) (got mt x h.elements.0) y (suc y) (got n y h.elements.1.0)
        z (suc z) (got at.model z h.elements.1.1.0) (on-database (x ∷ y ∷ z ∷ []) body h.true_there) in
        (refl, leak.0, leak.1)
    leak-at (kind.Model n) e (x ∷ y ∷ z ∷ v ∷ picks) h = absurd h.elements.1.1.1

    used : use_of t duty spot ≡ Some at
    used = ap (λ o. option_and_then (λ i. use_in i spot) (option_and_then (init_in t) o)) of.adds.command ∙ of.used

    leaks-by : (picks : List ℕ) → SatisfiesWith g (normal_form (flow_formula_of t duty spot)) st picks → Leaks duty.kind picks
    leaks-by picks h =
        leak-at duty.kind refl picks
        (subst (λ (a : Formula). SatisfiesWith g (normal_form a) st picks) (the-formula t is duty spot mo f init at of d on-start) h)

    cell-is : (picks : List ℕ) → leaking_cell t duty picks spot ≡ Some (cell_of at (id_at picks (source_place duty.kind)))
    cell-is picks = ap (option_map (λ u. cell_of u (id_at picks (source_place duty.kind)))) used

  -- ---- both

  fails-by : (duty : Duty) (picks : List ℕ) (spot : Option ℕ) → duty.spot ≡ spot → MatchOption spot (IsGainDuty t duty) (IsUseDuty t duty)
      → SatisfiesWith g (normal_form (option_map_or (flow_formula_of t duty) spot (gain_formula_of t duty))) st picks
      → (cell : Option Cell) → cell ≡ option_and_then (leaking_cell t duty picks) spot
      → MatchOption spot
      (IsGainOf t duty (record { command = duty.command; target = duty.target; right = duty.right; base = d; row = id_at picks 0; who = who_of duty.kind picks; cell = cell }))
      (IsLeakOf t duty (record { command = duty.command; target = duty.target; right = duty.right; base = d; row = id_at picks 0; who = who_of duty.kind picks; cell = cell }))
  fails-by duty picks None e of h cell is_cell =
      let gained = gains-by duty of picks h in
      record { kind = gained.0; gain = gained.1; no_cell = is_cell }
  fails-by duty picks (Some spot) e of h cell is_cell =
      let leak = leaks-by duty spot of.model of.field of.init of.at of.flow picks h in
      record {
        model = of.model;
        field = of.field;
        init = of.init;
        at = of.at;
        source = id_at picks (source_place duty.kind);
        duty_is = of.flow;
        kind = leak.0;
        cell = is_cell ∙ cell-is duty spot of.model of.field of.init of.at of.flow picks;
        flow = leak.1;
        reads = leak.2;
      }

  by-picks : (duty : Duty) → Contains (obligations_of t) duty → (picks : List ℕ) → SatisfiesWith g (normal_form (formula_of t duty)) st picks
      → FailsBy t duty (picked_witness t duty st picks)
  by-picks duty listed picks h = record {
    command = refl;
    target = refl;
    right = refl;
    fails = fails-by duty picks duty.spot refl ((obligations-listed t is duty).0 listed) h (option_and_then (leaking_cell t duty picks) duty.spot) refl;
  }

pub picked : PickedWitnessesFail
picked t is g of_start duty listed st picks has h = by-picks t is g of_start st (buildable t is g of_start st h.structure) has duty listed picks h

-- ---- tables

tables : (s : Schema) (st : Structure) (models : List ModelInfo) → map (λ (table : Table). table.model) (map (built_table s st) models) ≡ model_numbers models
tables s st [] = refl
tables s st (m ∷ models) = ap (λ ns. m.number ∷ ns) (tables s st models)

-- the tables of the database of a structure are those of the models in their order
pub picked-in-order : (t : Script) (duty : Duty) (st : Structure) (picks : List ℕ) → IsInOrder t.start (picked_witness t duty st picks).base
picked-in-order t duty st picks = tables t.start st t.start.models
