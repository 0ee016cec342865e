-- The formulas of obligations are small.
use Rattle.std.proofs.Common.{◌≡◌, ℕ, zero, suc, ◌+◌, ◌-◌, ◌*◌, ◌<◌, ◌≤◌, Bool, true, false, not, List, [], ◌∷◌, ◌++◌, length, max, min, sum, refl, ap, sym, ◌∙◌, subst, arith}
use Rattle.std.specs.Prelude.{Option, Some, None, map, fold, MatchOption}
use Rattle.std.specs.List.{AllByRecursion, range_with_len}
use Rattle.std.specs.Option.{option_map_or}
use Rattle.std.proofs.lemmas.Option.{slice_get_within}
use Rattle.type_schema.specs.declared.rights.Kind.{Kind}
use Rattle.type_schema.specs.declared.rights.Kind.TheVariants as kind
use Rattle.type_schema.specs.declared.rights.Right.{Right}
use Rattle.type_schema.specs.declared.rights.Right.TheVariants.{Read}
use Rattle.type_schema.specs.declared.rights.Target.{Target}
use Rattle.type_schema.specs.declared.rights.Target.TheVariants as on
use Rattle.type_schema.specs.Trees.{Policy, Init}
use Rattle.type_schema.specs.Schema.{FieldInfo, Added, Schema, model_of_target}
use Rattle.type_schema.specs.Commands.{Command, add_field}
use Rattle.type_schema.specs.Uses.{init_uses_of}
use Rattle.type_schema.specs.Script.{Script, schema_at, command_at, count, IsScript}
use Rattle.data_meaning.specs.Gain.{updates, policy_at}
use Rattle.form_formula.specs.Trees.{Term, bound, Formula, no, both}
use Rattle.duty_meaning.specs.declared.duty.Duty.{Duty}
use Rattle.duty_meaning.specs.Structures.{sort_of}
use Rattle.duty_meaning.specs.Cases.{constant}
use Rattle.duty_meaning.specs.Formulas.{Who, static, record_at, of_each_kind, written_out, is_allowed}
use Rattle.duty_meaning.specs.Reach.{init_reach}
use Rattle.duty_meaning.specs.Duties.{written_at, has_right, for_some, for_some_principal, gain_formula_of, leak_formula, added_formula, flow_formula_of, formula_of}
use Rattle.duty_meaning.specs.Gains.{IsGainDuty}
use Rattle.duty_meaning.specs.Listed.{IsUseDuty, IsObligation}
use Rattle.duty_meaning.specs.Sizes.{term_size, size, row, other, policy_size_over, init_size_over, largest_size}
use Rattle.duty_meaning.proofs.Listed.{from-list}
use Rattle.type_proper.proofs.Lists.{all-back}
use Rattle.type_scripts.specs.Asked.{IsOne, policy_uses_of}
use Rattle.type_scripts.specs.Small.{CommandIsBounded, IsBounded, FormulasAreSmall}
use Rattle.type_scripts.proofs.Within.{constant-less}
use Rattle.type_scripts.proofs.WithinSets.{allowed-less, init_reach-less}
use Rattle.type_scripts.proofs.SmallCounted.{one-who}
use Rattle.type_scripts.proofs.Along.{IsGood, good-reads, good-there, uses-within}
use Rattle.type_scripts.proofs.InForce.{WasCounted, in-force}

-- a size below the number at which sizes stay
uncapped : (x y most cap : ℕ) → min (max x y) cap ≤ most → most < cap → x ≤ most
uncapped x y most cap h less = omega (arith, h, less)

sum-from : (a : ℕ) (xs : List ℕ) → fold (λ x y. x + y) a xs ≡ a + sum xs
sum-from a [] = omega arith
sum-from a (x ∷ xs) =
    let one = sum-from (a + x) xs in
    let two = sum-from (0 + x) xs in
    omega (arith, one, two)

-- one of several is within their sum
in-sum : (F : ℕ → ℕ) (first n i : ℕ) → i < n → F (first + i) ≤ sum (map F (range_with_len first n))
in-sum F first zero i less = absurd (omega (arith, less))
in-sum F first (suc n) zero less =
    let plus : (0 + F first) + sum (map F (range_with_len (first + 1) n)) ≡ F first + sum (map F (range_with_len (first + 1) n)) = omega arith in
    let whole : sum (map F (range_with_len first (suc n))) ≡ F first + sum (map F (range_with_len (first + 1) n)) = sum-from (0 + F first) (map F (range_with_len (first + 1) n)) ∙ plus in
    let same : first + 0 ≡ first = omega arith in
    let least : F first ≤ sum (map F (range_with_len first (suc n))) = omega (arith, whole) in
    subst (λ (x : ℕ). F x ≤ sum (map F (range_with_len first (suc n)))) (sym same) least
in-sum F first (suc n) (suc i) less =
    let plus : (0 + F first) + sum (map F (range_with_len (first + 1) n)) ≡ F first + sum (map F (range_with_len (first + 1) n)) = omega arith in
    let whole : sum (map F (range_with_len first (suc n))) ≡ F first + sum (map F (range_with_len (first + 1) n)) = sum-from (0 + F first) (map F (range_with_len (first + 1) n)) ∙ plus in
    let same : first + suc i ≡ (first + 1) + i = omega arith in
    let rest = in-sum F (first + 1) n i (omega (arith, less)) in
    let least : F ((first + 1) + i) ≤ sum (map F (range_with_len first (suc n))) = omega (arith, whole, rest) in
    subst (λ (x : ℕ). F x ≤ sum (map F (range_with_len first (suc n)))) (sym same) least

-- for some principal of a kind
principal-small : (t : Script) (a : Kind) (above n : ℕ) (k : Who → ℕ → Formula) → ((q : Who) (above : ℕ) → IsOne q → size (k q above) ≤ n)
    → size (for_some_principal t a above k) ≤ 1 + n
principal-small t (kind.Static i) above n k each = let one = each (static i) above tt in omega (arith, one)
principal-small t (kind.Model m) above n k each = let one = each (record_at m (bound (sort_of t.start m) above)) (above + 1) refl in omega (arith, one)

module _ (t : Script) (is : IsScript t) (most : ℕ) (some : 1 ≤ most) (few : most < largest_size) (small : IsBounded most t) where
  -- ---- rights

  right-small : (k : ℕ) → k ≤ count t → (target : Target) (right : Right) (r : Term) (q : Who) → term_size r ≡ 1 → IsOne q → (sign : Bool) (above : ℕ)
      → size (has_right t k target right r q sign above) ≤ most
  right-small k within target right r q one who sign above =
      elim (policy_at t k target right) as (λ (o : Option Policy). policy_at t k target right ≡ o
      → size (option_map_or (λ policy. is_allowed t.start (written_at t k) policy r q sign above) o (constant (not sign))) ≤ most) [
        | None ↦ λ here. let least = constant-less (not sign) no in omega (arith, least, some)
        | Some p ↦ λ here. counted-small p (in-force t is most small k within target right p here)
      ] refl
    where
      counted-small : (p : Policy) → WasCounted t is most small k p → size (is_allowed t.start (written_at t k) p r q sign above) ≤ most
      counted-small p was =
          let j : ℕ = was.at in
          let early = was.early in
          let back : j + (k - j) ≡ k = omega (arith, early) in
          let at : j ≤ count t = omega (arith, early, within) in
          let later : j + (k - j) ≤ count t = omega (arith, early, within) in
          let s : Schema = schema_at t j in
          let uses = uses-within t is j at (k - j) later (policy_uses_of p) (good-there t is j at (policy_uses_of p) was.uses) in
          let less = allowed-less t.start s (written_out t.start (schema_at t (j + (k - j))).added) (written_out s s.added) p uses r row (omega (arith, one)) q (of_each_kind other) (one-who q who)
          sign above true 2 in
          let size-at : size (is_allowed t.start (written_at t k) p r q sign above) ≤ policy_size_over s (written_out s s.added) p
          = subst (λ (n : ℕ). size (is_allowed t.start (written_at t n) p r q sign above) ≤ policy_size_over s (written_out s s.added) p) back less in
          let bound-at = uncapped _ _ most largest_size was.within few in
          omega (arith, size-at, bound-at)

  -- ---- gains

  gain-small : (duty : Duty) → IsGainDuty t duty → size (gain_formula_of t duty) ≤ 3 + 2 * most
  gain-small duty of =
      let within = below duty of in
      let r : Term = bound (sort_of t.start (model_of_target duty.target)) 0 in
      let pair = principal-small t duty.kind 1 (1 + 2 * most)
      (λ q above. both (has_right t duty.command duty.target duty.right r q true above) (has_right t (duty.command - 1) duty.target duty.right r q false above))
      (λ q above who.
      let after = right-small duty.command within duty.target duty.right r q refl who true above in
      let before = right-small (duty.command - 1) (omega (arith, within)) duty.target duty.right r q refl who false above in
      omega (arith, after, before)) in
      omega (arith, pair)
    where
      below : (duty : Duty) → IsGainDuty t duty → duty.command ≤ count t
      below duty of =
          elim (command_at t (duty.command - 1)) as (λ (o : Option Command). command_at t (duty.command - 1) ≡ o
          → option_map_or (updates duty.target duty.right) o false ≡ true → duty.command ≤ count t) [
            | None ↦ λ here e. cc
            | Some c ↦ λ here e. let less = slice_get_within t.commands (duty.command - 1) c here in let counted = of.counted in omega (arith, less, counted)
          ] refl of.updated

  -- ---- leaks

  -- what a use of the initialiser of the field that a command adds reads
  reach-small : (k m : ℕ) (f : FieldInfo) (init : Init) → command_at t k ≡ Some (add_field m f init) → (i : ℕ) → i < length (init_uses_of init) → (y r : Term) → term_size y ≡ 1 → term_size r ≡ 1
      → (above : ℕ) → size (init_reach t.start (written_at t (suc k)) y init r i above) ≤ most
  reach-small k m f init here i less y r one two above =
      let below = slice_get_within t.commands k (add_field m f init) here in
      let j : ℕ = suc k in
      let at : j ≤ count t = omega (arith, below) in
      let s : Schema = schema_at t j in
      let a : Added = record { model = m; field = f.number; init = init } in
      let Good : Added → Type 0 = λ a. AllByRecursion (IsGood t is j at) (init_uses_of a.init) in
      let reads : AllByRecursion Good ((schema_at t k).added ++ a ∷ []) = subst (λ (u : Schema). AllByRecursion Good u.added) (is.steps k (add_field m f init) here) (good-reads t is j at) in
      let own : AllByRecursion (IsGood t is j at) (init_uses_of init) = (all-back Good (schema_at t k).added (a ∷ []) reads).0 in
      let same : j + 0 ≡ j = omega arith in
      let uses = uses-within t is j at 0 (omega (arith, at)) (init_uses_of init) own in
      let less-at = init_reach-less t.start s (written_out t.start (schema_at t (j + 0)).added) (written_out s s.added) y other (omega (arith, one)) init uses r row (omega (arith, two)) i above 2 in
      let reach-at : size (init_reach t.start (written_at t j) y init r i above) ≤ size (init_reach s (written_out s s.added) other init row i 2)
      = subst (λ (n : ℕ). size (init_reach t.start (written_at t n) y init r i above) ≤ size (init_reach s (written_out s s.added) other init row i 2)) same less-at in
      let F : ℕ → ℕ = λ number. size (init_reach s (written_out s s.added) other init row number 2) in
      let zero-at : 0 + i ≡ i = omega arith in
      let summed : F i ≤ sum (map F (range_with_len 0 (length (init_uses_of init)))) = subst (λ (n : ℕ). F n ≤ sum (map F (range_with_len 0 (length (init_uses_of init))))) zero-at (in-sum F 0 (length (init_uses_of init)) i less) in
      let command : CommandIsBounded most s (add_field m f init) = small.commands k (add_field m f init) here in
      let whole : init_size_over s (written_out s s.added) f.ty init ≤ most = uncapped _ _ most largest_size command.1 few in
      omega (arith, reach-at, summed, whole)

  flow-small : (duty : Duty) (spot : ℕ) → IsUseDuty t duty spot → size (flow_formula_of t duty spot) ≤ 5 + 3 * most
  flow-small duty spot of =
      let k : ℕ = duty.command - 1 in
      let low = of.flow.adds.counted in
      let next : suc k ≡ duty.command = omega (arith, low) in
      let below = slice_get_within t.commands k (add_field of.model of.field of.init) of.flow.adds.command in
      let within : duty.command ≤ count t = omega (arith, below, low) in
      let spot-below = slice_get_within (init_uses_of of.init) (spot - 1) of.at of.flow.used in
      let is_leak : flow_formula_of t duty spot ≡ leak_formula t duty of.init (spot - 1) of.at
      = ap (λ o. option_map_or (added_formula t duty spot) o no) of.flow.adds.command ∙ ap (λ o. option_map_or (leak_formula t duty of.init (spot - 1)) o no) of.flow.used in
      let r : Term = bound (sort_of t.start (model_of_target duty.target)) 0 in
      let pair = principal-small t duty.kind 1 (3 + 3 * most)
      (λ q above. for_some t of.at.model above (λ y.
      both (has_right t duty.command duty.target Read r q true (above + 1))
      (both (init_reach t.start (written_at t duty.command) y of.init r (spot - 1) (above + 1))
      (has_right t duty.command (on.Field of.at.model of.at.field) Read y q false (above + 1)))))
      (λ q above who.
      let y : Term = bound (sort_of t.start of.at.model) above in
      let reads = right-small duty.command within duty.target Read r q refl who true (above + 1) in
      let reached = subst (λ (n : ℕ). size (init_reach t.start (written_at t n) y of.init r (spot - 1) (above + 1)) ≤ most) next
      (reach-small k of.model of.field of.init of.flow.adds.command (spot - 1) spot-below y r refl refl (above + 1)) in
      let denied = right-small duty.command within (on.Field of.at.model of.at.field) Read y q refl who false (above + 1) in
      omega (arith, reads, reached, denied)) in
      let leak : size (leak_formula t duty of.init (spot - 1) of.at) ≤ 5 + 3 * most = omega (arith, pair) in
      subst (λ (a : Formula). size a ≤ 5 + 3 * most) (sym is_leak) leak

  -- ---- each obligation

  obligation-small : (duty : Duty) → IsObligation t duty → size (formula_of t duty) ≤ 5 + 3 * most
  obligation-small duty of =
      elim duty.spot as (λ (o : Option ℕ). MatchOption o (IsGainDuty t duty) (IsUseDuty t duty) → size (option_map_or (flow_formula_of t duty) o (gain_formula_of t duty)) ≤ 5 + 3 * most) [
        | None ↦ λ gain. let one = gain-small duty gain in omega (arith, one)
        | Some spot ↦ λ flow. flow-small duty spot flow
      ] of

pub formulas_are_small : FormulasAreSmall
formulas_are_small t most is some few small duty listed = obligation-small t is most some few small duty (from-list t is duty listed)
