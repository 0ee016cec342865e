-- What is left where records are tried.
use Rattle.std.proofs.Common.{◌≡◌, ◌⊎◌, ⊎_elim, ℕ, ◌<◌, ◌≤◌, ◌+◌, Bool, true, false, List, [], refl, ap, sym, ◌∙◌, subst, arith, get_or, length, take}
use Rattle.std.specs.Prelude.{Option, None, Some, MatchOption, Result, Ok, Err, IfOk, if◌then◌else◌}
use Rattle.std.proofs.lemmas.List.Elements.{All-contains, All-more}
use Rattle.type_schema.specs.Script.{Script, IsScript}
use Rattle.data_meaning.specs.declared.cells.Cell.{Cell}
use Rattle.data_meaning.specs.Database.{Database, has_record}
use Rattle.data_meaning.specs.Gain.{GainAt, IsStart}
use Rattle.data_records.specs.declared.data_err.DataErr.{DataErr}
use Rattle.data_records.specs.declared.data_err.DataErr.TheVariants as err
use Rattle.data_records.specs.Removed.{without_record, IsHeld}
use Rattle.data_records.specs.Room.{record_count}
use Rattle.check_witness.specs.Witness.{Witness}
use Rattle.impact_meaning.specs.Weakened.{WeakAt}
use Rattle.impact_shrink.specs.declared.dropping.Left.{Left}
use Rattle.impact_shrink.specs.declared.places.Place.{Place}
use Rattle.impact_shrink.specs.Dropped.{HasAll, IsLeft, IsNeededIn, IsTried, Stays, Goes, IsRound, IsAfterRounds, rounds_left}
use Rattle.impact_shrink.specs.Real.{IsReal, LeaksCell}
use Rattle.impact_shrink.specs.Small.{over, IsPart, IsSmall}
use Rattle.impact_shrink.proofs.Parts.{fewer, named-no-start, part-of-part, part-same, part-without}

abbrev place : ℕ → ℕ → Place
place m id = record { model = m; id = id }

-- ---- real witnesses start somewhere

pub real-start : (t : Script) (w : Witness) → IsReal t w → IsStart t w.base
real-start t w real = by-cell w.cell real
  where
    by-cell : (cell : Option Cell) → MatchOption cell (GainAt t w.command w.target w.right w.base w.row w.who ⊎ WeakAt t w.command w.target w.right w.base w.row w.who) (LeaksCell t w)
        → IsStart t w.base
    by-cell None h =
        ⊎_elim (λ (g : GainAt t w.command w.target w.right w.base w.row w.who). g.start) (λ (g : WeakAt t w.command w.target w.right w.base w.row w.who). g.start) h
    by-cell (Some cell) h = h.flow.start

-- a record that may not be removed is needed
pub held-needed : (t : Script) → IsScript t → (w : Witness) (d : Database) → IsReal t (over w d) → (p : Place) (e : DataErr) → IsHeld t.start d p.model p.id e → IsNeededIn t w d p
held-needed t script w d real p err.NoRecord held there fewer = absurd cc
held-needed t script w d real p (err.WrongShape f) held there fewer = held
held-needed t script w d real p (err.Dangling f i) held there fewer = held
held-needed t script w d real p (err.Referenced n i f) held there fewer =
    let none = named-no-start t script d (real-start t (over w d) real) p.model p.id there (real-start t (over w (without_record p.model p.id d)) fewer) in
    let some = held.1 in
    absurd cc
held-needed t script w d real p (err.Full what) held there fewer = held
held-needed t script w d real p err.IdsSpent held there fewer = held
held-needed t script w d real p err.OutOfMemory held there fewer = held

-- ---- a record that was tried

module _ (t : Script) (script : IsScript t) (w : Witness) (p : Place) (before after : Left) (found : Option Database) where
  -- what comes of it: the base without the record, if it is not needed
  abbrev Found : Type 0
  Found =
      MatchOption found (IsNeededIn t w before.base p)
      (λ fewer. (fewer ≡ without_record p.model p.id before.base) × (has_record before.base p.model p.id ≡ true) × IsReal t (over w fewer))

  pub tried-stays : found ≡ None → after ≡ before → Found → IsTried t w p before after
  tried-stays none same h =
      Stays same (subst (λ (o : Option Database). MatchOption o (IsNeededIn t w before.base p)
      (λ fewer. (fewer ≡ without_record p.model p.id before.base) × (has_record before.base p.model p.id ≡ true) × IsReal t (over w fewer))) none h)

  pub tried-goes : (base : Database) → found ≡ Some base → after.base ≡ base → after.dropped ≡ true → IsReal t (over w before.base) → Found → IsTried t w p before after
  tried-goes base some left dropped real h =
      let gone = subst (λ (o : Option Database). MatchOption o (IsNeededIn t w before.base p)
      (λ fewer. (fewer ≡ without_record p.model p.id before.base) × (has_record before.base p.model p.id ≡ true) × IsReal t (over w fewer))) some h in
      let start = real-start t (over w before.base) real in
      let same : after.base ≡ without_record p.model p.id before.base = left ∙ gone.0 in
      Goes dropped (subst (λ b. IsReal t (over w b)) (sym left) gone.2)
      (subst (λ b. IsPart b before.base) (sym same) (part-without t.start before.base start.over start.only p.model p.id gone.1))
      (subst (λ b. record_count b < record_count before.base) (sym same) (fewer before.base p.model p.id gone.1))

-- ---- one record more

module _ (t : Script) (w : Witness) where
  pub none-tried : (base : Database) (left : Left) → left.base ≡ base → left.dropped ≡ false → IsReal t (over w base) → IsLeft t w base [] left
  none-tried base left same none real = record {
    real = subst (λ d. IsReal t (over w d)) (sym same) real;
    part = subst (λ d. IsPart d base) (sym same) (part-same base);
    fewer = λ some. absurd cc;
    needed = λ _. (same, λ k d below. absurd (omega (arith, below)));
  }

  pub one-more : (whole : Database) (places : List Place) (i : ℕ) (d : Place) → i < length places → (before after : Left) → IsLeft t w whole (take i places) before
      → IsTried t w (get_or places i d) before after → IsLeft t w whole (take (i + 1) places) after
  one-more whole places i d below before after is (Stays same needed) = record {
    real = subst (λ (l : Left). IsReal t (over w l.base)) (sym same) is.real;
    part = subst (λ (l : Left). IsPart l.base whole) (sym same) is.part;
    fewer = λ some. subst (λ (l : Left). record_count l.base < record_count whole) (sym same) (is.fewer (ap (λ (l : Left). l.dropped) (sym same) ∙ some));
    needed = λ none.
        let was = is.needed (ap (λ (l : Left). l.dropped) (sym same) ∙ none) in (
          ap (λ (l : Left). l.base) same ∙ was.0,
          All-more (IsNeededIn t w whole) places i d below was.1 (subst (λ b. IsNeededIn t w b (get_or places i d)) was.0 needed),
        );
  }
  one-more whole places i d below before after is (Goes dropped real part fewer) = record {
    real = real;
    part = part-of-part after.base before.base whole part is.part;
    fewer = λ _. less before.dropped refl;
    needed = λ none. absurd cc;
  }
    where
      less : (b : Bool) → before.dropped ≡ b → record_count after.base < record_count whole
      less true was = omega (arith, fewer, is.fewer was)
      less false was = subst (λ b. record_count after.base < record_count b) (is.needed was).0 fewer

  -- where nothing was dropped, what is left is small
  pub small-left : (whole : Database) (places : List Place) (left : Left) → IsLeft t w whole places left → left.dropped ≡ false → HasAll whole places → IsSmall t (over w left.base)
  small-left whole places left is none all =
      let was = is.needed none in
      subst (λ b. IsSmall t (over w b)) (sym was.0)
      (record {
        real = subst (λ b. IsReal t (over w b)) was.0 is.real;
        needed = λ m id there. All-contains (IsNeededIn t w whole) places (place m id) was.1 (all m id there) there;
      })

  -- ---- rounds

  pub round-done : (whole : Database) (places : List Place) (left : Left) → HasAll whole places → IsLeft t w whole places left → IsRound t w whole left
  round-done whole places left all is = record {
    real = is.real;
    part = is.part;
    fewer = is.fewer;
    no_more = none-more left.dropped refl;
    small = λ none. small-left whole places left is none all;
  }
    where
      none-more : (b : Bool) → left.dropped ≡ b → record_count left.base ≤ record_count whole
      none-more true was = let less = is.fewer was in omega (arith, less)
      none-more false was = let same = ap record_count (is.needed was).0 in omega (arith, same)

  pub rounds-done : {E : Type 0} (whole : Database) (places : List Place) (r : Result Left E) → HasAll whole places → IfOk r (IsLeft t w whole places) → IfOk r (IsRound t w whole)
  rounds-done whole places (Ok left) all is = round-done whole places left all is
  rounds-done whole places (Err e) all is = tt

  pub round-after : (whole : Database) (before after : Left) → IsAfterRounds t w whole before → IsRound t w before.base after → IsAfterRounds t w whole after
  round-after whole before after was is = record { real = is.real; part = part-of-part after.base before.base whole is.part was.part; small = is.small }

  pub round-falls : (before after : Left) → before.dropped ≡ true → IsRound t w before.base after → rounds_left after < rounds_left before
  round-falls before after due is =
      let one : rounds_left before ≡ record_count before.base + 1 = ap (λ b. record_count before.base + (if b then 1 else 0)) due in
      subst (λ n. rounds_left after < n) (sym one) (falls after.dropped refl)
    where
      falls : (b : Bool) → after.dropped ≡ b → rounds_left after < record_count before.base + 1
      falls true was =
          let here : rounds_left after ≡ record_count after.base + 1 = ap (λ b. record_count after.base + (if b then 1 else 0)) was in
          let less = is.fewer was in
          omega (arith, here, less)
      falls false was =
          let here : rounds_left after ≡ record_count after.base + 0 = ap (λ b. record_count after.base + (if b then 1 else 0)) was in
          let more = is.no_more in
          omega (arith, here, more)

  -- before the first
  pub before-rounds : (base : Database) (left : Left) → left.base ≡ base → left.dropped ≡ true → IsReal t (over w base) → IsAfterRounds t w base left
  before-rounds base left same due real = record {
    real = subst (λ d. IsReal t (over w d)) (sym same) real;
    part = subst (λ d. IsPart d base) (sym same) (part-same base);
    small = λ none. absurd cc;
  }
