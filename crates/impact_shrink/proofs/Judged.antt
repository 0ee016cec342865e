-- What is judged on the database after the command tells whether a witness is real over another start database.
use Rattle.std.proofs.Common.{◌≡◌, ◌⊎◌, inl, inr, ℕ, zero, suc, ◌-◌, ◌≤◌, Bool, true, false, not, ◌&&◌, refl, ap, sym, ◌∙◌, subst, arith, Contains, ⊎_elim}
use Rattle.std.specs.Bool.{Decides}
use Rattle.std.specs.List.{list_any}
use Rattle.std.specs.Prelude.{Option, Some, None, MatchOption, IfOk, Result, Ok, Err, option_and_then}
use Rattle.std.specs.Option.{option_map_or}
use Rattle.type_schema.specs.declared.rights.Right.{Right}
use Rattle.type_schema.specs.declared.rights.Right.TheVariants.{Read}
use Rattle.type_schema.specs.declared.rights.Target.{Target}
use Rattle.type_schema.specs.declared.rights.Target.TheVariants as on
use Rattle.type_schema.specs.Commands.{Command, create_model, delete_model, add_static, remove_static, add_principal, add_field, remove_field, update_field, weaken_field, update_model, weaken_model}
use Rattle.type_schema.specs.Kinds.{is_kind_at}
use Rattle.type_schema.specs.Schema.{FieldInfo, model_of_target}
use Rattle.type_schema.specs.Script.{Script, command_at}
use Rattle.type_schema.specs.Trees.{Init}
use Rattle.data_meaning.specs.declared.cells.Cell.{Cell}
use Rattle.data_meaning.specs.declared.principals.Principal.{Principal}
use Rattle.data_meaning.specs.Database.{Database, has_record, is_there}
use Rattle.data_meaning.specs.Run.{after_command, after_if_any, run_to}
use Rattle.data_meaning.specs.Gain.{IsStart, kind_of, is_principal_at, has_right_at, updates, weakens, GainAt, AddsAt}
use Rattle.data_meaning.specs.Touched.{init_touched}
use Rattle.check_witness.specs.Witness.{Witness}
use Rattle.impact_meaning.specs.Weakened.{WeakAt}
use Rattle.duty_meaning.specs.Duties.{init_in}
use Rattle.impact_shrink.specs.Judged.{are_there, has_right_by, is_allowed_by, is_newly_allowed, is_same_cell, leaks, may_read, touches}
use Rattle.impact_shrink.proofs.Cells.{any-contains, contains-any, some-same}
use Rattle.impact_shrink.specs.Real.{IsReal, LeaksCell}
use Rattle.impact_shrink.specs.Small.{over}

-- ---- commands that set rights leave databases

updates-still : (target : Target) (right : Right) (c : Command) → updates target right c ≡ true → (d : Database) → after_command c d ≡ d
updates-still target right (create_model m) h d = refl
updates-still target right (delete_model m) h d = cc
updates-still target right (add_static n) h d = refl
updates-still target right (remove_static n) h d = refl
updates-still target right (add_principal m) h d = refl
updates-still target right (add_field m f init) h d = cc
updates-still target right (remove_field m f) h d = cc
updates-still target right (update_field m f read write) h d = refl
updates-still target right (weaken_field m f read write reason) h d = refl
updates-still target right (update_model m create delete) h d = refl
updates-still target right (weaken_model m create delete reason) h d = refl

weakens-still : (target : Target) (right : Right) (c : Command) → weakens target right c ≡ true → (d : Database) → after_command c d ≡ d
weakens-still target right (create_model m) h d = refl
weakens-still target right (delete_model m) h d = cc
weakens-still target right (add_static n) h d = refl
weakens-still target right (remove_static n) h d = refl
weakens-still target right (add_principal m) h d = refl
weakens-still target right (add_field m f init) h d = cc
weakens-still target right (remove_field m f) h d = cc
weakens-still target right (update_field m f read write) h d = refl
weakens-still target right (weaken_field m f read write reason) h d = refl
weakens-still target right (update_model m create delete) h d = refl
weakens-still target right (weaken_model m create delete reason) h d = refl

still-by : (p : Command → Bool) → ((c : Command) → p c ≡ true → (d : Database) → after_command c d ≡ d) → (o : Option Command) → option_map_or p o false ≡ true → (d : Database) → after_if_any o d ≡ d
still-by p each None h d = refl
still-by p each (Some c) h d = each c h d

-- what is answered decides what the test decides
pub if-decides : {E : Type 0} (r : Result Bool E) (x : Bool) (P : Type 0) → IfOk r (λ (b : Bool). b ≡ x) → Decides x P → IfOk r (λ (b : Bool). Decides b P)
if-decides (Ok b) x P is decides = ((λ h. decides.0 (sym is ∙ h)), (λ p. is ∙ decides.1 p))
if-decides (Err e) x P is decides = tt

module _ (t : Script) where
  -- the database after a command that leaves databases is the one before
  abbrev IsStill : ℕ → Type 0
  IsStill k = (d : Database) → run_to t k d ≡ run_to t (k - 1) d

  still : (p : Command → Bool) → ((c : Command) → p c ≡ true → (d : Database) → after_command c d ≡ d) → (k : ℕ) → 1 ≤ k → option_map_or p (command_at t (k - 1)) false ≡ true → IsStill k
  still p each zero counted h d = absurd (omega arith)
  still p each (suc k) counted h d =
      let same : suc k - 1 ≡ k = omega arith in
      still-by p each (command_at t k) (ap (λ n. option_map_or p (command_at t n) false) (sym same) ∙ h) (run_to t k d) ∙ ap (λ n. run_to t n d) (sym same)

  module _ (w : Witness) (d after : Database) (is : after ≡ run_to t w.command d) where
    kind-and : (a b : Bool) → a ≡ true → b ≡ true → (a && b) ≡ true
    kind-and a b p q = cc (ap (λ x. x && b) p, q)

    and-first : (a b : Bool) → (a && b) ≡ true → a ≡ true
    and-first true b h = refl
    and-first false b h = h

    and-second : (a b : Bool) → (a && b) ≡ true → b ≡ true
    and-second true b h = h
    and-second false b h = absurd cc

    not-true : (a : Bool) → not a ≡ true → a ≡ false
    not-true true h = absurd cc
    not-true false h = refl

    abbrev q : Principal
    q = w.who

    -- what a gain and a weakening say of the start database
    record Newly : Type 0 where
      record_there : has_record (run_to t w.command d) (model_of_target w.target) w.row ≡ true
      principal : is_principal_at t w.command (run_to t w.command d) q ≡ true
      holds : has_right_at t w.command w.target w.right d w.row q ≡ true
      before : has_right_at t (w.command - 1) w.target w.right d w.row q ≡ false

    newly : IsStill w.command → is_kind_at t w.command (kind_of q) ≡ true → is_newly_allowed t w after ≡ true → Newly
    newly calm kind h =
        let parts = and-first (are_there w after && has_right_by t w after w.command) (not (has_right_by t w after (w.command - 1))) h in
        let there = and-first (are_there w after) (has_right_by t w after w.command) parts in
        let now = and-second (are_there w after) (has_right_by t w after w.command) parts in
        let not_before = not-true (has_right_by t w after (w.command - 1)) (and-second (are_there w after && has_right_by t w after w.command) (not (has_right_by t w after (w.command - 1))) h) in
        record {
          record_there = ap (λ e. has_record e (model_of_target w.target) w.row) (sym is) ∙ and-first _ _ there;
          principal = kind-and (is_kind_at t w.command (kind_of q)) (is_there (run_to t w.command d) q) kind (ap (λ e. is_there e q) (sym is) ∙ and-second _ _ there);
          holds = ap (λ e. has_right_by t w e w.command) (sym is) ∙ now;
          before = ap (λ e. has_right_by t w e (w.command - 1)) (sym (is ∙ calm d)) ∙ not_before;
        }

    allowed : IsStill w.command → Newly → is_newly_allowed t w after ≡ true
    allowed calm h =
        let there = kind-and (has_record after (model_of_target w.target) w.row) (is_there after q) (ap (λ e. has_record e (model_of_target w.target) w.row) is ∙ h.record_there)
        (ap (λ e. is_there e q) is ∙ and-second (is_kind_at t w.command (kind_of q)) (is_there (run_to t w.command d) q) h.principal) in
        let now : has_right_by t w after w.command ≡ true = ap (λ e. has_right_by t w e w.command) is ∙ h.holds in
        let not_before : has_right_by t w after (w.command - 1) ≡ false = ap (λ e. has_right_by t w e (w.command - 1)) (is ∙ calm d) ∙ h.before in
        kind-and (are_there w after && has_right_by t w after w.command) (not (has_right_by t w after (w.command - 1)))
        (kind-and (are_there w after) (has_right_by t w after w.command) there now) (ap (λ b. not b) not_before)

    -- ---- a witness without a cell

    gain-over : GainAt t w.command w.target w.right w.base w.row q → IsStart t d → is_newly_allowed t w after ≡ true → GainAt t w.command w.target w.right d w.row q
    gain-over g start h =
        let n = newly (still (updates w.target w.right) (updates-still w.target w.right) w.command g.counted g.updated)
        (and-first (is_kind_at t w.command (kind_of q)) (is_there (run_to t w.command w.base) q) g.principal) h in
        record { start = start; counted = g.counted; updated = g.updated; record_there = n.record_there; principal = n.principal; after = n.holds; before = n.before }

    weak-over : WeakAt t w.command w.target w.right w.base w.row q → IsStart t d → is_newly_allowed t w after ≡ true → WeakAt t w.command w.target w.right d w.row q
    weak-over g start h =
        let n = newly (still (weakens w.target w.right) (weakens-still w.target w.right) w.command g.counted g.weakened)
        (and-first (is_kind_at t w.command (kind_of q)) (is_there (run_to t w.command w.base) q) g.principal) h in
        record { start = start; counted = g.counted; weakened = g.weakened; record_there = n.record_there; principal = n.principal; after = n.holds; before = n.before }

    gain-judged : GainAt t w.command w.target w.right d w.row q → is_newly_allowed t w after ≡ true
    gain-judged g = allowed (still (updates w.target w.right) (updates-still w.target w.right) w.command g.counted g.updated)
        (record { record_there = g.record_there; principal = g.principal; holds = g.after; before = g.before })

    weak-judged : WeakAt t w.command w.target w.right d w.row q → is_newly_allowed t w after ≡ true
    weak-judged g = allowed (still (weakens w.target w.right) (weakens-still w.target w.right) w.command g.counted g.weakened)
        (record { record_there = g.record_there; principal = g.principal; holds = g.after; before = g.before })

    abbrev Allowed : Database → Type 0
    Allowed b = GainAt t w.command w.target w.right b w.row q ⊎ WeakAt t w.command w.target w.right b w.row q

    pub allowed-decides : w.cell ≡ None → IsReal t w → IsStart t d → Decides (is_newly_allowed t w after) (IsReal t (over w d))
    allowed-decides none real start = (
      λ h. subst (λ (o : Option Cell). MatchOption o (Allowed d) (LeaksCell t (over w d))) (sym none)
          (⊎_elim
          (λ (g : GainAt t w.command w.target w.right w.base w.row q). let r : Allowed d = inl (gain-over g start h) in r)
          (λ (g : WeakAt t w.command w.target w.right w.base w.row q). let r : Allowed d = inr (weak-over g start h) in r)
          (let r : Allowed w.base = subst (λ (o : Option Cell). MatchOption o (Allowed w.base) (LeaksCell t w)) none real in r)),
      λ r. ⊎_elim gain-judged weak-judged (let a : Allowed d = subst (λ (o : Option Cell). MatchOption o (Allowed d) (LeaksCell t (over w d))) none r in a),
    )

    -- ---- a witness with a cell

    module _ (cell : Cell) where
      abbrev Cells : Option Init → Bool
      Cells o = option_map_or (λ init. list_any (is_same_cell cell) (init_touched after init w.row)) o false

      init-is : (m : ℕ) (f : FieldInfo) (init : Init) → AddsAt t w.command m f init → option_and_then (init_in t) (command_at t (w.command - 1)) ≡ Some init
      init-is m f init adds = ap (option_and_then (init_in t)) adds.command

      leak-over : LeaksCell t w cell → IsStart t d → leaks t w after cell ≡ true → LeaksCell t (over w d) cell
      leak-over l start h =
          let init = init-is l.model l.field l.init l.adds in
          let denied = not-true (may_read t w after cell) (and-second (are_there w after && has_right_by t w after w.command && touches t w after cell) (not (may_read t w after cell)) h) in
          let front = and-first (are_there w after && has_right_by t w after w.command && touches t w after cell) (not (may_read t w after cell)) h in
          let touched = and-second (are_there w after && has_right_by t w after w.command) (touches t w after cell) front in
          let sooner = and-first (are_there w after && has_right_by t w after w.command) (touches t w after cell) front in
          let there = and-first (are_there w after) (has_right_by t w after w.command) sooner in
          let right = and-second (are_there w after) (has_right_by t w after w.command) sooner in
          record {
            flow = record {
              start = start;
              model = l.model;
              field = l.field;
              init = l.init;
              adds = l.adds;
              record_there = ap (λ e. has_record e l.model w.row) (sym is) ∙ ap (λ g. has_record after (model_of_target g) w.row) (sym l.target) ∙ and-first _ _ there;
              principal = kind-and (is_kind_at t w.command (kind_of q)) (is_there (run_to t w.command d) q)
                  (and-first (is_kind_at t w.command (kind_of q)) (is_there (run_to t w.command w.base) q) l.flow.principal) (ap (λ e. is_there e q) (sym is) ∙ and-second _ _ there);
              reads = ap (λ g. is_allowed_by t w.command g Read (run_to t w.command d) w.row q) (sym l.target)
                  ∙ ap (λ r. is_allowed_by t w.command w.target r (run_to t w.command d) w.row q) (sym l.right) ∙ ap (λ e. has_right_by t w e w.command) (sym is) ∙ right;
              touches = subst (λ e. Contains (init_touched e l.init w.row) cell) is (any-contains cell (init_touched after l.init w.row) (sym (ap Cells init) ∙ touched));
              denied = ap (λ e. may_read t w e cell) (sym is) ∙ denied;
            };
            model = l.model;
            field = l.field;
            init = l.init;
            adds = l.adds;
            target = l.target;
            right = l.right;
          }

      leak-judged : LeaksCell t (over w d) cell → leaks t w after cell ≡ true
      leak-judged l =
          let init = init-is l.flow.model l.flow.field l.flow.init l.flow.adds in
          let added : add_field l.flow.model l.flow.field l.flow.init ≡ add_field l.model l.field l.init = some-same (sym l.flow.adds.command ∙ l.adds.command) in
          let model : l.flow.model ≡ l.model = cc in
          let field : l.flow.field ≡ l.field = cc in
          let target : w.target ≡ on.Field l.flow.model l.flow.field.number = l.target ∙ ap (λ m. on.Field m l.field.number) (sym model) ∙ ap (λ (f : FieldInfo). on.Field l.flow.model f.number) (sym field) in
          let there = kind-and (has_record after (model_of_target w.target) w.row) (is_there after q)
          (ap (λ g. has_record after (model_of_target g) w.row) target ∙ ap (λ e. has_record e l.flow.model w.row) is ∙ l.flow.record_there)
          (ap (λ e. is_there e q) is ∙ and-second (is_kind_at t w.command (kind_of q)) (is_there (run_to t w.command d) q) l.flow.principal) in
          let right : has_right_by t w after w.command ≡ true
          = ap (λ e. has_right_by t w e w.command) is ∙ ap (λ r. is_allowed_by t w.command w.target r (run_to t w.command d) w.row q) l.right
          ∙ ap (λ g. is_allowed_by t w.command g Read (run_to t w.command d) w.row q) target ∙ l.flow.reads in
          let touched : touches t w after cell ≡ true
          = ap Cells init ∙ contains-any cell (init_touched after l.flow.init w.row) (subst (λ e. Contains (init_touched e l.flow.init w.row) cell) (sym is) l.flow.touches) in
          let denied : may_read t w after cell ≡ false = ap (λ e. may_read t w e cell) is ∙ l.flow.denied in
          kind-and (are_there w after && has_right_by t w after w.command && touches t w after cell) (not (may_read t w after cell))
          (kind-and (are_there w after && has_right_by t w after w.command) (touches t w after cell) (kind-and (are_there w after) (has_right_by t w after w.command) there right) touched)
          (ap (λ b. not b) denied)

      pub leak-decides : w.cell ≡ Some cell → IsReal t w → IsStart t d → Decides (leaks t w after cell) (IsReal t (over w d))
      leak-decides some real start = (
        λ h. subst (λ (o : Option Cell). MatchOption o (Allowed d) (LeaksCell t (over w d))) (sym some)
            (leak-over (subst (λ (o : Option Cell). MatchOption o (Allowed w.base) (LeaksCell t w)) some real) start h),
        λ r. leak-judged (subst (λ (o : Option Cell). MatchOption o (Allowed d) (LeaksCell t (over w d))) some r),
      )
