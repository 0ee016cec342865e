-- What initialisers give where they are evaluated.
use Rattle.std.proofs.Common.{◌≡◌, ℕ, Bool, true, false, [], ◌∷◌, refl, ap, sym, ◌∙◌}
use Rattle.std.specs.Prelude.{Option, None, Some, ◌==◌, option_and_then, if◌then◌else◌}
use Rattle.std.specs.Option.{option_map_or}
use Rattle.std.proofs.lemmas.Bool.{eqb-true}
use Rattle.type_schema.specs.Schema.{Added}
use Rattle.type_schema.specs.Commands.{Command}
use Rattle.type_schema.specs.Script.{Script, schema_at, command_at, IsScript}
use Rattle.data_meaning.specs.Values.{Value}
use Rattle.data_meaning.specs.Database.{Database, has_record, IsDatabase, HasNoFurtherTables}
use Rattle.data_meaning.specs.Run.{init_value, run_to, widened}
use Rattle.online_meaning.specs.Deep.{added_by, added_at}
use Rattle.online_meaning.specs.Marks.{RecordId, is_among, slow_records}
use Rattle.online_meaning.proofs.Knowing.{slow-there}
use Rattle.online_meaning.proofs.Plain.{old_read}
use Rattle.online_meaning.proofs.Switches.{adding}
use Rattle.online_ground.specs.Grounds.{Grounds, AreGrounds, ground_at, value_by}

module _ (t : Script) (is : IsScript t) (d : Database) (over : IsDatabase (schema_at t 0) d) (only : HasNoFurtherTables (schema_at t 0) d) where
  pub ground-value : (g : Grounds) → AreGrounds t d g → (k : ℕ) (a : Added) → added_at t k ≡ Some a → (id : ℕ) → has_record (run_to t k (widened t d)) a.model id ≡ true
      → init_value (ground_at g d k) a.init id ≡ init_value (run_to t k (widened t d)) a.init id
  ground-value None ok k a here id there = sym (old_read t is d over only k a here (ok k a here) id there).0
  ground-value (Some runs) ok k a here id there = ap (λ (u : Database). init_value u a.init id) (ok.1 k (adding t k a here).within)

  -- the value of one command more
  pub next-value : (g : Grounds) → AreGrounds t d g → (r : RecordId) → is_among r (slow_records t d) ≡ true → (k : ℕ) (c : Command) → command_at t k ≡ Some c
      → value_by c (ground_at g d k) r ≡ option_map_or (λ (a : Added). if a.model == r.model then init_value (run_to t k (widened t d)) a.init r.id ∷ [] else []) (added_at t k) []
  next-value g ok r slow k c here =
      let it : added_at t k ≡ added_by c = ap (option_and_then added_by) here in
      of (added_by c) it
      ∙ ap (λ o. option_map_or (λ (a : Added). if a.model == r.model then init_value (run_to t k (widened t d)) a.init r.id ∷ [] else []) o []) (sym it)
    where
      of : (o : Option Added) → added_at t k ≡ o → option_map_or (λ (a : Added). if a.model == r.model then init_value (ground_at g d k) a.init r.id ∷ [] else []) o []
          ≡ option_map_or (λ (a : Added). if a.model == r.model then init_value (run_to t k (widened t d)) a.init r.id ∷ [] else []) o []
      of None at = refl
      of (Some a) at =
          elim (a.model == r.model) as (λ (b : Bool). (a.model == r.model) ≡ b
          → (if b then init_value (ground_at g d k) a.init r.id ∷ [] else []) ≡ (if b then init_value (run_to t k (widened t d)) a.init r.id ∷ [] else [])) [
            | true ↦ λ own.
                ap (λ (v : Value). v ∷ []) (ground-value g ok k a at r.id (slow-there t is d over only r slow k a at (eqb-true a.model r.model own)))
            | false ↦ λ other. refl
          ] refl
