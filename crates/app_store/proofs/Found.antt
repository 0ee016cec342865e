-- What answers to commands over the store rest on.
use Rattle.std.proofs.Common.{◌≡◌, ◌<◌, ℕ, List, sym, subst}
use Rattle.std.specs.Prelude.{Option, Some, None, IfSome, Ok}
use Rattle.app_files.specs.declared.answer.Checked.{Checked}
use Rattle.app_files.specs.Answer.{ScriptOf}
use Rattle.app_files.specs.Headline.{Verdict}
use Rattle.app_files.specs.Loads.{Fetches}
use Rattle.app_files.specs.Stages.{Then, Stops, Goes, Stopped, Went}
use Rattle.app_files.proofs.Headline.{verdict}
use Rattle.check_scripts.specs.Views.{outcome_data}
use Rattle.type_schema.specs.Schema.{Schema}
use Rattle.type_schema.specs.Script.{Script, IsScript}
use Rattle.type_schema.specs.SchemaViews.{script_of}
use Rattle.data_meaning.specs.Database.{Database}
use Rattle.store_keeper.specs.declared.stored.Stored as code
use Rattle.store_keeper.specs.Stored.{Stored, IsStored, stored_of, last_version}
use Rattle.store_apply.specs.Applied.{initial_of}
use Rattle.app_store.specs.declared.answer.StoreAnswer.{StoreAnswer}
use Rattle.app_store.specs.declared.answer.StoreAnswer.TheVariants as answer
use Rattle.app_store.specs.Answer.{AsksFree, AsksHeld, AsksRising, AsksSchema, AsksBase, ChecksScript, Inits, ChecksHeld, IsDecision, AppliesScript, Shows}
use Rattle.app_store.specs.Calls.{Call}
use Rattle.app_store.specs.Headline.{IsHeld}
use Rattle.app_store.specs.Told.{Told}

-- The file is the script that was checked, over this schema, and what was found says this of it.
pub record IsFoundOver (told : Told) (name : List ℕ) (s : Schema) (checked : Checked) : Type 0 where
  pub script : Then (Fetches told.files name) (ScriptOf name s) (Ok (script_of checked.script))
  pub typed : IsScript (script_of checked.script)
  pub says : Verdict (script_of checked.script) (outcome_data checked.outcome)

module _ (told : Told) where
  pub found-over : (name : List ℕ) (s : Schema) (calls : List Call) (checked : Checked) → ChecksScript told name s calls (Ok checked) → IsFoundOver told name s checked
  found-over name s calls checked (one, Stops why p e) = absurd cc
  found-over name s calls checked (one, Goes t asked h) = record {
    script = subst (λ (z : Script). Then (Fetches told.files name) (ScriptOf name s) (Ok z)) (sym h.script) asked;
    typed = subst IsScript (sym h.script) h.typed;
    says = subst (λ (z : Script). Verdict z (outcome_data checked.outcome)) (sym h.script) (verdict t h.typed (outcome_data checked.outcome) h.outcome);
  }

  -- ---- what is stored

  pub free-of : (calls : List Call) (x : Unit {0}) → AsksFree told calls (Ok x) → IfSome told.content (λ held. held ≡ None)
  free-of calls x (one, Stops why p e) = absurd cc
  free-of calls x (one, Goes held loads none) = subst (λ (h : Option Stored). IfSome told.content (λ t. t ≡ h)) none loads.0

  held-so : (held : Option Stored) (s : Stored) → IfSome told.content (λ t. t ≡ held) → IfSome held IsStored → held ≡ Some s → IsHeld told.content s
  held-so held s is stored holds = record {
    told = subst (λ (h : Option Stored). IfSome told.content (λ t. t ≡ h)) holds is;
    stored = subst (λ (h : Option Stored). IfSome h IsStored) holds stored;
  }

  pub held-of : (calls : List Call) (s : Stored) → AsksHeld told calls (Ok s) → IsHeld told.content s
  held-of calls s (one, Stops why p e) = absurd cc
  held-of calls s (one, Goes held loads holds) = held-so held s loads.0 loads.1 holds

  pub rising-of : (calls : List Call) (s : Stored) → AsksRising told calls (Ok s) → IsHeld told.content s × (s.version < last_version)
  rising-of calls s (one, Stops why p e) = absurd cc
  rising-of calls s (one, Goes u (Stops why p e) rises) = absurd cc
  rising-of calls s (one, Goes u (Goes held loads holds) (same, less)) =
      subst (λ (z : Stored). IsHeld told.content z × (z.version < last_version)) (sym same) (held-so held u loads.0 loads.1 holds, less)

  -- ---- what is answered

  -- what `init` is answered rests on this
  pub record IsInit (spec : List ℕ) (base_name : Option (List ℕ)) (a : StoreAnswer) : Type 0 where
    pub free : IfSome told.content (λ held. held ≡ None)
    pub schema : Schema
    pub spec_calls : List Call
    pub is_schema : AsksSchema told spec spec_calls (Ok schema)
    pub base : Database
    pub data_calls : List Call
    pub is_base : AsksBase told base_name schema data_calls (Ok base)
    pub after : code.Stored
    pub is : a ≡ answer.Initialised after
    pub stored : stored_of after ≡ initial_of schema base

  pub init-found : (spec : List ℕ) (base_name : Option (List ℕ)) (calls : List Call) (a : StoreAnswer) → Inits told spec base_name calls (Ok a) → IsInit spec base_name a
  init-found spec base_name calls a (Stopped why p e) = absurd cc
  init-found spec base_name calls a (Went x front later free (Stopped why p e) split) = absurd cc
  init-found spec base_name calls a (Went x front later free (Went s front2 later2 schema (Stopped why p e) split2) split) = absurd cc
  init-found spec base_name calls a (Went x front later free (Went s front2 later2 schema (Went d front3 later3 base (none, (after, is, stored)) split3) split2) split) = record {
    free = free-of front x free;
    schema = s;
    spec_calls = front2;
    is_schema = schema;
    base = d;
    data_calls = front3;
    is_base = base;
    after = after;
    is = is;
    stored = stored;
  }

  -- what `check SCRIPT` is answered
  pub record IsCheck (name : List ℕ) (a : StoreAnswer) : Type 0 where
    pub held : Stored
    pub is_held : IsHeld told.content held
    pub checked : Checked
    pub found : IsFoundOver told name held.schema checked
    pub is : a ≡ answer.Checked checked

  pub check-found : (name : List ℕ) (calls : List Call) (a : StoreAnswer) → ChecksHeld told name calls (Ok a) → IsCheck name a
  check-found name calls a (Stopped why p e) = absurd cc
  check-found name calls a (Went s front later asked (checked, is, checks) split) = record {
    held = s;
    is_held = held-of front s asked;
    checked = checked;
    found = found-over name s.schema later checked checks;
    is = is;
  }

  -- what `apply SCRIPT` is answered: what is to be stored, or what was found where nothing is
  pub record IsApply (name : List ℕ) (a : StoreAnswer) : Type 0 where
    pub held : Stored
    pub is_held : IsHeld told.content held
    pub rises : held.version < last_version
    pub checked : Checked
    pub found : IsFoundOver told name held.schema checked
    pub decided : IsDecision held checked a

  pub apply-found : (name : List ℕ) (calls : List Call) (a : StoreAnswer) → AppliesScript told name calls (Ok a) → IsApply name a
  apply-found name calls a (Stopped why p e) = absurd cc
  apply-found name calls a (Went s front later asked (Stopped why p e) split) = absurd cc
  apply-found name calls a (Went s front later asked (Went checked front2 later2 checks (none, decided) split2) split) =
      let held = rising-of front s asked in
      record {
        held = s;
        is_held = held.0;
        rises = held.1;
        checked = checked;
        found = found-over name s.schema front2 checked checks;
        decided = decided;
      }

  -- what `show` is answered
  pub record IsShow (a : StoreAnswer) : Type 0 where
    pub held : code.Stored
    pub is_held : IsHeld told.content (stored_of held)
    pub is : a ≡ answer.Shown held

  pub show-found : (calls : List Call) (a : StoreAnswer) → Shows told calls (Ok a) → IsShow a
  show-found calls a (Stopped why p e) = absurd cc
  show-found calls a (Went s front later asked (none, (held, is, same)) split) = record {
    held = held;
    is_held = subst (IsHeld told.content) (sym same) (held-of front s asked);
    is = is;
  }
