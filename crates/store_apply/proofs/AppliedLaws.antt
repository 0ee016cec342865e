-- What is stored after a script is one, and gives the rights of the script's last schema.
use Rattle.std.proofs.Common.{◌≡◌, ℕ, false, List, ◌++◌, ap, sym, ◌∙◌, subst, arith}
use Rattle.std.specs.Prelude.{Option, Ok}
use Rattle.std.specs.Option.{option_map_or}
use Rattle.type_schema.specs.Trees.{Policy}
use Rattle.type_schema.specs.Schema.{Schema}
use Rattle.type_schema.specs.Script.{count, schema_at}
use Rattle.type_typing.specs.Outcome.{Checked}
use Rattle.type_scripts.specs.Counted.{counted}
use Rattle.type_anew.specs.Policies.{renumbered_policy, renumbered_principal}
use Rattle.type_anew.specs.RetypedLaws.{PoliciesComeAnew, RightsStay}
use Rattle.data_meaning.specs.Database.{Database, HasNoFurtherTables, IsDatabase}
use Rattle.data_meaning.specs.Meaning.{allows}
use Rattle.data_meaning.specs.Run.{run_to, widened}
use Rattle.data_meaning.proofs.Runs.{keeps}
use Rattle.data_meaning.proofs.Widened.{starts}
use Rattle.store_keeper.specs.declared.stored.Note.{Note}
use Rattle.store_keeper.specs.Stored.{Stored}
use Rattle.store_migrate.proofs.Tables.{no-further}
use Rattle.store_apply.specs.Laws.{AppliedOne, AppliedRights}
use Rattle.store_apply.specs.Notes.{new_notes}

schemas-same : (a b : Schema) → ◌≡◌ {A = Checked Schema} (Ok a) (Ok b) → a ≡ b
schemas-same a b e = cc

pub applied_one : AppliedOne
applied_one s t one other a b =
    let schemas : one.schema ≡ other.schema = schemas-same one.schema other.schema (sym a.schema.typed ∙ b.schema.typed) in
    let versions : one.version ≡ other.version = a.version ∙ sym b.version in
    let bases : one.base ≡ other.base = a.base ∙ sym b.base in
    let notes : one.notes ≡ other.notes = a.notes ∙ ap (λ (v : ℕ). s.notes ++ new_notes t v) versions ∙ sym b.notes in
    ap (λ (x : Schema). let u : Stored = record one { schema = x } in u) schemas
    ∙ ap (λ (x : ℕ). let u : Stored = record { schema = other.schema; version = x; base = one.base; notes = one.notes } in u) versions
    ∙ ap (λ (x : Database). let u : Stored = record { schema = other.schema; version = other.version; base = x; notes = one.notes } in u) bases
    ∙ ap (λ (x : List Note). let u : Stored = record other { notes = x } in u) notes

pub applied-rights : PoliciesComeAnew → RightsStay → AppliedRights
applied-rights come stay s t after stored is start may applied target right policy has =
    let last = schema_at t (count t) in
    let over : IsDatabase (schema_at t 0) s.base = subst (λ (u : Schema). IsDatabase u s.base) (sym start) stored.database in
    let only : HasNoFurtherTables (schema_at t 0) s.base = subst (λ (u : Schema). HasNoFurtherTables u s.base) (sym start) stored.no_further in
    let d = run_to t (count t) (widened t s.base) in
    let base : IsDatabase last d = keeps t is (widened t s.base) (starts t is s.base over only) (count t) (omega arith) in
    let rest : HasNoFurtherTables last d = no-further t is s.base over only in
    let later = renumbered_policy last policy in
    let given = come counted last after.schema may.proper may.told applied.schema.typed target right policy has in (
      later,
      given,
      λ id who.
          ap (λ (b : Database). allows b later id (renumbered_principal last who)) applied.base
          ∙ stay counted last after.schema may.proper may.told applied.schema.typed d base rest target right policy later has given id who
          ∙ sym (ap (λ (o : Option Policy). option_map_or (λ (p : Policy). allows d p id who) o false) has),
    )
