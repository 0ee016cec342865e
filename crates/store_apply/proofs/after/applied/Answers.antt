use Rattle.std.proofs.Common.{◌+◌, ◌++◌, refl, ap, sym, ◌∙◌, subst}
use Rattle.type_schema.specs.Schema.{Schema}
use Rattle.type_schema.specs.Script.{count, schema_at}
use Rattle.type_schema.specs.SchemaViews.{schema_of, script_of}
use Rattle.data_meaning.specs.Database.{HasNoFurtherTables, IsDatabase, IsInOrder}
use Rattle.data_records.specs.Renumbered.{renumbered}
use Rattle.store_keeper.specs.Stored.{stored_of}
use Rattle.store_apply.specs.Applied.{IsApplied}
use Rattle.store_apply.specs.Notes.{new_notes}
use Rattle.store_apply.specs.Settling.{IsRenumbered, MaySettle}
use Rattle.store_apply.proofs.Moving.{is-moved}
use Rattle.store_apply.proofs.after.applied.Goals as goal

pub settle-requires : goal.settle-requires
settle-requires c = subst MaySettle (sym c.last_schema-last.ensures) c.requires.room

pub migrate-requires-clause-over : goal.migrate-requires-clause-over
migrate-requires-clause-over c =
    subst (λ (s : Schema). IsDatabase s c.args.s.now.base) (sym c.requires.start) c.requires.stored.database

pub migrate-requires-clause-only : goal.migrate-requires-clause-only
migrate-requires-clause-only c =
    subst (λ (s : Schema). HasNoFurtherTables s c.args.s.now.base) (sym c.requires.start) c.requires.stored.no_further

pub new-requires-clause-database : goal.new-requires-clause-database
new-requires-clause-database c =
    let last = c.last_schema-last.result.now in
    let moved = is-moved c.databases_move.ensures (schema_of last) _ (schema_of c.in_ok-schema.schema) c.in_ok-base.base c.last_schema-last.ensures c.requires.room
    c.in_ok-schema.ensures.renumbered c.in_ok-base.ensures.database c.in_ok-base.ensures.only in
    subst (IsDatabase (schema_of c.in_ok-schema.schema)) (sym c.renumber.ensures) moved.database

pub new-requires-clause-order : goal.new-requires-clause-order
new-requires-clause-order c =
    let last = c.last_schema-last.result.now in
    let d = c.in_ok-base.base in
    let t = script_of c.args.t.now in
    let moved = is-moved c.databases_move.ensures (schema_of last) _ (schema_of c.in_ok-schema.schema) d c.last_schema-last.ensures c.requires.room
    c.in_ok-schema.ensures.renumbered c.in_ok-base.ensures.database c.in_ok-base.ensures.only in
    let before : IsInOrder (schema_at t 0) c.args.s.now.base
    = subst (λ (s : Schema). IsInOrder s c.args.s.now.base) (sym c.requires.start) c.requires.stored.order in
    let after : IsInOrder (schema_of last) d
    = subst (λ (s : Schema). IsInOrder s d) (sym c.last_schema-last.ensures) (c.in_ok-base.ensures.order before) in
    subst (IsInOrder (schema_of c.in_ok-schema.schema)) (sym c.renumber.ensures) (moved.order after)

pub returns-clause-applied : goal.returns-clause-applied
returns-clause-applied c =
    let t = script_of c.args.t.now in
    let d = c.in_ok-base.base in
    let made : IsApplied (stored_of c.args.s.now) t (record {
      schema = schema_of c.in_ok-schema.schema;
      version = c.args.s.now.version + 1;
      base = c.renumber.new.self;
      notes = c.in_ok-notes.notes;
    })
    = record {
      schema = subst (λ (u : Schema). IsRenumbered u (schema_of c.in_ok-schema.schema)) c.last_schema-last.ensures c.in_ok-schema.ensures.renumbered;
      version = refl;
      base = c.renumber.ensures
          ∙ ap (λ (u : Schema). renumbered u d) c.last_schema-last.ensures
          ∙ ap (renumbered (schema_at t (count t))) c.in_ok-base.ensures.run;
      notes = c.in_ok-notes.ensures ∙ ap (λ ns. ns ++ new_notes t (c.args.s.now.version + 1)) c.as_slice.ensures;
    } in
    subst (IsApplied (stored_of c.args.s.now) t) (sym c.new.ensures.made) made
