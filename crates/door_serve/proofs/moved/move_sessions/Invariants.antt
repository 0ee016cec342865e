use Rattle.std.proofs.Common.{◌≡◌, length}
use Rattle.door_meaning.specs.Migrates.{moved_session}
use Rattle.type_schema.specs.SchemaViews.{schema_of}
use Rattle.door_serve.proofs.MovedPrincipals.{first-changed}
use Rattle.door_serve.proofs.moved.move_sessions.Given as goal

-- the first sessions are moved
abbrev pub invariant-loop-at : goal.invariant-loop-at
invariant-loop-at l =
    (l.sessions ≡ first-changed (moved_session (schema_of l.s)) l.at l.initial.sessions) × (length l.sessions ≡ length l.initial.sessions)
