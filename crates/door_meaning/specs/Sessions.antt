-- Requests on sessions.
use Rattle.std.specs.Prelude.{ℕ, Bool, false, not, ◌==◌, nat_le, List, length, Option, None, Some, Result, Ok, Err, if◌then◌else◌}
use Rattle.std.specs.Option.{option_map_or}
use Rattle.data_meaning.specs.declared.principals.Principal.{Principal}
use Rattle.data_meaning.specs.Database.{is_there}
use Rattle.data_records.specs.Principals.{is_principal_of}
use Rattle.door_requests.specs.declared.requests.Who.{Who}
use Rattle.door_meaning.specs.declared.limits.TheConstants.{MOST_SESSIONS}
use Rattle.door_meaning.specs.declared.reply.Fullness.TheVariants as full
use Rattle.door_meaning.specs.Names.{is_marked, principal_named}
use Rattle.door_meaning.specs.Orders.{finds, goes, stops, unless}
use Rattle.door_meaning.specs.Replies.{Reply, Done, Full, NoRecord, NoSession, NotPrincipal, SessionTaken, Stale, Version}
use Rattle.door_meaning.specs.declared.session.Session.{Session}
use Rattle.door_meaning.specs.State.{State, has_session, renewed_session, session_named, with_session, without_session}

abbrev pub most_sessions : ℕ
most_sessions = MOST_SESSIONS

-- what is answered, and what the door keeps then
pub record Outcome : Type 0 where
  pub reply : Reply
  pub state : State

-- a refusal leaves all as before
abbrev pub outcome_of : State → Result Outcome Reply → Outcome
outcome_of st (Ok outcome) = outcome
outcome_of st (Err reply) = record { reply = reply; state = st }

-- why the principal may not join: its model is not marked, its record is not there, or there are as many sessions as there may be
abbrev pub join_refusal : State → Principal → Option Reply
join_refusal st who =
    if not (is_marked st.stored.schema who) then Some NotPrincipal
    else (if not (is_there st.stored.base who) then Some NoRecord
    else (if nat_le most_sessions (length st.sessions) then Some (Full full.Sessions) else None))

-- one more session at the door's version
abbrev pub added : State → List ℕ → Principal → Outcome
added st name who = record {
  reply = Version st.stored.version;
  state = with_session (record { name = name; who = Some who; version = st.stored.version }) st;
}

abbrev pub joined : State → List ℕ → Principal → Result Outcome Reply
joined st name who = goes (stops (join_refusal st who)) (λ _. Ok (added st name who))

-- `open`, for a principal of the schema
abbrev pub entered : State → List ℕ → Principal → Outcome
entered st name who = outcome_of st (goes (unless (has_session st name) SessionTaken) (λ _. joined st name who))

-- `open`
abbrev pub opened : State → List ℕ → Who → Outcome
opened st name who =
    outcome_of st (goes (unless (has_session st name) SessionTaken) (λ _. goes (principal_named st.stored.schema who) (joined st name)))

-- `close`
abbrev pub closed : State → List ℕ → Outcome
closed st name =
    outcome_of st (goes (unless (not (has_session st name)) NoSession) (λ _. Ok (record { reply = Done; state = without_session name st })))

-- its principal is there: a static of the schema, or a record of a model that is marked
abbrev pub has_principal : State → Session → Bool
has_principal st s = option_map_or (is_principal_of st.stored.schema st.stored.base) s.who false

-- `renew`
abbrev pub renewed : State → List ℕ → Outcome
renewed st name =
    outcome_of st (goes (finds (session_named st name) NoSession) (λ (s : Session). goes (unless (not (has_principal st s)) NoRecord) (λ _.
    Ok (record { reply = Version st.stored.version; state = renewed_session name st }))))

-- the session of the name, which is not stale
abbrev pub live_session : State → List ℕ → Result Session Reply
live_session st name =
    goes (finds (session_named st name) NoSession)
    (λ (s : Session). if s.version == st.stored.version then Ok s else Err (Stale s.version st.stored.version))
