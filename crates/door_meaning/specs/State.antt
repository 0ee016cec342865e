-- What the door keeps.
use Rattle.std.specs.Prelude.{ℕ, ◌<◌, ◌≤◌, Bool, List, ◌∷◌, [], ◌++◌, Option}
use Rattle.std.specs.List.{AllByRecursion, find, list_any}
use Rattle.std.specs.Str.{bytes_eq}
use Rattle.data_records.specs.Changed.{change_first}
use Rattle.data_records.specs.Removed.{without_first}
use Rattle.store_keeper.specs.Stored.{Stored}
use Rattle.door_meaning.specs.declared.session.Session.{Session}

-- what is stored, and the sessions in the order in which they were opened
pub record State : Type 0 where
  pub stored : Stored
  pub sessions : List Session

abbrev pub is_named : List ℕ → Session → Bool
is_named name s = bytes_eq s.name name

abbrev pub session_named : State → List ℕ → Option Session
session_named st name = find (is_named name) st.sessions

abbrev pub has_session : State → List ℕ → Bool
has_session st name = list_any (is_named name) st.sessions

abbrev pub with_session : Session → State → State
with_session s st = record st { sessions = st.sessions ++ s ∷ [] }

-- no two sessions have one name, so the first of the name is the only one
abbrev pub without_session : List ℕ → State → State
without_session name st = record st { sessions = without_first (is_named name) st.sessions }

abbrev pub at_version : ℕ → Session → Session
at_version version s = record s { version = version }

abbrev pub renewed_session : List ℕ → State → State
renewed_session name st = record st { sessions = change_first (is_named name) (at_version st.stored.version) st.sessions }

-- No session is at a later version than the door.
abbrev pub NoneAhead : State → Type 0
NoneAhead st = AllByRecursion (λ (s : Session). s.version ≤ st.stored.version) st.sessions

-- Each session is stale: it was opened or last renewed at an earlier version.
abbrev pub AllStale : State → Type 0
AllStale st = AllByRecursion (λ (s : Session). s.version < st.stored.version) st.sessions
