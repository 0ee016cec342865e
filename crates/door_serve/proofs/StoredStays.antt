-- Requests on sessions leave what is stored.
use Rattle.std.proofs.Common.{◌≡◌, ℕ, Bool, true, false, List, Option, None, Some, refl}
use Rattle.std.specs.Prelude.{not, Result, Ok, Err}
use Rattle.data_meaning.specs.declared.principals.Principal.{Principal}
use Rattle.door_requests.specs.declared.requests.Who.{Who}
use Rattle.door_meaning.specs.Names.{principal_named}
use Rattle.door_meaning.specs.Orders.{finds, goes, stops, unless}
use Rattle.door_meaning.specs.Replies.{Reply, Done, NoRecord, NoSession, SessionTaken, Version}
use Rattle.door_meaning.specs.Sessions.{Outcome, added, closed, has_principal, join_refusal, joined, opened, outcome_of, renewed}
use Rattle.door_meaning.specs.State.{State, has_session, renewed_session, session_named, without_session}
use Rattle.door_meaning.specs.declared.session.Session.{Session}
use Rattle.store_keeper.specs.Stored.{Stored}

module _ (st : State) (name : List ℕ) where
  -- what is stored after a stage
  abbrev after : Result Outcome Reply → Stored
  after stage = (outcome_of st stage).state.stored

  pub opened-stays : (who : Who) → (opened st name who).state.stored ≡ st.stored
  opened-stays who =
      elim (has_session st name) as (λ (b : Bool). after (goes (unless b SessionTaken) (λ _. goes (principal_named st.stored.schema who) (joined st name))) ≡ st.stored) [
        | true ↦ refl
        | false ↦
            elim (principal_named st.stored.schema who) as (λ (r : Result Principal Reply). after (goes r (joined st name)) ≡ st.stored) [
              | Err reply ↦ refl
              | Ok p ↦
                  elim (join_refusal st p) as (λ (o : Option Reply). after (goes (stops o) (λ _. Ok (added st name p))) ≡ st.stored) [
                    | None ↦ refl
                    | Some reply ↦ refl
                  ]
            ]
      ]

  pub closed-stays : (closed st name).state.stored ≡ st.stored
  closed-stays =
      elim (has_session st name) as (λ (b : Bool). after (goes (unless (not b) NoSession) (λ _. Ok (record { reply = Done; state = without_session name st }))) ≡ st.stored) [
        | true ↦ refl
        | false ↦ refl
      ]

  pub renewed-stays : (renewed st name).state.stored ≡ st.stored
  renewed-stays =
      elim (session_named st name) as (λ (o : Option Session).
      after (goes (finds o NoSession) (λ (s : Session). goes (unless (not (has_principal st s)) NoRecord) (λ _. Ok (record { reply = Version st.stored.version; state = renewed_session name st }))))
      ≡ st.stored) [
        | None ↦ refl
        | Some s ↦
            elim (has_principal st s) as (λ (b : Bool). after (goes (unless (not b) NoRecord) (λ _. Ok (record { reply = Version st.stored.version; state = renewed_session name st }))) ≡ st.stored) [
              | true ↦ refl
              | false ↦ refl
            ]
      ]
