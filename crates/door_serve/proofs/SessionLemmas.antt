-- What the calls on sessions come to.
use Rattle.std.proofs.Common.{◌≡◌, ℕ, Bool, true, false, not, List, Option, None, Some, refl, ap, sym, ◌∙◌, subst}
use Rattle.std.specs.Prelude.{Result, Ok, Err, IfOk}
use Rattle.std.specs.List.{find, list_any}
use Rattle.data_meaning.specs.declared.principals.Principal.{Principal}
use Rattle.data_records.specs.Changed.{change_first}
use Rattle.data_records.specs.Removed.{without_first}
use Rattle.store_keeper.specs.declared.stored.Stored as code
use Rattle.store_keeper.specs.Stored.{stored_of}
use Rattle.door_meaning.specs.declared.reply.Reply.{Reply}
use Rattle.door_meaning.specs.declared.reply.Reply.TheVariants as made
use Rattle.door_meaning.specs.declared.session.Session.{Session}
use Rattle.door_meaning.specs.Orders.{finds, goes, stops, unless}
use Rattle.door_meaning.specs.Replies as plain
use Rattle.door_meaning.specs.Names.{principal_named}
use Rattle.door_meaning.specs.Records.{unchanged}
use Rattle.door_meaning.specs.Replies.{reply_data}
use Rattle.door_meaning.specs.Sessions.{Outcome, added, closed, entered, has_principal, join_refusal, joined, opened, outcome_of, renewed}
use Rattle.door_requests.specs.declared.requests.Who.{Who}
use Rattle.type_schema.specs.SchemaViews.{schema_of}
use Rattle.door_meaning.specs.State.{State, at_version, is_named, renewed_session, without_session}
use Rattle.door_serve.specs.declared.door.Door.{Door}
use Rattle.door_serve.specs.DoorState.{Gives, state_of}

abbrev state_with : code.Stored → List Session → State
state_with stored sessions = record { stored = stored_of stored; sessions = sessions }

-- the same is stored, with these sessions
same_state : (after : Door) (stored : code.Stored) (sessions : List Session) → after.stored ≡ stored → after.sessions ≡ sessions → state_of after ≡ state_with stored sessions
same_state after stored sessions e f = ap (λ (s : code.Stored). state_with s after.sessions) e ∙ ap (λ (l : List Session). state_with stored l) f

-- nothing is done
pub left : (d : Door) (answer : Reply) (reply : plain.Reply) → plain.reply_data answer ≡ reply → Gives (record { reply = reply; state = state_of d }) answer d
left d answer reply e = record { replied = e; kept = refl }

module _ (d : Door) (name : List ℕ) where
  pub close_none : list_any (is_named name) d.sessions ≡ false → Gives (closed (state_of d) name) made.NoSession d
  close_none none =
      subst (λ b. Gives (outcome_of (state_of d) (goes (unless (not b) plain.NoSession) (λ _. Ok (record { reply = plain.Done; state = without_session name (state_of d) })))) made.NoSession d) (sym none)
      (left d made.NoSession plain.NoSession refl)

  pub close_done : (after : Door) → list_any (is_named name) d.sessions ≡ true → after.stored ≡ d.stored → after.sessions ≡ without_first (is_named name) d.sessions
      → Gives (closed (state_of d) name) made.Done after
  close_done after some stored sessions =
      subst (λ b. Gives (outcome_of (state_of d) (goes (unless (not b) plain.NoSession) (λ _. Ok (record { reply = plain.Done; state = without_session name (state_of d) })))) made.Done after) (sym some)
      (record { replied = refl; kept = same_state after d.stored (without_first (is_named name) d.sessions) stored sessions })

  abbrev renewal : Bool → Outcome
  renewal b = outcome_of (state_of d) (goes (unless (not b) plain.NoRecord)
      (λ _. Ok (record { reply = plain.Version (stored_of d.stored).version; state = renewed_session name (state_of d) })))

  abbrev found : Option Session → Outcome
  found o = outcome_of (state_of d) (goes (finds o plain.NoSession) (λ (s : Session). goes (unless (not (has_principal (state_of d) s)) plain.NoRecord)
      (λ _. Ok (record { reply = plain.Version (stored_of d.stored).version; state = renewed_session name (state_of d) }))))

  pub renew_none : find (is_named name) d.sessions ≡ None → Gives (renewed (state_of d) name) made.NoSession d
  renew_none none = subst (λ (o : Option Session). Gives (found o) made.NoSession d) (sym none) (left d made.NoSession plain.NoSession refl)

  pub renew_gone : (s : Session) → find (is_named name) d.sessions ≡ Some s → has_principal (state_of d) s ≡ false → Gives (renewed (state_of d) name) made.NoRecord d
  renew_gone s is gone =
      subst (λ (o : Option Session). Gives (found o) made.NoRecord d) (sym is)
      (subst (λ b. Gives (renewal b) made.NoRecord d) (sym gone) (left d made.NoRecord plain.NoRecord refl))

  pub renew_done : (s : Session) (after : Door) (version : ℕ) → find (is_named name) d.sessions ≡ Some s → has_principal (state_of d) s ≡ true → version ≡ d.stored.version
      → after.stored ≡ d.stored → after.sessions ≡ change_first (is_named name) (at_version d.stored.version) d.sessions
      → Gives (renewed (state_of d) name) (made.Version version) after
  renew_done s after version is there v stored sessions =
      subst (λ (o : Option Session). Gives (found o) (made.Version version) after) (sym is)
      (subst (λ b. Gives (renewal b) (made.Version version) after) (sym there)
      (record {
        replied = ap plain.Version v;
        kept = same_state after d.stored (change_first (is_named name) (at_version d.stored.version) d.sessions) stored sessions;
      }))

  abbrev entry : Bool → Principal → Outcome
  entry b who = outcome_of (state_of d) (goes (unless b plain.SessionTaken) (λ _. joined (state_of d) name who))

  pub entered_taken : (who : Principal) → list_any (is_named name) d.sessions ≡ true → entered (state_of d) name who ≡ unchanged plain.SessionTaken (state_of d)
  entered_taken who some = ap (λ b. entry b who) some

  pub entered_free : (who : Principal) → list_any (is_named name) d.sessions ≡ false → entered (state_of d) name who ≡ outcome_of (state_of d) (joined (state_of d) name who)
  entered_free who none = ap (λ b. entry b who) none

  abbrev naming : Bool → Result Principal plain.Reply → Outcome
  naming b r = outcome_of (state_of d) (goes (unless b plain.SessionTaken) (λ _. goes r (joined (state_of d) name)))

  pub opened_taken : (who : Who) → list_any (is_named name) d.sessions ≡ true → opened (state_of d) name who ≡ unchanged plain.SessionTaken (state_of d)
  opened_taken who some = ap (λ b. naming b (principal_named (schema_of d.stored.schema) who)) some

  pub opened_unknown : (who : Who) (reply : plain.Reply) → list_any (is_named name) d.sessions ≡ false → principal_named (schema_of d.stored.schema) who ≡ Err reply
      → opened (state_of d) name who ≡ unchanged reply (state_of d)
  opened_unknown who reply none is = ap (λ b. naming b (principal_named (schema_of d.stored.schema) who)) none ∙ ap (naming false) is

  pub opened_free : (who : Who) (named : Principal) → list_any (is_named name) d.sessions ≡ false → principal_named (schema_of d.stored.schema) who ≡ Ok named
      → opened (state_of d) name who ≡ outcome_of (state_of d) (joined (state_of d) name named)
  opened_free who named none is = ap (λ b. naming b (principal_named (schema_of d.stored.schema) who)) none ∙ ap (naming false) is

  abbrev joining : Option plain.Reply → Principal → Outcome
  joining o who = outcome_of (state_of d) (goes (stops o) (λ _. Ok (added (state_of d) name who)))

  pub joined_refused : (who : Principal) (reply : plain.Reply) → Some reply ≡ join_refusal (state_of d) who
      → outcome_of (state_of d) (joined (state_of d) name who) ≡ unchanged reply (state_of d)
  joined_refused who reply is = ap (λ o. joining o who) (sym is)

  pub joined_added : (who : Principal) → None ≡ join_refusal (state_of d) who → outcome_of (state_of d) (joined (state_of d) name who) ≡ added (state_of d) name who
  joined_added who is = ap (λ o. joining o who) (sym is)

-- a refusal leaves all as it was
pub refused : (d : Door) (answer : Reply) (outcome : Outcome) → outcome ≡ unchanged (reply_data answer) (state_of d) → Gives outcome answer d
refused d answer outcome is = record { replied = sym (ap (λ (o : Outcome). o.reply) is); kept = sym (ap (λ (o : Outcome). o.state) is) }

-- the same outcome in other words
pub given_as : {E : Type 0} (r : Result Reply E) (after : Door) (outcome other : Outcome) → other ≡ outcome → IfOk r (λ answer. Gives outcome answer after) → IfOk r (λ answer. Gives other answer after)
given_as r after outcome other is = subst (λ (o : Outcome). IfOk r (λ answer. Gives o answer after)) (sym is)
