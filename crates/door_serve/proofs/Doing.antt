-- What requests do, from what their parts do.
use Rattle.std.proofs.Common.{◌≡◌, ℕ, List, [], Option, refl, ap, sym, ◌∙◌, subst, inl, inr}
use Rattle.std.specs.Prelude.{IsErrAnd, Result, Ok, Err}
use Rattle.app_flow.specs.Files.{Files}
use Rattle.app_flow.proofs.OutsideLemmas.{read-none}
use Rattle.app_store.specs.Calls.{Call}
use Rattle.app_store.specs.Headline.{IsHeld}
use Rattle.store_keeper.specs.declared.keeper.KeepCall.{KeepCall}
use Rattle.store_keeper.specs.Content.{Content, replaced}
use Rattle.store_keeper.specs.Stored.{Stored, IsStored}
use Rattle.door_meaning.specs.declared.reply.Reply as code
use Rattle.door_meaning.specs.Replies.{Reply, reply_data}
use Rattle.door_meaning.specs.Sessions.{Outcome, outcome_of}
use Rattle.door_meaning.specs.Records.{unchanged}
use Rattle.door_meaning.specs.State.{State}
use Rattle.door_serve.specs.Changing.{Changes}
use Rattle.door_judge.specs.Coming.{Comes}
use Rattle.door_serve.specs.Doing.{Does, Ends, Never}
use Rattle.door_serve.specs.Stepping.{looked}
use Rattle.door_serve.specs.declared.door_err.DoorErr.{DoorErr}
use Rattle.door_serve.specs.declared.door_err.DoorErr.TheVariants.{ReadFault, StoreFault, OutOfMemory}
use Rattle.door_judge.specs.declared.halt.Halt.{Halt}
use Rattle.door_judge.specs.declared.halt.Halt.TheVariants as halt
use Rattle.door_serve.proofs.Ending.{held-replaced, kept-none}

module _ {F K : Type 0} (files : F → Option Files) (fetched : F → Option (List (List ℕ))) (unread : F → ℕ) (content : K → Content) (kept : K → Option (List KeepCall)) (unkept : K → ℕ) where
  module _ (may_fetch may_fetch_wider : List Call → Type 0) (widens : (calls : List Call) → may_fetch calls → may_fetch_wider calls) (answers wider : List Call → Outcome → Type 0) (wide : (calls : List Call) (outcome : Outcome) → answers calls outcome → wider calls outcome) (st : State) (shelf shelf_after : F) (store store_after : K) where
    ends-wider : (calls : List Call) (made : List KeepCall) (end : Result code.Reply DoorErr) (after : State) → Ends answers st calls made end after → Ends wider st calls made end after
    ends-wider calls made (Ok answer) after e = (e.0, wide calls e.0 e.1, e.2, e.3, e.4)
    ends-wider calls made (Err err) after e = (
      e.0,
      elim e.1 [
        | inl none ↦ inl none
        | inr some ↦ inr (some.0, wide calls some.0 some.1, some.2)
      ],
    )

    -- the outcomes of a request are outcomes of its line
    pub does-wider : (end : Result code.Reply DoorErr) (after : State) → Does files fetched unread content kept unkept may_fetch answers st shelf shelf_after store store_after end after
        → Does files fetched unread content kept unkept may_fetch_wider wider st shelf shelf_after store store_after end after
    does-wider end after does = record {
      calls = does.calls;
      made = does.made;
      fetches = widens does.calls does.fetches;
      ends = ends-wider does.calls does.made end after does.ends;
      read = does.read;
      kept_so = does.kept_so;
      told = does.told;
      stored = does.stored;
    }

  module _ (may_fetch : List Call → Type 0) (may_none : may_fetch []) (answers : List Call → Outcome → Type 0) (st : State) (shelf : F) (store : K) (held : IsHeld (content store) st.stored) where
    -- neither the shelf nor the store is called, and what is stored stays
    pub does-nothing : (outcome : Outcome) (answer : code.Reply) (after : State) → answers [] outcome → reply_data answer ≡ outcome.reply → after ≡ outcome.state
        → outcome.state.stored ≡ st.stored → Does files fetched unread content kept unkept may_fetch answers st shelf shelf store store (Ok answer) after
    does-nothing outcome answer after comes replied kept_state same =
        let stored : after.stored ≡ st.stored = ap (λ (s : State). s.stored) kept_state ∙ same in
        record {
          calls = [];
          made = [];
          fetches = may_none;
          ends = (outcome, comes, replied, kept_state, Never refl same);
          read = read-none files fetched unread shelf (Ok answer ≡ Err ReadFault) (λ e. cc);
          kept_so = kept-none content kept unkept store (Ok answer ≡ Err StoreFault) (λ e. cc);
          told = held-replaced (content store) st.stored held.told ∙ ap (λ (s : Stored). replaced s (content store)) (sym stored);
          stored = subst IsStored (sym stored) held.stored;
        }

    pub does-starve : (after : State) → after ≡ st → Does files fetched unread content kept unkept may_fetch answers st shelf shelf store store (Err OutOfMemory) after
    does-starve after same =
        let stored : after.stored ≡ st.stored = ap (λ (s : State). s.stored) same in
        record {
          calls = [];
          made = [];
          fetches = may_none;
          ends = (same, inl refl);
          read = read-none files fetched unread shelf (Err OutOfMemory ≡ Err ReadFault) (λ e. cc);
          kept_so = kept-none content kept unkept store (Err OutOfMemory ≡ Err StoreFault) (λ e. cc);
          told = held-replaced (content store) st.stored held.told ∙ ap (λ (s : Stored). replaced s (content store)) (sym stored);
          stored = subst IsStored (sym stored) held.stored;
        }

    pub does-starve-end : (end : Result code.Reply DoorErr) (after : State) → IsErrAnd end (λ e. e ≡ OutOfMemory) → after ≡ st
        → Does files fetched unread content kept unkept may_fetch answers st shelf shelf store store end after
    does-starve-end (Ok answer) after is same = absurd is
    does-starve-end (Err e) after is same =
        subst (λ (x : DoorErr). Does files fetched unread content kept unkept may_fetch answers st shelf shelf store store (Err x) after) (sym is) (does-starve after same)

    -- a request that only looks
    pub does-look : (stage : Result Outcome Reply) (end : Result code.Reply Halt) → ((outcome : Outcome) → outcome ≡ outcome_of st stage → answers [] outcome)
        → Comes stage (λ reply. unchanged (reply_data reply) st) end → Does files fetched unread content kept unkept may_fetch answers st shelf shelf store store (looked end) st
    does-look stage (Ok answer) comes is =
        does-nothing (unchanged (reply_data answer) st) answer st (comes (unchanged (reply_data answer) st) (sym (ap (outcome_of st) is))) refl refl refl
    does-look stage (Err (halt.Replied answer)) comes is =
        does-nothing (unchanged (reply_data answer) st) answer st (comes (unchanged (reply_data answer) st) (sym (ap (outcome_of st) is))) refl refl refl
    does-look stage (Err halt.OutOfMemory) comes is = does-starve st refl

    -- a request that changes records
    pub does-change : (outcome : Outcome) (store_after : K) (end : Result code.Reply DoorErr) (after : State) → answers [] outcome
        → Changes content kept unkept outcome st store store_after end after
        → Does files fetched unread content kept unkept may_fetch answers st shelf shelf store store_after end after
    does-change outcome store_after (Ok answer) after comes changes = record {
      calls = [];
      made = changes.made;
      fetches = may_none;
      ends = (outcome, comes, changes.ends.0, changes.ends.1, changes.ends.2);
      read = read-none files fetched unread shelf (Ok answer ≡ Err ReadFault) (λ e. cc);
      kept_so = changes.kept_so;
      told = changes.told;
      stored = changes.stored;
    }
    does-change outcome store_after (Err err) after comes changes = record {
      calls = [];
      made = changes.made;
      fetches = may_none;
      ends = (
        changes.ends.0,
        elim changes.ends.2 [
          | inl none ↦ inl none
          | inr asked ↦ inr (outcome, comes, asked)
        ],
      );
      read = read-none files fetched unread shelf (Err err ≡ Err ReadFault) (λ e. changes.ends.1 (let same : err ≡ ReadFault = cc in same));
      kept_so = changes.kept_so;
      told = changes.told;
      stored = changes.stored;
    }
