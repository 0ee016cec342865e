-- How requests that change records end.
use Rattle.std.proofs.Common.{◌≡◌, ℕ, List, [], ◌∷◌, Option, None, Some, refl, ap, sym, ◌∙◌, subst, arith, inl, inr}
use Rattle.std.specs.Prelude.{IfOk, IfSome, IsErrAnd, IsSomeAnd, OnErr, OnOk, Result, Ok, Err}
use Rattle.std.specs.Option.{option_map}
use Rattle.app_flow.proofs.ToldLemmas.{Appends-none}
use Rattle.app_store.specs.Headline.{IsHeld}
use Rattle.app_store.specs.Told.{IsKept}
use Rattle.data_meaning.specs.Database.{Database}
use Rattle.store_keeper.specs.declared.keeper.KeepCall.{KeepCall}
use Rattle.store_keeper.specs.Content.{Content, changed, replaced}
use Rattle.store_keeper.specs.Stored.{Stored, IsStored}
use Rattle.door_meaning.specs.declared.reply.Reply as code
use Rattle.door_meaning.specs.Records.{with_base}
use Rattle.door_meaning.specs.Replies.{Reply, reply_data}
use Rattle.door_meaning.specs.Sessions.{Outcome, outcome_of}
use Rattle.door_meaning.specs.State.{State}
use Rattle.door_serve.specs.Changing.{Changes, Keeps, ended}
use Rattle.door_serve.specs.Doing.{IsAsked, Never}
use Rattle.door_serve.specs.declared.door_err.DoorErr.{DoorErr}
use Rattle.door_serve.specs.declared.door_err.DoorErr.TheVariants.{StoreFault, OutOfMemory}
use Rattle.door_judge.specs.declared.halt.Halt.{Halt}
use Rattle.door_judge.specs.declared.halt.Halt.TheVariants as halt

-- ---- what a store tells

pub held-replaced : (c : Content) (s : Stored) → IfSome c (λ held. held ≡ Some s) → c ≡ replaced s c
held-replaced None s held = refl
held-replaced (Some x) s held = ap (λ (o : Option Stored). Some o) held

pub held-changed : (c after : Content) (s new : Stored) (change : Stored → Stored) → IfSome c (λ held. held ≡ Some s) → change s ≡ new → after ≡ changed change c → after ≡ replaced new c
held-changed None after s new change held is told = told
held-changed (Some x) after s new change held is told =
    told ∙ ap (λ (o : Option Stored). Some (option_map change o)) held ∙ ap (λ (t : Stored). Some (Some t)) is

-- it holds what the door keeps again
pub held-again : (c after : Content) (s : Stored) → after ≡ replaced s c → IsStored s → IsHeld after s
held-again c after s told stored = subst (λ (t : Content). IsHeld t s) (sym told) (record { told = go c; stored = stored })
  where
    go : (t : Content) → IfSome (replaced s t) (λ held. held ≡ Some s)
    go None = tt
    go (Some x) = refl

-- why a part goes no further
abbrev pub IsStop : {A : Type 0} → Result A Reply → Halt → Type 0
IsStop part (halt.Replied answer) = part ≡ Err (reply_data answer)
IsStop part halt.OutOfMemory = Unit {0}

-- what holds of what a store tells, holds of what it holds
pub held-so : (c : Content) (s : Stored) (P : Stored → Type 0) → IfSome c (λ held. held ≡ Some s) → P s → IfSome c (λ held. IsSomeAnd held P)
held-so None s P held p = tt
held-so (Some x) s P held p = subst (λ (o : Option Stored). IsSomeAnd o P) (sym held) p

-- this database in the place of that which the door keeps
abbrev pub based : State → Database → State
based st d = record st { stored = record st.stored { base = d } }

pub based-same : (st : State) (d : Database) → d ≡ st.stored.base → based st d ≡ st
based-same st d same = ap (λ (x : Database). based st x) same

module _ {K : Type 0} (content : K → Content) (kept : K → Option (List KeepCall)) (unkept : K → ℕ) where
  pub kept-none : (s : K) (failed : Type 0) → ¬ failed → IsKept kept unkept s s [] failed
  kept-none s failed never = record {
    called = Appends-none (kept s);
    silent = λ none. refl;
    counted = λ fault. absurd (never fault);
    never_falls = omega arith;
  }

  module _ (st : State) (store : K) (held : IsHeld (content store) st.stored) where
    told-same : (after : State) → after ≡ st → content store ≡ replaced after.stored (content store)
    told-same after same = held-replaced (content store) st.stored held.told ∙ ap (λ (s : State). replaced s.stored (content store)) (sym same)

    stored-same : (after : State) → after ≡ st → IsStored after.stored
    stored-same after same = subst (λ (s : State). IsStored s.stored) (sym same) held.stored

    -- there is no memory, and the store was not called
    pub starved : (outcome : Outcome) (after : State) → after ≡ st → Changes content kept unkept outcome st store store (Err OutOfMemory) after
    starved outcome after same = record {
      made = [];
      ends = (same, (λ e. cc), inl refl);
      kept_so = kept-none store (Err OutOfMemory ≡ Err StoreFault) (λ e. cc);
      told = told-same after same;
      stored = stored-same after same;
    }

    pub starved-end : (outcome : Outcome) (after : State) (end : Result code.Reply DoorErr) → IsErrAnd end (λ e. e ≡ OutOfMemory) → after ≡ st
        → Changes content kept unkept outcome st store store end after
    starved-end outcome after (Ok answer) is same = absurd is
    starved-end outcome after (Err e) is same =
        subst (λ (x : DoorErr). Changes content kept unkept outcome st store store (Err x) after) (sym is) (starved outcome after same)

    -- it is refused
    pub refused : (stage : Result Outcome Reply) (answer : code.Reply) (after : State) → stage ≡ Err (reply_data answer) → after ≡ st
        → Changes content kept unkept (outcome_of st stage) st store store (Ok answer) after
    refused stage answer after is same =
        subst (λ (r : Result Outcome Reply). Changes content kept unkept (outcome_of st r) st store store (Ok answer) after) (sym is) (record {
          made = [];
          ends = (refl, same, Never refl refl);
          kept_so = kept-none store (Ok answer ≡ Err StoreFault) (λ e. cc);
          told = told-same after same;
          stored = stored-same after same;
        })

    -- a part of it goes no further, and so it does not
    pub halted : {A : Type 0} (stage : Result Outcome Reply) (part : Result A Reply) (stop : Halt) (end : Result code.Reply DoorErr) (after : State) → end ≡ ended stop
        → IsStop part stop → ((reply : Reply) → part ≡ Err reply → stage ≡ Err reply) → after ≡ st → Changes content kept unkept (outcome_of st stage) st store store end after
    halted stage part stop end after is stops on same =
        subst (λ (r : Result code.Reply DoorErr). Changes content kept unkept (outcome_of st stage) st store store r after) (sym is) (go stop stops)
      where
        go : (halt : Halt) → IsStop part halt → Changes content kept unkept (outcome_of st stage) st store store (ended halt) after
        go (halt.Replied answer) stops = refused stage answer after (on (reply_data answer) stops) same
        go halt.OutOfMemory stops = starved (outcome_of st stage) after same

    module _ (store_after : K) (change : Stored → Stored) (call : KeepCall) where
      -- the store holds it, and so does the door
      pub carried-out : {A : Type 0} (x : A) (stage : Result Outcome Reply) (outcome : Outcome) (answer : code.Reply) (after : State)
          → Keeps content kept unkept change call store store_after (Ok x) → stage ≡ Ok outcome → reply_data answer ≡ outcome.reply → after ≡ outcome.state
          → IsAsked st outcome (call ∷ []) → change st.stored ≡ outcome.state.stored → IsStored outcome.state.stored
          → Changes content kept unkept (outcome_of st stage) st store store_after (Ok answer) after
      carried-out x stage outcome answer after keeps is replied state asked new stored =
          subst (λ (r : Result Outcome Reply). Changes content kept unkept (outcome_of st r) st store store_after (Ok answer) after) (sym is) (record {
            made = call ∷ [];
            ends = (replied, state, asked);
            kept_so = record {
              called = keeps.kept_so.called;
              silent = keeps.kept_so.silent;
              counted = λ fault. cc;
              never_falls = keeps.kept_so.never_falls;
            };
            told = held-changed (content store) (content store_after) st.stored after.stored change held.told (new ∙ ap (λ (s : State). s.stored) (sym state)) keeps.done;
            stored = subst (λ (s : State). IsStored s.stored) (sym state) stored;
          })

      -- the store did not take it
      pub failed : {A : Type 0} (e : DoorErr) (stage : Result Outcome Reply) (outcome : Outcome) (after : State) → Keeps {K = K} {A = A} content kept unkept change call store store_after (Err e)
          → stage ≡ Ok outcome → IsAsked st outcome (call ∷ []) → after ≡ st → Changes content kept unkept (outcome_of st stage) st store store_after (Err e) after
      failed {A} e stage outcome after keeps is asked same =
          subst (λ (r : Result Outcome Reply). Changes content kept unkept (outcome_of st r) st store store_after (Err e) after) (sym is) (record {
            made = call ∷ [];
            ends = (same, (λ read. keeps.not_read (ap (λ (x : DoorErr). let r : Result A DoorErr = Err x in r) read)), inr asked);
            kept_so = record {
              called = keeps.kept_so.called;
              silent = keeps.kept_so.silent;
              counted = λ fault. let e_is : e ≡ StoreFault = cc in keeps.kept_so.counted (ap (λ (x : DoorErr). let r : Result A DoorErr = Err x in r) e_is);
              never_falls = keeps.kept_so.never_falls;
            };
            told = keeps.same ∙ told-same after same;
            stored = stored-same after same;
          })

      -- either of both, over another database
      pub ends-based : (reply : code.Reply) (new base_after : Database) (end : Result code.Reply DoorErr) (stage : Result Outcome Reply)
          → Keeps content kept unkept change call store store_after end → stage ≡ Ok (with_base (reply_data reply) new st) → IfOk end (λ answer. answer ≡ reply)
          → OnOk end (base_after ≡ new) → OnErr end (base_after ≡ st.stored.base) → IsAsked st (with_base (reply_data reply) new st) (call ∷ [])
          → change st.stored ≡ (based st new).stored → IsStored (based st new).stored
          → Changes content kept unkept (outcome_of st stage) st store store_after end (based st base_after)
      ends-based reply new base_after (Ok answer) stage keeps is replied done same asked changed_so stored =
          carried-out answer stage (with_base (reply_data reply) new st) answer (based st base_after) keeps is (ap reply_data replied) (ap (λ (x : Database). based st x) done) asked
          changed_so stored
      ends-based reply new base_after (Err e) stage keeps is replied done same asked changed_so stored =
          failed e stage (with_base (reply_data reply) new st) (based st base_after) keeps is asked (based-same st base_after same)
