-- A line that the door was given, and what was put out then.
use Rattle.std.proofs.Common.{◌≡◌, ℕ, true, false, List, [], Option, refl, ap, sym, ◌∙◌, subst, inl, inr}
use Rattle.std.specs.Prelude.{Result, Ok, Err}
use Rattle.app_flow.specs.Faults.{Rose}
use Rattle.app_flow.specs.Files.{Files}
use Rattle.app_flow.specs.Told.{Appends, AppendsFront}
use Rattle.app_flow.proofs.OutsideLemmas.{read-none}
use Rattle.app_store.specs.Headline.{IsHeld}
use Rattle.app_store.proofs.Ran.{kept-none}
use Rattle.door_meaning.specs.declared.put.PutErr.{PutErr}
use Rattle.door_meaning.specs.declared.put.PutErr.TheVariants as put
use Rattle.door_meaning.specs.declared.reply.Reply as code
use Rattle.door_meaning.specs.declared.reply.Reply.TheVariants as made
use Rattle.door_meaning.specs.Replies.{BadLine, Reply, reply_data, reply_text, tells_change}
use Rattle.door_meaning.specs.Sessions.{Outcome}
use Rattle.door_meaning.specs.State.{State}
use Rattle.door_meaning.specs.Step.{Cut, DoorStep, Line, LineMayFetch, TooLong, Unasked, most_line_bytes}
use Rattle.door_serve.specs.declared.door_err.DoorErr.{DoorErr}
use Rattle.door_serve.specs.declared.door_err.DoorErr.TheVariants as door
use Rattle.door_serve.specs.Doing.{Does, Drops, IsAsked, Never, Puts, Replaces}
use Rattle.door_serve.proofs.Migrating.{held-stays}
use Rattle.store_keeper.specs.declared.keeper.KeepCall.{KeepCall}
use Rattle.store_keeper.specs.Content.{Content, replaced}
use Rattle.app_serve.specs.declared.serve_err.ServeErr.{ServeErr}
use Rattle.app_serve.specs.declared.service.Turn.{Turn}
use Rattle.app_serve.specs.declared.service.Turn.TheVariants.{Answered}
use Rattle.app_serve.specs.Ends.{of_door, of_put}
use Rattle.app_serve.specs.Replied.{IsReplied, Put, Unanswered}
use Rattle.app_serve.specs.Replied as replied

told-both : (outcome : Outcome) (reply : Reply) → reply ≡ outcome.reply → tells_change reply ≡ false → tells_change outcome.reply ≡ true → ⊥
told-both outcome reply same tells changes =
    let never : true ≡ false = sym changes ∙ ap tells_change (sym same) ∙ tells in
    cc

-- a reply that tells of no change was asked of no store
asked-nothing : (st : State) (outcome : Outcome) (reply : Reply) (made : List KeepCall) → reply ≡ outcome.reply → tells_change reply ≡ false → IsAsked st outcome made → made ≡ []
asked-nothing st outcome reply made same tells (Never none stays) = none
asked-nothing st outcome reply made same tells (Puts one changes) = absurd (told-both outcome reply same tells changes)
asked-nothing st outcome reply made same tells (Drops one changes) = absurd (told-both outcome reply same tells changes)
asked-nothing st outcome reply made same tells (Replaces one rises changes) = absurd (told-both outcome reply same tells changes)

module _ {F K W : Type 0} (files : F → Option Files) (fetched : F → Option (List (List ℕ))) (unread : F → ℕ) (content : K → Content) (kept : K → Option (List KeepCall)) (unkept : K → ℕ) (told : W → Option (List ℕ)) (unwritten : W → ℕ) (line : Line) (st after : State) (shelf shelf_after : F) (store store_after : K) where
  same-content : (out : W) (err : DoorErr) → IsHeld (content store) st.stored
      → Does files fetched unread content kept unkept (LineMayFetch st line) (DoorStep (files shelf) st line) st shelf shelf_after store store_after (Err err) after → content store_after ≡ content store
  same-content out err held d = d.told ∙ ap (λ (z : State). replaced z.stored (content store)) d.ends.0 ∙ sym (held-stays (content store) st.stored held)

  -- the door has no reply
  pub not-answered : (out : W) (err : DoorErr) (result : Result Turn ServeErr) → IsHeld (content store) st.stored
      → (d : Does files fetched unread content kept unkept (LineMayFetch st line) (DoorStep (files shelf) st line) st shelf shelf_after store store_after (Err err) after) → result ≡ Err (of_door err)
      → IsReplied (Rose (unread shelf) (unread shelf_after)) (Rose (unwritten out) (unwritten out)) (Rose (unkept store) (unkept store_after)) (files shelf) st after line d.calls (content store) (content store_after) (told out) (told out) Answered result
  not-answered out door.ReadFault result held d is = Unanswered d.fetches (same-content out door.ReadFault held d) refl (inl (is, d.read.counted refl))
  not-answered out door.StoreFault result held d is = Unanswered d.fetches (same-content out door.StoreFault held d) refl (inr (inl (is, d.kept_so.counted refl)))
  not-answered out door.OutOfMemory result held d is = Unanswered d.fetches (same-content out door.OutOfMemory held d) refl (inr (inr is))

  -- the reply was not put out, or a front of it
  pub not-put : (answer : code.Reply) (out out_after : W) (err : PutErr) (result : Result Turn ServeErr) (r : Result (Unit {0}) PutErr) → r ≡ Err err
      → (d : Does files fetched unread content kept unkept (LineMayFetch st line) (DoorStep (files shelf) st line) st shelf shelf_after store store_after (Ok answer) after) → result ≡ Err (of_put err)
      → AppendsFront (told out) (told out_after) (reply_text (reply_data answer)) → (r ≡ Err put.OutOfMemory → out_after ≡ out)
      → (r ≡ Err put.OutOfMemory → tells_change (reply_data answer) ≡ false) → (r ≡ Err put.WriteFault → Rose (unwritten out) (unwritten out_after))
      → IsReplied (Rose (unread shelf) (unread shelf_after)) (Rose (unwritten out) (unwritten out_after)) (Rose (unkept store) (unkept store_after)) (files shelf) st after line d.calls (content store) (content store_after) (told out) (told out_after) Answered result
  not-put answer out out_after put.WriteFault result r was d is front same tells rose =
      let outcome = d.ends.0 in
      replied.Cut outcome d.ends.1 d.ends.3 (d.told ∙ ap (λ (z : State). replaced z.stored (content store)) d.ends.3) is (rose was)
      (subst (λ (r : Reply). AppendsFront (told out) (told out_after) (reply_text r)) d.ends.2 front)
  not-put answer out out_after put.OutOfMemory result r was d is front same tells rose =
      let none = asked-nothing st d.ends.0 (reply_data answer) d.made d.ends.2 (tells was) d.ends.4 in
      Unanswered d.fetches (ap content (d.kept_so.silent none)) (ap told (same was)) (inr (inr is))

  -- the reply was put out
  pub put-whole : (answer : code.Reply) (out out_after : W)
      → (d : Does files fetched unread content kept unkept (LineMayFetch st line) (DoorStep (files shelf) st line) st shelf shelf_after store store_after (Ok answer) after)
      → Appends (told out) (told out_after) (reply_text (reply_data answer))
      → IsReplied (Rose (unread shelf) (unread shelf_after)) (Rose (unwritten out) (unwritten out_after)) (Rose (unkept store) (unkept store_after)) (files shelf) st after line d.calls (content store) (content store_after) (told out) (told out_after) Answered (Ok Answered)
  put-whole answer out out_after d appends =
      Put d.ends.0 d.ends.1 d.ends.3 (d.told ∙ ap (λ (z : State). replaced z.stored (content store)) d.ends.3) refl
      (subst (λ (r : Reply). Appends (told out) (told out_after) (reply_text r)) d.ends.2 appends)

-- a line that is too long
pub cut-does : {F K : Type 0} (files : F → Option Files) (fetched : F → Option (List (List ℕ))) (unread : F → ℕ) (content : K → Content) (kept : K → Option (List KeepCall)) (unkept : K → ℕ) (st : State) (shelf : F) (store : K)
    → IsHeld (content store) st.stored → Does files fetched unread content kept unkept (LineMayFetch st Cut) (DoorStep (files shelf) st Cut) st shelf shelf store store (Ok (made.BadLine most_line_bytes)) st
cut-does files fetched unread content kept unkept st shelf store held = record {
  calls = [];
  made = [];
  fetches = Unasked refl;
  ends = (record { reply = BadLine most_line_bytes; state = st }, TooLong, refl, refl, Never refl refl);
  read = read-none files fetched unread shelf _ (λ e. cc);
  kept_so = kept-none kept unkept store _ (λ e. cc);
  told = held-stays (content store) st.stored held;
  stored = held.stored;
}
