-- Parts of a run, one after another.
use Rattle.std.proofs.Common.{◌≡◌, ℕ, ◌≤◌, List, [], ◌∷◌, ◌++◌, refl, sym, ap, ◌∙◌, subst, inl, inr, arith}
use Rattle.std.proofs.lemmas.Bool.{cases_lt}
use Rattle.std.specs.Prelude.{Option, Result, Ok, Err}
use Rattle.std.proofs.lemmas.Grind.{flat_map-append}
use Rattle.app_files.specs.declared.stop.Stop.TheVariants as stop
use Rattle.app_files.specs.Stages.{ComesTo, Inside, Calling, Next, Stopped, Went}
use Rattle.app_flow.specs.Files.{Files}
use Rattle.app_flow.specs.Outside.{IsRead}
use Rattle.app_flow.specs.Faults.{Rose}
use Rattle.app_flow.proofs.OutsideLemmas.{read-more, read-as, read-none}
use Rattle.app_flow.proofs.ToldLemmas.{Appends-none, Appends-then}
use Rattle.store_keeper.specs.declared.keeper.KeepCall.{KeepCall}
use Rattle.store_keeper.specs.declared.keeper.KeepCall.TheVariants.{Load}
use Rattle.store_keeper.specs.Content.{Content}
use Rattle.app_store.specs.declared.stop.StoreStop.{StoreStop}
use Rattle.app_store.specs.declared.stop.StoreStop.TheVariants.{StoreFault}
use Rattle.app_store.specs.declared.stop.StoreStop.TheVariants as why
use Rattle.app_store.specs.Calls.{Call, Fetch, Keep, fetched_by, kept_by}
use Rattle.app_store.specs.Ran.{Ran}
use Rattle.app_store.specs.Stages.{StoreStage, StorePart}
use Rattle.app_store.specs.Told.{IsKept}

-- ---- counts and lists

rose-later : (a b c : ℕ) → a ≤ b → b ≤ c → Rose b c → Rose a c
rose-later a b c before after (inl rose) = inl (omega (arith, before, rose))
rose-later a b c before after (inr last) =
    elim (cases_lt a c) [
      | inl rose ↦ inl rose
      | inr stood ↦ inr (omega (arith, before, after, last, stood))
    ]

none-before : {A : Type 0} (front back : List A) → front ++ back ≡ [] → front ≡ []
none-before [] back e = refl
none-before (x ∷ front) back e = absurd cc

none-behind : {A : Type 0} (front back : List A) → front ++ back ≡ [] → back ≡ []
none-behind [] back e = e
none-behind (x ∷ front) back e = absurd cc

-- ---- the store

module _ {K : Type 0} (calls : K → Option (List KeepCall)) (faults : K → ℕ) where
  -- some calls, and then others
  pub kept-more : (a b c : K) (made more : List KeepCall) (failed later : Type 0) → IsKept calls faults a b made failed → IsKept calls faults b c more later
      → IsKept calls faults a c (made ++ more) later
  kept-more a b c made more failed later p q = record {
    called = Appends-then (calls a) (calls b) (calls c) made more p.called q.called;
    silent = λ none. q.silent (none-behind made more none) ∙ p.silent (none-before made more none);
    counted = λ fault. rose-later (faults a) (faults b) (faults c) p.never_falls q.never_falls (q.counted fault);
    never_falls = omega (arith, p.never_falls, q.never_falls);
  }

  -- the same calls, failed in fewer cases
  pub kept-as : (a b : K) (made : List KeepCall) (failed less : Type 0) → (less → failed) → IsKept calls faults a b made failed → IsKept calls faults a b made less
  kept-as a b made failed less fewer p = record {
    called = p.called;
    silent = p.silent;
    counted = λ fault. p.counted (fewer fault);
    never_falls = p.never_falls;
  }

  -- no call
  pub kept-none : (a : K) (failed : Type 0) → ¬ failed → IsKept calls faults a a [] failed
  kept-none a failed never = record {
    called = Appends-none (calls a);
    silent = λ none. refl;
    counted = λ fault. absurd (never fault);
    never_falls = omega arith;
  }

-- ---- ends

-- a stage that never stops for this reason does not come to it
pub comes-never : {A B : Type 0} (stage : StoreStage A) (seen : B → A) (end : Result B StoreStop) (reason : StoreStop) → ¬ (stage (Err reason)) → ComesTo stage seen end → ¬ (end ≡ Err reason)
comes-never stage seen (Ok x) reason never h e = cc
comes-never stage seen (Err s) reason never h e =
    let same : s ≡ reason = cc in
    never (subst (λ (z : StoreStop). stage (Err z)) same h)

pub other-stop : {A B : Type 0} (one : Result B StoreStop) (end : Result A StoreStop) (s reason : StoreStop) → one ≡ Err s → end ≡ Err s → end ≡ Err reason → one ≡ Err reason
other-stop one end s reason was is other =
    let same : s ≡ reason = cc in
    was ∙ ap (λ (z : StoreStop). Err z) same

-- ---- parts

came-inside : {A B : Type 0} (stage : StoreStage A) (seen : B → A) (end : Result B StoreStop) → ComesTo stage seen end → ComesTo (Inside {S = StoreStop} {C = Call} stage []) seen end
came-inside stage seen (Ok x) h = (refl, h)
came-inside stage seen (Err s) h = (refl, h)

came-calling : {A B : Type 0} (call : Call) (stage : StoreStage A) (seen : B → A) (end : Result B StoreStop) → ComesTo stage seen end → ComesTo (Calling {S = StoreStop} call stage (call ∷ [])) seen end
came-calling call stage seen (Ok x) h = (refl, h)
came-calling call stage seen (Err s) h = (refl, h)

came-next : {A B C D : Type 0} (first : StorePart A) (second : A → StorePart B) (before after : List Call) (seen : C → A) (later : D → B) (x : C) (end : Result D StoreStop)
    → first before (Ok (seen x)) → ComesTo (second (seen x) after) later end → ComesTo (Next first second (before ++ after)) later end
came-next first second before after seen later x (Ok y) p q = Went (seen x) before after p q refl
came-next first second before after seen later x (Err s) p q = Went (seen x) before after p q refl

came-stopped : {A B D : Type 0} (first : StorePart A) (second : A → StorePart B) (calls : List Call) (later : D → B) (s : StoreStop) (end : Result D StoreStop)
    → first calls (Err s) → end ≡ Err s → ComesTo (Next first second calls) later end
came-stopped first second calls later s (Ok y) p e = absurd cc
came-stopped first second calls later s (Err t) p e =
    let same : t ≡ s = cc in
    Stopped s p (ap (λ (z : StoreStop). Err z) same)

module _ {F K : Type 0} (files : F → Option Files) (fetched : F → Option (List (List ℕ))) (unread : F → ℕ) (content : K → Content) (kept : K → Option (List KeepCall)) (unkept : K → ℕ) where
  -- nothing is called
  pub ran-inside : {A B : Type 0} (stage : StoreStage A) (seen : B → A) (shelf : F) (store : K) (end : Result B StoreStop) → ComesTo stage seen end
      → ¬ (stage (Err (why.Files stop.ReadFault))) → ¬ (stage (Err StoreFault)) → Ran files fetched unread content kept unkept (Inside stage) seen shelf shelf store store end
  ran-inside stage seen shelf store end came unread_never unkept_never = record {
    calls = [];
    came = came-inside stage seen end came;
    read = read-none files fetched unread shelf _ (comes-never stage seen end (why.Files stop.ReadFault) unread_never came);
    kept_so = kept-none kept unkept store _ (comes-never stage seen end StoreFault unkept_never came);
    same = refl;
  }

  -- a file is fetched
  pub ran-file : {A B : Type 0} (name : List ℕ) (stage : StoreStage A) (seen : B → A) (shelf shelf_after : F) (store : K) (end : Result B StoreStop) → ComesTo stage seen end
      → IsRead files fetched unread shelf shelf_after (name ∷ []) (end ≡ Err (why.Files stop.ReadFault)) → ¬ (stage (Err StoreFault))
      → Ran files fetched unread content kept unkept (Calling (Fetch name) stage) seen shelf shelf_after store store end
  ran-file name stage seen shelf shelf_after store end came read unkept_never = record {
    calls = Fetch name ∷ [];
    came = came-calling (Fetch name) stage seen end came;
    read = read;
    kept_so = kept-none kept unkept store _ (comes-never stage seen end StoreFault unkept_never came);
    same = refl;
  }

  -- the store is asked
  pub ran-store : {A B : Type 0} (stage : StoreStage A) (seen : B → A) (shelf : F) (store store_after : K) (end : Result B StoreStop) → ComesTo stage seen end
      → IsKept kept unkept store store_after (Load ∷ []) (end ≡ Err StoreFault) → content store_after ≡ content store → ¬ (stage (Err (why.Files stop.ReadFault)))
      → Ran files fetched unread content kept unkept (Calling (Keep Load) stage) seen shelf shelf store store_after end
  ran-store stage seen shelf store store_after end came asked same unread_never = record {
    calls = Keep Load ∷ [];
    came = came-calling (Keep Load) stage seen end came;
    read = read-none files fetched unread shelf _ (comes-never stage seen end (why.Files stop.ReadFault) unread_never came);
    kept_so = asked;
    same = same;
  }

  -- one part after another
  pub ran-next : {A B C D : Type 0} (first : StorePart A) (second : A → StorePart B) (seen : C → A) (later : D → B) (a b c : F) (p q r : K) (x : C) (end : Result D StoreStop)
      → Ran files fetched unread content kept unkept first seen a b p q (Ok x) → Ran files fetched unread content kept unkept (second (seen x)) later b c q r end
      → Ran files fetched unread content kept unkept (Next first second) later a c p r end
  ran-next first second seen later a b c p q r x end one two = record {
    calls = one.calls ++ two.calls;
    came = came-next first second one.calls two.calls seen later x end one.came two.came;
    read =
        subst (λ (names : List (List ℕ)). IsRead files fetched unread a c names (end ≡ Err (why.Files stop.ReadFault))) (sym (flat_map-append fetched_by one.calls two.calls))
        (read-more files fetched unread a b c _ _ _ _ one.read two.read);
    kept_so =
        subst (λ (made : List KeepCall). IsKept kept unkept p r made (end ≡ Err StoreFault)) (sym (flat_map-append kept_by one.calls two.calls))
        (kept-more kept unkept p q r _ _ _ _ one.kept_so two.kept_so);
    same = two.same ∙ one.same;
  }

  -- the first part stops
  pub ran-stopped : {A B C D : Type 0} (first : StorePart A) (second : A → StorePart B) (seen : C → A) (later : D → B) (a b : F) (p q : K) (s : StoreStop) (end : Result D StoreStop)
      → Ran files fetched unread content kept unkept first seen a b p q (Err s) → end ≡ Err s → Ran files fetched unread content kept unkept (Next first second) later a b p q end
  ran-stopped first second seen later a b p q s end one is = record {
    calls = one.calls;
    came = came-stopped first second one.calls later s end one.came is;
    read = read-as files fetched unread a b _ _ _ (λ e. other-stop (Err s) end s (why.Files stop.ReadFault) refl is e) one.read;
    kept_so = kept-as kept unkept p q _ _ _ (λ e. other-stop (Err s) end s StoreFault refl is e) one.kept_so;
    same = one.same;
  }
