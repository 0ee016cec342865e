-- Turns, one after another, up to the end of a run.
use Rattle.std.proofs.Common.{◌≡◌, ℕ, suc, ◌+◌, ◌<◌, ◌≤◌, ◌-◌, List, [], ◌∷◌, ◌++◌, length, map, take, Option, None, Some, refl, ap, sym, ◌∙◌, subst, inl, inr, append-nil, append_assoc, length-append, arith}
use Rattle.std.specs.Prelude.{IfSome}
use Rattle.std.specs.Io.KnownBytes.{Consumes, IsAtEnd}
use Rattle.std.specs.List.{flat_map}
use Rattle.std.proofs.lemmas.Bool.{cases_lt}
use Rattle.std.proofs.lemmas.Grind.{flat_map-append}
use Rattle.std.proofs.lemmas.List.{map-append}
use Rattle.app_flow.specs.Faults.{Rose}
use Rattle.app_flow.specs.Files.{Files}
use Rattle.app_flow.specs.Told.{Appends, AppendsFront}
use Rattle.app_flow.proofs.ToldLemmas.{Appends-then}
use Rattle.app_store.specs.Calls.{Call, fetched_by}
use Rattle.door_lines.specs.Lines.{HasEnded, IsFirst, IsInLine, IsRest, LineBufState}
use Rattle.door_lines.proofs.RestLemmas.{consumes_then}
use Rattle.door_meaning.specs.Replies.{reply_text}
use Rattle.door_meaning.specs.Sessions.{Outcome}
use Rattle.door_meaning.specs.State.{State}
use Rattle.door_meaning.specs.Step.{DoorRun, DoorStep, Line}
use Rattle.store_keeper.specs.Content.{Content, replaced}
use Rattle.store_keeper.specs.Stored.{Stored}
use Rattle.app_serve.specs.Lines.{AreLines, Ended, IsFrontOf, Last, lines_of, read_as}
use Rattle.app_serve.specs.Served.{AreAnswered, door_over}
use Rattle.app_serve.proofs.LinesLemmas.{lines_are_first}
use Rattle.app_serve.proofs.RunLemmas.{run-more}

-- ---- counts, lists and contents

-- a count that rose at last, rose in all
pub rose-later : (a b c : ℕ) → a ≤ b → b ≤ c → Rose b c → Rose a c
rose-later a b c before after (inl rose) = inl (omega (arith, before, rose))
rose-later a b c before after (inr last) =
    elim (cases_lt a c) [
      | inl rose ↦ inl rose
      | inr stood ↦ inr (omega (arith, before, after, last, stood))
    ]

pub nil-front : {A : Type 0} (front back : List A) → front ++ back ≡ [] → front ≡ []
nil-front [] back e = refl
nil-front (x ∷ front) back e = absurd cc

-- what is stored at last
pub replaced-twice : (s t : Stored) (content : Content) → replaced s (replaced t content) ≡ replaced s content
replaced-twice s t None = refl
replaced-twice s t (Some held) = refl

-- bytes, and then a front of others
front-take : (xs ys : List ℕ) (n : ℕ) → xs ++ take n ys ≡ take (length xs + n) (xs ++ ys)
front-take [] ys n = let e : n ≡ 0 + n = omega arith in ap (λ (k : ℕ). take k ys) e
front-take (x ∷ xs) ys n =
    let e : suc (length xs + n) ≡ length (x ∷ xs) + n = omega arith in
    ap (λ (l : List ℕ). x ∷ l) (front-take xs ys n) ∙ ap (λ (k : ℕ). take k (x ∷ (xs ++ ys))) e

pub front-then : (a b c : Option (List ℕ)) (xs ys : List ℕ) → Appends a b xs → AppendsFront b c ys → AppendsFront a c (xs ++ ys)
front-then a b c xs ys p (n, q) = (length xs + n, subst (Appends a c) (front-take xs ys n) (Appends-then a b c xs (take n ys) p q))

-- all that was left was taken
taken-all : (a b : Option (List ℕ)) (xs : List ℕ) → Consumes a b xs → IsAtEnd b → IfSome a (λ all. all ≡ xs)
taken-all None b xs p ended = tt
taken-all (Some all) None xs p ended = absurd p
taken-all (Some all) (Some left) xs p ended = p ∙ ap (λ l. xs ++ l) ended ∙ append-nil xs

if-some-as : (a : Option (List ℕ)) (xs ys : List ℕ) → xs ≡ ys → IfSome a (λ all. all ≡ xs) → IfSome a (λ all. all ≡ ys)
if-some-as a xs ys e = subst (λ (l : List ℕ). IfSome a (λ all. all ≡ l)) e

pub fetched-more : (calls more : List Call) → flat_map fetched_by calls ++ flat_map fetched_by more ≡ flat_map fetched_by (calls ++ more)
fetched-more calls more = sym (flat_map-append fetched_by calls more)

-- ---- lines that are answered

module _ (files : Option Files) (s : Stored) where
  -- the first lines of the input, where that is told
  pub first-of : (input input_after : Option (List ℕ)) (bytes : List ℕ) (lines : List (List ℕ)) (rest : List ℕ) (calls : List Call) (text : List ℕ) (st : State)
      → AreAnswered files s input input_after bytes lines rest calls text st → IfSome input (λ all. IsFrontOf lines (lines_of all))
  first-of None input_after bytes lines rest calls text st a = tt
  first-of (Some all) None bytes lines rest calls text st a = absurd a.taken
  first-of (Some all) (Some left) bytes lines rest calls text st a =
      (lines_of (rest ++ left), lines_are_first all bytes (rest ++ left) lines a.are_lines (a.taken ∙ append_assoc bytes rest left))

  -- and all of them at its end
  pub whole-of : (input input_after : Option (List ℕ)) (bytes : List ℕ) (lines : List (List ℕ)) (rest : List ℕ) (calls : List Call) (text : List ℕ) (st : State)
      → AreAnswered files s input input_after bytes lines rest calls text st → rest ≡ [] → IsAtEnd input_after → IfSome input (λ all. lines ≡ lines_of all)
  whole-of None input_after bytes lines rest calls text st a none ended = tt
  whole-of (Some all) None bytes lines rest calls text st a none ended = absurd a.taken
  whole-of (Some all) (Some left) bytes lines rest calls text st a none ended =
      let nothing : rest ++ left ≡ [] = ap (λ l. l ++ left) none ∙ ended in
      sym (lines_are_first all bytes (rest ++ left) lines a.are_lines (a.taken ∙ append_assoc bytes rest left) ∙ ap (λ l. lines ++ lines_of l) nothing ∙ append-nil lines)

  -- bytes came, and no further line is answered
  pub answered-same : (input mid input_after : Option (List ℕ)) (bytes : List ℕ) (lines : List (List ℕ)) (rest came : List ℕ) (calls : List Call) (text : List ℕ) (st : State)
      → AreAnswered files s input mid bytes lines rest calls text st → Consumes mid input_after came → AreAnswered files s input input_after bytes lines (rest ++ came) calls text st
  answered-same input mid input_after bytes lines rest came calls text st a consumed = record {
    taken = subst (Consumes input input_after) (append_assoc bytes rest came) (consumes_then input mid input_after (bytes ++ rest) came a.taken consumed);
    are_lines = a.are_lines;
    run = a.run;
  }

  -- one more line is answered
  pub answered-more : (input mid input_after : Option (List ℕ)) (bytes : List ℕ) (lines : List (List ℕ)) (rest came : List ℕ) (calls : List Call) (text : List ℕ) (st : State)
      → AreAnswered files s input mid bytes lines rest calls text st → Consumes mid input_after came → (bytes_after rest_after line : List ℕ) → bytes ++ (rest ++ came) ≡ bytes_after ++ rest_after
      → AreLines input bytes_after (lines ++ line ∷ []) → (more : List Call) (outcome : Outcome) → DoorStep files st (read_as line) more outcome
      → AreAnswered files s input input_after bytes_after (lines ++ line ∷ []) rest_after (calls ++ more) (text ++ reply_text outcome.reply) outcome.state
  answered-more input mid input_after bytes lines rest came calls text st a consumed bytes_after rest_after line split are_lines more outcome step = record {
    taken = subst (Consumes input input_after) (append_assoc bytes rest came ∙ split) (consumes_then input mid input_after (bytes ++ rest) came a.taken consumed);
    are_lines = are_lines;
    run =
        subst (λ (l : List Line). DoorRun files (door_over s) l (calls ++ more) (text ++ reply_text outcome.reply) outcome.state) (sym (map-append read_as lines (line ∷ [])))
        (run-more files (door_over s) st (map read_as lines) calls text a.run (read_as line) more outcome step);
  }

-- how the bytes go on with a line
pub record GoesOn (input : Option (List ℕ)) (buf : LineBufState) (bytes : List ℕ) (lines : List (List ℕ)) (behind line : List ℕ) : Type 0 where
  pub bytes_after : List ℕ
  pub rest_after : List ℕ
  pub split : bytes ++ behind ≡ bytes_after ++ rest_after
  pub are_lines : AreLines input bytes_after (lines ++ line ∷ [])
  pub is_rest : IsRest buf rest_after
  pub shorter : length rest_after < length behind

pub goes-on : (input input_after : Option (List ℕ)) (buf : LineBufState) (bytes : List ℕ) (lines : List (List ℕ)) (behind line : List ℕ) → Consumes input input_after (bytes ++ behind) → AreLines input bytes lines
    → IsFirst (HasEnded input_after buf) buf behind line → IsInLine line → GoesOn input buf bytes lines behind line
goes-on input input_after buf bytes lines behind line taken are_lines (inl (after, is, is_rest)) in_line = record {
  bytes_after = bytes ++ (line ++ 10 ∷ []);
  rest_after = after;
  split = ap (λ l. bytes ++ l) (is ∙ sym (append_assoc line (10 ∷ []) after)) ∙ sym (append_assoc bytes (line ++ 10 ∷ []) after);
  are_lines = Ended bytes lines line are_lines in_line;
  is_rest = is_rest;
  shorter = (let n : length behind ≡ length (line ++ 10 ∷ after) = ap length is in omega (arith, n, length-append line (10 ∷ after)));
}
goes-on input input_after buf bytes lines [] line taken are_lines (inr (ended, is, some, is_rest)) in_line = absurd (some (sym is))
goes-on input input_after buf bytes lines (b ∷ behind) line taken are_lines (inr (ended, is, some, is_rest)) in_line = record {
  bytes_after = bytes ++ line;
  rest_after = [];
  split = ap (λ l. bytes ++ l) is ∙ sym (append-nil (bytes ++ line));
  are_lines = Last bytes lines line are_lines in_line some (if-some-as input (bytes ++ (b ∷ behind)) (bytes ++ line) (ap (λ l. bytes ++ l) is) (taken-all input input_after (bytes ++ (b ∷ behind)) taken ended.0));
  is_rest = is_rest;
  shorter = omega arith;
}
