-- A text has its tokens, or it is refused for one cause at one place.
use Rattle.std.proofs.Common.{◌≡◌, ℕ, zero, suc, Bool, true, false, ◌+◌, ◌<◌, ◌≤◌, ◌⊎◌, inl, inr, List, [], ◌∷◌, ◌++◌, length, take, drop, slice_index, refl, sym, ◌∙◌, ap, subst, arith, Result, Ok, Err, ◌-◌, length-drop, get_or-drop, take_all}
use Rattle.std.specs.List.{slice_range}
use Rattle.std.specs.Str.{IsUtf8, IsValidUpTo, is_utf8}
use Rattle.std.proofs.lemmas.Bool.{cases_lt, ne_eqb, false≢true, eq-eqb}
use Rattle.std.proofs.lemmas.Str.{IsUtf8-from_is_utf8, IsUtf8-nil, is_utf8-from_IsUtf8, utf8_valid_len-IsValidUpTo}
use Rattle.text_lexer.specs.declared.lex_err.Cause.{Cause}
use Rattle.text_lexer.specs.declared.lex_err.Cause.TheVariants as c
use Rattle.text_lexer.specs.declared.lex_err.Fault.{Fault}
use Rattle.text_lexer.specs.declared.lex_err.LexErr.{LexErr}
use Rattle.text_lexer.specs.declared.lex_err.LexErr.TheVariants.{NotText, BadByte, BadNumber, Unfinished, TooManyNameBytes, TooManyTextBytes, OutOfMemory}
use Rattle.text_lexer.specs.declared.front.Front.{Front}
use Rattle.text_lexer.specs.declared.token.Token.{Token}
use Rattle.text_lexer.specs.declared.token.TokenKind.TheVariants.{Upper, Lower, Number, Text}
use Rattle.text_lexer.specs.Fault.{refusal_of}
use Rattle.text_lexer.specs.Front.{fault, found, front, placed}
use Rattle.text_lexer.specs.Gap.{gap_len}
use Rattle.text_lexer.specs.Lexes.{IsGap, IsTokenOf, Lexes, LexesFrom}
use Rattle.text_lexer.specs.Refused.{BeginsNone, IsBeyond, IsUnfinished, LexesUpTo, MustBegin, Refuses}
use Rattle.text_lexer.proofs.Gaps.{Stops, gap_before, gap_len-stops}
use Rattle.text_lexer.proofs.Refusals.{Stands, front_stands, stands_front}
use Rattle.text_lexer.proofs.TokenLists.{IsReadTo, Starts, front_of, front_within, gap_ends_at, lexes_past_gap, past_gap, read_nothing, read_token, same_token, starts_past_gap, token_from_front, token_in, token_stops}

-- ---- a refusal, by the place where a token must begin

-- at this place a token must begin, and what stands there is none, for this cause and after so many bytes
pub record IsStuck (text : List ℕ) (at : ℕ) (cause : Cause) (after : ℕ) : Type 0 where
  pub must : MustBegin text at
  pub stands : Stands (drop at text) cause after

-- where the place is the token's own
at_place : (text : List ℕ) (at after : ℕ) (P : ℕ → Type 0) → after ≡ 0 → MustBegin text at → P at → MustBegin text (at + after) × P (at + after)
at_place text at after P none must here =
    let same : at ≡ at + after = omega arith in
    (subst (MustBegin text) same must, subst P same here)

pub stuck_refused : (text : List ℕ) (at : ℕ) (cause : Cause) (after : ℕ) → IsStuck text at cause after → Refuses text (refusal_of cause (at + after))
stuck_refused text at cause after stuck = go cause stuck.must stuck.stands
  where
    go : (cause : Cause) → MustBegin text at → Stands (drop at text) cause after → Refuses text (refusal_of cause (at + after))
    go c.BadByte must (inl (none, here)) = inl (at_place text at after (λ n. BeginsNone (drop n text)) none must here)
    go c.BadByte must (inr holds) = inr (at, after, must, holds, refl)
    go c.BadNumber must (none, here) = at_place text at after (λ n. IsBeyond (drop n text) Number) none must here
    go c.Unfinished must (none, here) = at_place text at after (λ n. IsUnfinished (drop n text)) none must here
    go c.TooManyNameBytes must (none, here) = at_place text at after (λ n. IsBeyond (drop n text) Upper ⊎ IsBeyond (drop n text) Lower) none must here
    go c.TooManyTextBytes must (none, here) = at_place text at after (λ n. IsBeyond (drop n text) Text) none must here

abbrev WhyRefused : List ℕ → LexErr → Type 0
WhyRefused text err =
    ((at : ℕ) × (err ≡ NotText at) × IsValidUpTo text at)
    ⊎ ((at : ℕ) × (cause : Cause) × (after : ℕ) × IsStuck text at cause after × (err ≡ refusal_of cause (at + after)))

stuck_here : (text : List ℕ) (at : ℕ) (cause : Cause) → MustBegin text at → Stands (drop at text) cause 0 → WhyRefused text (refusal_of cause at)
stuck_here text at cause must stands =
    let same : at ≡ at + 0 = omega arith in
    inr (at, cause, 0, record { must = must; stands = stands }, ap (refusal_of cause) same)

why_refused : (text : List ℕ) (err : LexErr) → Refuses text err → WhyRefused text err
why_refused text (NotText at) up = inl (at, refl, up)
why_refused text (BadByte at) (inl (must, none)) = stuck_here text at c.BadByte must (inl (refl, none))
why_refused text (BadByte at) (inr (quote, len, must, holds, place)) =
    inr (quote, c.BadByte, len, record { must = must; stands = inr holds }, ap BadByte (sym place))
why_refused text (BadNumber at) (must, here) = stuck_here text at c.BadNumber must (refl, here)
why_refused text (Unfinished at) (must, here) = stuck_here text at c.Unfinished must (refl, here)
why_refused text (TooManyNameBytes at) (must, here) = stuck_here text at c.TooManyNameBytes must (refl, here)
why_refused text (TooManyTextBytes at) (must, here) = stuck_here text at c.TooManyTextBytes must (refl, here)
why_refused text OutOfMemory never = absurd never

-- ---- one place

must_stop : (text : List ℕ) (at : ℕ) → MustBegin text at → Stops (slice_index text at)
must_stop text at must = (ne_eqb (slice_index text at) 35 must.no_comment, must.no_blank)

stuck_front : (text : List ℕ) (at : ℕ) (cause : Cause) (after : ℕ) → IsStuck text at cause after → front (drop at text) ≡ fault cause after
stuck_front text at cause after stuck =
    stands_front (drop at text) cause after (omega (arith, length-drop at text, stuck.must.within)) stuck.stands

-- no token begins there
abbrev Bars : List ℕ → ℕ → Type 0
Bars text at = (token : Token) → token.at ≡ at → ¬ (IsTokenOf text token)

stuck_bars : (text : List ℕ) (at : ℕ) (cause : Cause) (after : ℕ) → IsStuck text at cause after → Bars text at
stuck_bars text at cause after stuck token same is =
    let here : front (drop at text) ≡ found token.kind (token.end - token.at) = ap (λ n. front (drop n text)) (sym same) ∙ front_of text token is in
    let clash : fault cause after ≡ found token.kind (token.end - token.at) = sym (stuck_front text at cause after stuck) ∙ here in
    cc

-- From the offset `at` on, where no gap begins, the text has these tokens up to `stop`.
abbrev StartsTo : List ℕ → ℕ → List Token → ℕ → Type 0
StartsTo text at [] stop = at ≡ stop
StartsTo text at (token ∷ tokens) stop = (token.at ≡ at) × IsTokenOf text token × LexesUpTo text token.end tokens stop

-- a place where the reader stops for good
pub record IsEnd (text : List ℕ) (stop : ℕ) : Type 0 where
  pub within : stop < length text
  pub stops : Stops (slice_index text stop)
  pub bars : Bars text stop

stuck_end : (text : List ℕ) (at : ℕ) (cause : Cause) (after : ℕ) → IsStuck text at cause after → IsEnd text at
stuck_end text at cause after stuck = record {
  within = stuck.must.within;
  stops = must_stop text at stuck.must;
  bars = stuck_bars text at cause after stuck;
}

up_to_starts : (text : List ℕ) (stop from : ℕ) (tokens : List Token) → IsEnd text stop → LexesUpTo text from tokens stop → StartsTo text (past_gap text from) tokens stop
up_to_starts text stop from [] end (after, gap) = gap_ends_at text from stop after end.within gap end.stops
up_to_starts text stop from (token ∷ tokens) end (after, gap, is, rest) =
    let inside : token.at < length text = omega (arith, token_in text token is) in
    (sym (gap_ends_at text from token.at after inside gap (token_stops text token is)), is, rest)

same_stop : (text : List ℕ) (stop other at : ℕ) (tokens others : List Token) → IsEnd text stop → IsEnd text other → StartsTo text at tokens stop → StartsTo text at others other → stop ≡ other
same_stop text stop other at [] [] end end' h k = sym h ∙ k
same_stop text stop other at [] (u ∷ others) end end' h (from, is, rest) = absurd (end.bars u (from ∙ h) is)
same_stop text stop other at (t ∷ tokens) [] end end' (from, is, rest) k = absurd (end'.bars t (from ∙ k) is)
same_stop text stop other at (t ∷ tokens) (u ∷ others) end end' (from, is, rest) (from', is', rest') =
    let first = same_token text t u (from ∙ sym from') is is' in
    let after : LexesUpTo text t.end others other = subst (λ (x : Token). LexesUpTo text x.end others other) (sym first) rest' in
    same_stop text stop other (past_gap text t.end) tokens others end end' (up_to_starts text stop t.end tokens end rest) (up_to_starts text other t.end others end' after)

no_list : (text : List ℕ) (stop at : ℕ) (tokens others : List Token) → IsEnd text stop → StartsTo text at tokens stop → Starts text at others → ⊥
no_list text stop at [] [] end h over = omega (arith, end.within)
no_list text stop at [] (u ∷ others) end h (from, is, rest) = end.bars u (from ∙ h) is
no_list text stop at (t ∷ tokens) [] end (from, is, rest) over = omega (arith, token_in text t is)
no_list text stop at (t ∷ tokens) (u ∷ others) end (from, is, rest) (from', is', rest') =
    let first = same_token text t u (from ∙ sym from') is is' in
    let fits = (token_in text t is).1 in
    let after : LexesFrom text t.end others = subst (λ (x : Token). LexesFrom text x.end others) (sym first) rest' in
    no_list text stop (past_gap text t.end) tokens others end (up_to_starts text stop t.end tokens end rest) (starts_past_gap text t.end others fits after)

stuck_starts : (text : List ℕ) (at : ℕ) (cause : Cause) (after : ℕ) (stuck : IsStuck text at cause after) → StartsTo text (past_gap text 0) stuck.must.tokens at
stuck_starts text at cause after stuck =
    up_to_starts text at 0 stuck.must.tokens (stuck_end text at cause after stuck) stuck.must.before

stuck_once : (text : List ℕ) (at other : ℕ) (cause cause' : Cause) (after after' : ℕ) → IsStuck text at cause after → IsStuck text other cause' after' → refusal_of cause (at + after) ≡ refusal_of cause' (other + after')
stuck_once text at other cause cause' after after' one two =
    let place = same_stop text at other (past_gap text 0) one.must.tokens two.must.tokens (stuck_end text at cause after one) (stuck_end text other cause' after' two) (stuck_starts text at cause after one) (stuck_starts text other cause' after' two) in
    let faults : fault cause after ≡ fault cause' after' = sym (stuck_front text at cause after one) ∙ ap (λ n. front (drop n text)) place ∙ stuck_front text other cause' after' two in
    let f : Fault = record { cause = cause; at = after } in
    let g : Fault = record { cause = cause'; at = after' } in
    let same : f ≡ g = cc in
    λ i. refusal_of ((same i).cause) (place i + (same i).at)

not_text : (text : List ℕ) (at : ℕ) → IsValidUpTo text at → ¬ (IsUtf8 text)
not_text text at up utf8 =
    up.longest (length text) up.short (subst IsUtf8 (sym (take_all (length text) text (omega arith))) utf8)

pub one_refusal : (text : List ℕ) (err other : LexErr) → Refuses text err → Refuses text other → err ≡ other
one_refusal text err other h k = go (why_refused text err h) (why_refused text other k)
  where
    go : WhyRefused text err → WhyRefused text other → err ≡ other
    go (inl (at, is, up)) (inl (at', is', up')) =
        is ∙ ap NotText (sym (utf8_valid_len-IsValidUpTo text at up) ∙ utf8_valid_len-IsValidUpTo text at' up') ∙ sym is'
    go (inl (at, is, up)) (inr (at', cause, after, stuck, is')) = absurd (not_text text at up stuck.must.utf8)
    go (inr (at, cause, after, stuck, is)) (inl (at', is', up)) = absurd (not_text text at' up stuck.must.utf8)
    go (inr (at, cause, after, stuck, is)) (inr (at', cause', after', stuck', is')) =
        is ∙ stuck_once text at at' cause cause' after after' stuck stuck' ∙ sym is'

pub tokens_or_refusal : (text : List ℕ) (tokens : List Token) (err : LexErr) → Lexes text tokens → ¬ (Refuses text err)
tokens_or_refusal text tokens err h k = go (why_refused text err k)
  where
    go : WhyRefused text err → ⊥
    go (inl (at, is, up)) = not_text text at up h.0
    go (inr (at, cause, after, stuck, is)) =
        no_list text at (past_gap text 0) stuck.must.tokens tokens (stuck_end text at cause after stuck) (stuck_starts text at cause after stuck) (starts_past_gap text 0 tokens (omega arith) h.1)

-- ---- the reader

-- The text is read up to `at`, and if it goes on, a token must begin there.
pub record IsReading (text : List ℕ) (tokens : List Token) (at : ℕ) : Type 0 where
  pub read : IsReadTo text tokens at
  pub before : at < length text → LexesUpTo text 0 tokens at × Stops (slice_index text at)

pub begin_reading : (text : List ℕ) → IsReading text [] (gap_len text)
begin_reading text = record {
  read = read_nothing text;
  before = λ more.
      let counted : gap_len text - 0 ≡ gap_len text = omega arith in
      ((omega arith, subst (λ n. IsGap (take n text)) (sym counted) (gap_before text more)), gap_len-stops text more);
}

up_to_token : (text : List ℕ) (from stop : ℕ) (tokens : List Token) (t : Token) → LexesUpTo text from tokens t.at → IsTokenOf text t → t.end ≤ stop → IsGap (slice_range text t.end stop) → LexesUpTo text from (tokens ++ t ∷ []) stop
up_to_token text from stop [] t (after, gap) is later next = (after, gap, is, (later, next))
up_to_token text from stop (u ∷ tokens) t (after, gap, is', rest) is later next =
    (after, gap, is', up_to_token text u.end stop tokens t rest is later next)

pub read_on : (text : List ℕ) (tokens : List Token) (t : Token) → IsReading text tokens t.at → IsTokenOf text t → IsReading text (tokens ++ t ∷ []) (t.end + gap_len (drop t.end text))
read_on text tokens t reading is =
    let size = length-drop t.end text in
    let fits = token_in text t is in
    let len = gap_len (drop t.end text) in
    let counted : t.end + len - t.end ≡ len = omega arith in
    record {
      read = read_token text tokens t reading.read is;
      before = λ more.
          let inside : len < length (drop t.end text) = omega arith in
          let gap : IsGap (slice_range text t.end (t.end + len)) = subst (λ n. IsGap (take n (drop t.end text))) (sym counted) (gap_before (drop t.end text) inside) in
          let stops : Stops (slice_index text (t.end + len)) = subst Stops (get_or-drop t.end text len 0) (gap_len-stops (drop t.end text) inside) in
          (up_to_token text 0 (t.end + len) tokens t (reading.before (omega arith)).0 is (omega arith) gap, stops);
    }

-- where the reader finds no token, the text is refused
pub reading_refused : (text : List ℕ) (tokens : List Token) (at : ℕ) (err : LexErr) → IsUtf8 text → IsReading text tokens at → at < length text → Err err ≡ placed at (front (drop at text)) → Refuses text err
reading_refused text tokens at err utf8 reading more h = go (front (drop at text)) refl
  where
    must : MustBegin text at
    must = record {
      utf8 = utf8;
      tokens = tokens;
      before = (reading.before more).0;
      within = more;
      no_blank = (reading.before more).1.1;
      no_comment = λ e. false≢true (sym (reading.before more).1.0 ∙ eq-eqb _ 35 e);
    }

    go : (read : Result Front Fault) → front (drop at text) ≡ read → Refuses text err
    go (Ok f) e = let clash = rw e at h in absurd (cc)
    go (Err e) read =
        let answer = rw read at h in
        let same : err ≡ refusal_of e.cause (at + e.at) = cc in
        rw same (stuck_refused text at e.cause e.at (record { must = must; stands = front_stands (drop at text) e read }))

-- ---- each text has an answer

-- from here on the text has tokens, or tokens up to where the reader finds none
abbrev FromHere : List ℕ → ℕ → Type 0
FromHere text from =
    ((tokens : List Token) × LexesFrom text from tokens)
    ⊎ ((tokens : List Token) × (stop : ℕ) × (e : Fault) × LexesUpTo text from tokens stop × (stop < length text) × Stops (slice_index text stop) × (front (drop stop text) ≡ Err e))

with_token : (text : List ℕ) (from : ℕ) (t : Token) → from ≤ t.at → IsGap (slice_range text from t.at) → IsTokenOf text t → FromHere text t.end → FromHere text from
with_token text from t after gap is (inl (tokens, lexed)) = inl (t ∷ tokens, (after, gap, is, lexed))
with_token text from t after gap is (inr (tokens, stop, e, read, within, stops, none)) =
    inr (t ∷ tokens, stop, e, (after, gap, is, read), within, stops, none)

-- if the text goes on after a gap, the gap ends where a token must begin
gap_to_token : (text : List ℕ) (from : ℕ) → from ≤ length text → past_gap text from < length text → IsGap (slice_range text from (past_gap text from)) × Stops (slice_index text (past_gap text from))
gap_to_token text from fits more =
    let size = length-drop from text in
    let len = gap_len (drop from text) in
    let counted : past_gap text from - from ≡ len = omega arith in
    let inside : len < length (drop from text) = omega arith in
    (subst (λ n. IsGap (take n (drop from text))) (sym counted) (gap_before (drop from text) inside), subst Stops (get_or-drop from text len 0) (gap_len-stops (drop from text) inside))

from_token : (text : List ℕ) (from : ℕ) → from ≤ length text → past_gap text from < length text → ((end : ℕ) → from < end → end ≤ length text → FromHere text end) → FromHere text from
from_token text from fits more next = go (front (drop (past_gap text from) text)) refl
  where
    go : (read : Result Front Fault) → front (drop (past_gap text from) text) ≡ read → FromHere text from
    go (Err e) none =
        let gap = gap_to_token text from fits more in
        inr ([], past_gap text from, e, (omega arith, gap.0), more, gap.1, none)
    go (Ok f) here =
        let gap = gap_to_token text from fits more in
        let t : Token = record { kind = f.kind; at = past_gap text from; end = past_gap text from + f.len } in
        let is = token_from_front text (past_gap text from) f (omega arith) here in
        let inside = front_within text (past_gap text from) f (omega arith) here in
        with_token text from t (omega arith) gap.0 is (next t.end (omega (arith, inside.0)) inside.1)

from_here : (text : List ℕ) (from : ℕ) → from ≤ length text → ((end : ℕ) → from < end → end ≤ length text → FromHere text end) → FromHere text from
from_here text from fits next = elim (cases_lt (past_gap text from) (length text)) [
  | inl more ↦ from_token text from fits more next
  | inr over ↦ inl ([], lexes_past_gap text from [] fits over)
]

read_from : (fuel : ℕ) (text : List ℕ) (from : ℕ) → from ≤ length text → length text ≤ from + fuel → FromHere text from
read_from zero text from fits enough = from_here text from fits (λ end later within. absurd (omega arith))
read_from (suc fuel) text from fits enough =
    from_here text from fits (λ end later within. read_from fuel text end within (omega arith))

-- the longest front that is UTF-8, where all longer ones are none
longest_front : (text : List ℕ) (n : ℕ) → n < length text → ((m : ℕ) → n < m → ¬ (IsUtf8 (take m text))) → (at : ℕ) × IsValidUpTo text at
longest_front text n short longest = go n short longest (is_utf8 (take n text)) refl
  where
    go : (n : ℕ) → n < length text → ((m : ℕ) → n < m → ¬ (IsUtf8 (take m text))) → (test : Bool) → is_utf8 (take n text) ≡ test → (at : ℕ) × IsValidUpTo text at
    go n short longest true h =
        (n, record { short = short; front = IsUtf8-from_is_utf8 (take n text) h; longest = longest })
    go zero short longest false h = absurd (false≢true (sym h ∙ is_utf8-from_IsUtf8 [] IsUtf8-nil))
    go (suc n) short longest false h =
        go n (omega arith) (λ m more. elim (cases_lt (suc n) m) [
          | inl above ↦ longest m above
          | inr same ↦ let is : m ≡ suc n = omega arith in rw is (λ utf8. false≢true (sym h ∙ is_utf8-from_IsUtf8 (take (suc n) text) utf8))
        ]) (is_utf8 (take n text)) refl

utf8_answered : (text : List ℕ) → IsUtf8 text → ((tokens : List Token) × Lexes text tokens) ⊎ ((err : LexErr) × Refuses text err)
utf8_answered text utf8 = elim (read_from (length text) text 0 (omega arith) (omega arith)) [
  | inl (tokens, lexed) ↦ inl (tokens, (utf8, lexed))
  | inr (tokens, stop, e, read, within, stops, none) ↦
      let must : MustBegin text stop = record {
        utf8 = utf8;
        tokens = tokens;
        before = read;
        within = within;
        no_blank = stops.1;
        no_comment = λ e. false≢true (sym stops.0 ∙ eq-eqb _ 35 e);
      } in
      inr (refusal_of e.cause (stop + e.at), stuck_refused text stop e.cause e.at (record { must = must; stands = front_stands (drop stop text) e none }))
]

pub answered : (text : List ℕ) → ((tokens : List Token) × Lexes text tokens) ⊎ ((err : LexErr) × Refuses text err)
answered text = go (is_utf8 text) refl
  where
    go : (test : Bool) → is_utf8 text ≡ test → ((tokens : List Token) × Lexes text tokens) ⊎ ((err : LexErr) × Refuses text err)
    go true h = utf8_answered text (IsUtf8-from_is_utf8 text h)
    go false h =
        let no : ¬ (IsUtf8 text) = λ (utf8 : IsUtf8 text). false≢true (sym h ∙ is_utf8-from_IsUtf8 text utf8) in
        let some : 0 < length text = not_empty text no in
        let up = longest_front text (length text - 1) (omega arith) (λ m more utf8. no (subst IsUtf8 (take_all m text (omega arith)) utf8)) in
        inr (NotText up.0, up.1)
      where
        not_empty : (text : List ℕ) → ¬ (IsUtf8 text) → 0 < length text
        not_empty [] none = absurd (none IsUtf8-nil)
        not_empty (b ∷ rest) none = omega arith
