-- The tokens of a text, one after another.
use Rattle.std.proofs.Common.{◌≡◌, ℕ, ◌+◌, ◌-◌, ◌<◌, ◌≤◌, true, List, [], ◌∷◌, ◌++◌, length, take, drop, slice_index, refl, sym, ◌∙◌, ap, ap₂, subst, arith, Ok, length-drop, append_assoc, append-nil, get_or-drop, zero-add}
use Rattle.std.specs.Char.{is_ascii_uppercase, is_ascii_lowercase, is_ascii_digit}
use Rattle.std.specs.List.{All, AllPairs, slice_range}
use Rattle.std.proofs.lemmas.Bool.Decides.{nat_tests}
use Rattle.std.proofs.lemmas.List.{get_or-take, length-take}
use Rattle.std.proofs.lemmas.List.Elements.{All-cons, All-nil}
use Rattle.std.proofs.lemmas.List.Kept.{AllPairs-cons}
use Rattle.text_lexer.specs.declared.front.Front.{Front}
use Rattle.text_lexer.specs.declared.token.Token.{Token}
use Rattle.text_lexer.specs.declared.token.TokenKind.{TokenKind}
use Rattle.text_lexer.specs.declared.token.TokenKind.TheVariants.{Upper, Lower, Number, Text}
use Rattle.text_lexer.specs.Front.{front, found, placed}
use Rattle.text_lexer.specs.Gap.{gap_len}
use Rattle.text_lexer.specs.Lexeme.{HasForm, IsLexeme, is_word_byte}
use Rattle.text_lexer.specs.Lexes.{IsGap, IsTokenOf, LexesFrom, Lexes}
use Rattle.text_lexer.specs.Token.{IsBefore, IsIn, lexeme_of}
use Rattle.text_lexer.proofs.Fronts.{IsFront, form_some, front_complete, front_sound, longest_some}
use Rattle.text_lexer.proofs.Gaps.{Stops, gap_before, gap_len-fits, gap_len-only, gap_len-whole, gap_to_end}
use Rattle.text_lexer.proofs.Runs.{is_run-first}

-- ---- one token

uppercase_stops : (b : ℕ) → is_ascii_uppercase b ≡ true → Stops b
uppercase_stops b h = (grind (arith, nat_tests), grind (arith, nat_tests))

lowercase_stops : (b : ℕ) → is_ascii_lowercase b ≡ true → Stops b
lowercase_stops b h = (grind (arith, nat_tests), grind (arith, nat_tests))

digit_stops : (b : ℕ) → is_ascii_digit b ≡ true → Stops b
digit_stops b h = (grind (arith, nat_tests), grind (arith, nat_tests))

-- no gap goes on into a token
form_stops : (kind : TokenKind) (bytes : List ℕ) → HasForm kind bytes → Stops (slice_index bytes 0)
form_stops Upper bytes h = uppercase_stops _ (is_run-first is_ascii_uppercase is_word_byte bytes h)
form_stops Lower bytes h = lowercase_stops _ (is_run-first is_ascii_lowercase is_word_byte bytes h)
form_stops Number bytes h = digit_stops _ (is_run-first is_ascii_digit is_ascii_digit bytes h)
form_stops Text bytes h = rw h.1.1 (refl, refl)
form_stops kind bytes h = rw h (refl, refl)

module _ (text : List ℕ) (t : Token) (token : IsTokenOf text t) where
  pub token_in : IsIn text t
  token_in =
      let some = form_some t.kind (slice_range text t.at t.end) token.lexeme.form in
      (omega (arith, some, length-take (t.end - t.at) (drop t.at text)), token.within)

  pub token_front : IsFront (drop t.at text) t.kind (t.end - t.at)
  token_front =
      record {
        longest = record {
          within = omega (arith, token_in, length-drop t.at text);
          form = token.lexeme.form;
          longest = λ kind more longer fits form.
              let size = length-drop t.at text in
              let same : more ≡ t.at + more - t.at = omega arith in
              token.longest kind (t.at + more) (omega (arith, token_in.0)) (omega (arith, token_in)) (subst (λ n. HasForm kind (take n (drop t.at text))) same form);
        };
        limits = token.lexeme.limits;
      }

  pub token_stops : Stops (slice_index text t.at)
  token_stops =
      let first : slice_index (slice_range text t.at t.end) 0 ≡ slice_index text (t.at + 0) = get_or-take (t.end - t.at) (drop t.at text) 0 0 (omega (arith, token_in.0)) ∙ get_or-drop t.at text 0 0 in
      let same : t.at + 0 ≡ t.at = omega arith in
      subst Stops (first ∙ ap (slice_index text) same) (form_stops t.kind (slice_range text t.at t.end) token.lexeme.form)

  pub front_of : front (drop t.at text) ≡ found t.kind (t.end - t.at)
  front_of = front_complete (drop t.at text) t.kind (t.end - t.at) token_front

-- the token that the reader finds
pub token_from_front : (text : List ℕ) (at : ℕ) (f : Front) → at ≤ length text → front (drop at text) ≡ Ok f → IsTokenOf text (record { kind = f.kind; at = at; end = at + f.len })
token_from_front text at f within h =
    let here = front_sound (drop at text) f h in
    let size = length-drop at text in
    let same : f.len ≡ at + f.len - at = omega arith in
    record {
      within = omega (arith, here.longest.within, longest_some (drop at text) f.kind f.len here.longest);
      lexeme = subst (λ n. IsLexeme (record { kind = f.kind; bytes = take n (drop at text) })) same (record { form = here.longest.form; limits = here.limits });
      longest = λ kind end longer fits form. here.longest.longest kind (end - at) (omega arith) (omega arith) form;
    }

pub same_token : (text : List ℕ) (t u : Token) → t.at ≡ u.at → IsTokenOf text t → IsTokenOf text u → t ≡ u
same_token text t u same first second =
    let one = front_of text t first in
    let two = ap (λ (n : ℕ). front (drop n text)) same ∙ front_of text u second in
    let both : found t.kind (t.end - t.at) ≡ found u.kind (u.end - u.at) = sym one ∙ two in
    let f : Front = record { kind = t.kind; len = t.end - t.at } in
    let g : Front = record { kind = u.kind; len = u.end - u.at } in
    let fronts : f ≡ g = cc in
    let kinds = ap (λ (x : Front). x.kind) fronts in
    let sizes = ap (λ (x : Front). x.len) fronts in
    let ends : t.end ≡ u.end = omega (arith, token_in text t first, token_in text u second) in
    λ i. record { kind = kinds i; at = same i; end = ends i }

-- ---- the tokens after a gap

-- From the offset `at` on, where no gap begins, the text has these tokens.
abbrev pub Starts : List ℕ → ℕ → List Token → Type 0
Starts text at [] = length text ≤ at
Starts text at (token ∷ tokens) = (token.at ≡ at) × IsTokenOf text token × LexesFrom text token.end tokens

abbrev pub past_gap : List ℕ → ℕ → ℕ
past_gap text from = from + gap_len (drop from text)

-- a gap that ends where no gap goes on
pub gap_ends_at : (text : List ℕ) (from at : ℕ) → from ≤ at → at < length text → IsGap (slice_range text from at) → Stops (slice_index text at) → past_gap text from ≡ at
gap_ends_at text from at after within gap stops =
    let size = length-drop from text in
    let n = at - from in
    let inside : n < length (drop from text) = omega arith in
    let place : from + n ≡ at = omega arith in
    let here : Stops (slice_index (drop from text) n) = subst Stops (sym (get_or-drop from text n 0 ∙ ap (slice_index text) place)) stops in
    omega (arith, gap_len-only (drop from text) n gap inside here)

pub starts_past_gap : (text : List ℕ) (from : ℕ) (tokens : List Token) → from ≤ length text → LexesFrom text from tokens → Starts text (past_gap text from) tokens
starts_past_gap text from [] fits gap =
    omega (arith, gap_len-whole (drop from text) gap, length-drop from text)
starts_past_gap text from (token ∷ tokens) fits (after, gap, is, rest) =
    let inside : token.at < length text = omega (arith, token_in text token is) in
    (sym (gap_ends_at text from token.at after inside gap (token_stops text token is)), is, rest)

pub lexes_past_gap : (text : List ℕ) (from : ℕ) (tokens : List Token) → from ≤ length text → Starts text (past_gap text from) tokens → LexesFrom text from tokens
lexes_past_gap text from [] fits end = gap_to_end (drop from text) (omega (arith, length-drop from text))
lexes_past_gap text from (token ∷ tokens) fits (at, is, rest) =
    let size = length-drop from text in
    let len : gap_len (drop from text) ≡ token.at - from = omega arith in
    let within : gap_len (drop from text) < length (drop from text) = omega (arith, token_in text token is) in
    let gap = gap_before (drop from text) within in
    (omega arith, subst (λ n. IsGap (take n (drop from text))) len gap, is, rest)

pub same_tokens : (text : List ℕ) (at : ℕ) (tokens others : List Token) → Starts text at tokens → Starts text at others → tokens ≡ others
same_tokens text at [] [] h k = refl
same_tokens text at [] (u ∷ others) end (from, is, rest) = absurd (omega (arith, token_in text u is))
same_tokens text at (t ∷ tokens) [] (from, is, rest) end = absurd (omega (arith, token_in text t is))
same_tokens text at (t ∷ tokens) (u ∷ others) (from, is, rest) (from', is', rest') =
    let first = same_token text t u (from ∙ sym from') is is' in
    let fits = (token_in text t is).1 in
    let after : LexesFrom text t.end others = subst (λ (x : Token). LexesFrom text x.end others) (sym first) rest' in
    ap₂ (λ (x : Token) (xs : List Token). x ∷ xs) first
    (same_tokens text (past_gap text t.end) tokens others (starts_past_gap text t.end tokens fits rest) (starts_past_gap text t.end others fits after))

pub one_list : (text : List ℕ) (tokens others : List Token) → Lexes text tokens → Lexes text others → tokens ≡ others
one_list text tokens others h k =
    same_tokens text (past_gap text 0) tokens others (starts_past_gap text 0 tokens (omega arith) h.1) (starts_past_gap text 0 others (omega arith) k.1)

-- The text is read up to `at`: its lists of tokens are those that go on from there after the tokens so far.
pub record IsReadTo (text : List ℕ) (tokens : List Token) (at : ℕ) : Type 0 where
  pub within : at ≤ length text
  pub goes_on : (rest : List Token) → Starts text at rest → LexesFrom text 0 (tokens ++ rest)
  pub only : (all : List Token) → LexesFrom text 0 all → (rest : List Token) × (all ≡ tokens ++ rest) × Starts text at rest

pub read_nothing : (text : List ℕ) → IsReadTo text [] (gap_len text)
read_nothing text =
    let same = zero-add (gap_len text) in
    record {
      within = gap_len-fits text;
      goes_on = λ rest h. lexes_past_gap text 0 rest (omega arith) (subst (λ n. Starts text n rest) (sym same) h);
      only = λ all h. (all, refl, subst (λ n. Starts text n all) same (starts_past_gap text 0 all (omega arith) h));
    }

after_token : (text : List ℕ) (tokens : List Token) (t : Token) (all : List Token) → IsTokenOf text t → (rest : List Token) → all ≡ tokens ++ rest → Starts text t.at rest → (others : List Token) × (all ≡ (tokens ++ t ∷ []) ++ others) × Starts text (past_gap text t.end) others
after_token text tokens t all is [] same end = absurd (omega (arith, token_in text t is))
after_token text tokens t all is (u ∷ others) same (from, is', rest) =
    let first = same_token text u t from is' is in
    let after : LexesFrom text t.end others = subst (λ (x : Token). LexesFrom text x.end others) first rest in
    let joined : tokens ++ u ∷ others ≡ (tokens ++ t ∷ []) ++ others = ap (λ (x : Token). tokens ++ x ∷ others) first ∙ sym (append_assoc tokens (t ∷ []) others) in
    (others, same ∙ joined, starts_past_gap text t.end others (token_in text t is).1 after)

pub read_token : (text : List ℕ) (tokens : List Token) (t : Token) → IsReadTo text tokens t.at → IsTokenOf text t → IsReadTo text (tokens ++ t ∷ []) (t.end + gap_len (drop t.end text))
read_token text tokens t read is =
    let fits = (token_in text t is).1 in
    record {
      within = omega (arith, fits, gap_len-fits (drop t.end text), length-drop t.end text);
      goes_on = λ rest h. rw append_assoc (read.goes_on (t ∷ rest) (refl, is, lexes_past_gap text t.end rest fits h));
      only = λ all h. let found = read.only all h in after_token text tokens t all is found.0 found.1 found.2;
    }

pub read_all : (text : List ℕ) (tokens : List Token) (at : ℕ) → IsReadTo text tokens at → length text ≤ at → LexesFrom text 0 tokens
read_all text tokens at read end = rw append-nil at (read.goes_on [] end)

-- ---- in order

all_in : (text : List ℕ) (from : ℕ) (tokens : List Token) → LexesFrom text from tokens → All (IsIn text) tokens
all_in text from [] h = All-nil (IsIn text)
all_in text from (t ∷ tokens) (after, gap, is, rest) =
    All-cons (IsIn text) t tokens (token_in text t is) (all_in text t.end tokens rest)

all_after : (text : List ℕ) (start from : ℕ) (tokens : List Token) → start ≤ from → LexesFrom text from tokens → All (λ t. start ≤ t.at) tokens
all_after text start from [] le h = All-nil (λ (t : Token). start ≤ t.at)
all_after text start from (t ∷ tokens) le (after, gap, is, rest) =
    All-cons (λ (t : Token). start ≤ t.at) t tokens (omega arith) (all_after text start t.end tokens (omega (arith, token_in text t is)) rest)

all_in_order : (text : List ℕ) (from : ℕ) (tokens : List Token) → LexesFrom text from tokens → AllPairs IsBefore tokens
all_in_order text from [] h = λ i j d before within. absurd (omega arith)
all_in_order text from (t ∷ tokens) (after, gap, is, rest) =
    AllPairs-cons IsBefore t tokens (all_after text t.end t.end tokens (omega arith) rest) (all_in_order text t.end tokens rest)

all_lexemes : (text : List ℕ) (from : ℕ) (tokens : List Token) → LexesFrom text from tokens → All (λ token. IsLexeme (lexeme_of text token)) tokens
all_lexemes text from [] h = All-nil (λ (t : Token). IsLexeme (lexeme_of text t))
all_lexemes text from (t ∷ tokens) (after, gap, is, rest) =
    All-cons (λ (t : Token). IsLexeme (lexeme_of text t)) t tokens is.lexeme (all_lexemes text t.end tokens rest)

pub tokens_in : (text : List ℕ) (tokens : List Token) → Lexes text tokens → All (IsIn text) tokens
tokens_in text tokens h = all_in text 0 tokens h.1

pub tokens_ordered : (text : List ℕ) (tokens : List Token) → Lexes text tokens → AllPairs IsBefore tokens
tokens_ordered text tokens h = all_in_order text 0 tokens h.1

pub each_lexeme : (text : List ℕ) (tokens : List Token) → Lexes text tokens → All (λ token. IsLexeme (lexeme_of text token)) tokens
each_lexeme text tokens h = all_lexemes text 0 tokens h.1

-- ---- the reader at a place

pub front_within : (text : List ℕ) (at : ℕ) (f : Front) → at ≤ length text → front (drop at text) ≡ Ok f → (at < at + f.len) × (at + f.len ≤ length text)
front_within text at f within h =
    let here = front_sound (drop at text) f h in
    (omega (arith, longest_some (drop at text) f.kind f.len here.longest), omega (arith, here.longest.within, length-drop at text))

pub placed_token : (text : List ℕ) (at : ℕ) (t : Token) → t.at ≡ at → IsTokenOf text t → placed at (front (drop at text)) ≡ Ok t
placed_token text at t same token =
    let here = ap (λ (n : ℕ). front (drop n text)) (sym same) ∙ front_of text t token in
    let end : at + (t.end - t.at) ≡ t.end = omega (arith, token_in text t token) in
    ap (placed at) here ∙ (λ i. Ok (record { kind = t.kind; at = sym same i; end = end i }))
