-- What stops the reader inside a literal.
use Rattle.std.proofs.Common.{◌≡◌, ℕ, zero, suc, ◌+◌, ◌≤◌, true, false, ◌⊎◌, inl, inr, List, [], ◌∷◌, ◌++◌, length, take, drop, slice_index, refl, sym, ◌∙◌, ap, subst, arith, eqb, leb, Result, Ok, Err, append_assoc, length-append, length-drop}
use Rattle.std.proofs.lemmas.Bool.{false≢true, eqb-true, eq-eqb, ne_eqb, le-leb}
use Rattle.std.proofs.lemmas.List.{length-take-le, take-append-drop}
use Rattle.std.specs.Char.{is_ascii_control}
use Rattle.text_lexer.specs.declared.lex_err.Cause.TheVariants.{BadByte, Unfinished, TooManyTextBytes}
use Rattle.text_lexer.specs.declared.lex_err.Fault.{Fault}
use Rattle.text_lexer.specs.declared.limits.TheConstants.{MOST_TEXT_BYTES}
use Rattle.text_lexer.specs.Literal.{WritesByte, Writes}
use Rattle.text_lexer.specs.LiteralEnd.{bad_byte, character_front, ends_line, escape_len, literal_from, unfinished}
use Rattle.text_lexer.specs.Refused.{EndsLine, IsBadCharacter, IsLastBackslash}
use Rattle.text_lexer.proofs.Literals.{IsCharacter, character_found, cond_found, literal_from-character, read_character}

-- ---- one character

line_ends : (text : List ℕ) → ends_line text ≡ true → EndsLine text
line_ends [] h = tt
line_ends (b ∷ rest) h = eqb-true b 10 h

ends_line_at : (text : List ℕ) → EndsLine text → ends_line text ≡ true
ends_line_at [] h = refl
ends_line_at (b ∷ rest) h = eq-eqb b 10 h

-- where the reader stops, no character stands
no_character : (at : ℕ) (text : List ℕ) (e : Fault) → character_front at text ≡ Err e → (len byte : ℕ) → ¬ (WritesByte (take len text) byte)
no_character at text e h len byte writes =
    let read = (read_character at (take len text) (drop len text) byte writes).read in
    let found : character_front at text ≡ Ok (length (take len text)) = ap (character_front at) (sym (take-append-drop len text)) ∙ read in
    let clash : Err e ≡ Ok (length (take len text)) = sym h ∙ found in
    cc

-- the reader's fault at a character that is no quote
abbrev Stops : ℕ → List ℕ → Fault → Type 0
Stops at text e =
    ((EndsLine text ⊎ IsLastBackslash text) × (e ≡ record { cause = Unfinished; at = 0 }))
    ⊎ (IsBadCharacter text × (e ≡ record { cause = BadByte; at = at }))

character_stops : (at : ℕ) (text : List ℕ) (e : Fault) → eqb (slice_index text 0) 34 ≡ false → character_front at text ≡ Err e → Stops at text e
character_stops at [] e quote h = inl (inl tt, cc)
character_stops at (b ∷ rest) e quote h = elim (cond_found (eqb b 10) _ _ _ h) [
  | inl line ↦ inl (inl (eqb-true b 10 line.0), cc)
  | inr on ↦ elim (cond_found (eqb b 92) _ _ _ on.1) [
    | inl slash ↦ elim (cond_found (ends_line rest) _ _ _ slash.1) [
      | inl last ↦
          let byte = eqb-true b 92 slash.0 in
          inl (inr (rest, ap (λ (x : ℕ). x ∷ rest) byte, line_ends rest last.0), cc)
      | inr after ↦ elim (cond_found (eqb (escape_len rest) 0) _ _ _ after.1) [
        | inl none ↦
            inr (
              record {
                goes_on = λ (line : b ≡ 10). false≢true (sym on.0 ∙ eq-eqb b 10 line);
                no_last = λ last. let same : rest ≡ last.0 = let e = last.1 in cc in false≢true (sym after.0 ∙ ends_line_at rest (subst EndsLine (sym same) last.2));
                no_quote = λ (byte : b ≡ 34). false≢true (sym quote ∙ eq-eqb b 34 byte);
                no_character = no_character at (b ∷ rest) e h;
              },
              cc,
            )
        | inr some ↦ absurd (cc)
      ]
    ]
    | inr plain ↦ elim (cond_found (is_ascii_control b) _ _ _ plain.1) [
      | inl control ↦
          inr (
            record {
              goes_on = λ (line : b ≡ 10). false≢true (sym on.0 ∙ eq-eqb b 10 line);
              no_last = λ last. let byte : b ≡ 92 = let e = last.1 in cc in false≢true (sym plain.0 ∙ eq-eqb b 92 byte);
              no_quote = λ (byte : b ≡ 34). false≢true (sym quote ∙ eq-eqb b 34 byte);
              no_character = no_character at (b ∷ rest) e h;
            },
            cc,
          )
      | inr raw ↦ absurd (cc)
    ]
  ]
]

-- ---- whole literals

last_backslash : (at count : ℕ) (more : List ℕ) → ends_line more ≡ true → literal_from 0 at count (92 ∷ more) ≡ unfinished
last_backslash at count more ends = rw ends refl

pub literal_unfinished : (at count : ℕ) (after : List ℕ) → EndsLine after ⊎ IsLastBackslash after → literal_from 0 at count after ≡ unfinished
literal_unfinished at count [] h = refl
literal_unfinished at count (b ∷ rest) (inl line) = rw line refl
literal_unfinished at count (b ∷ rest) (inr (more, is, line)) =
    ap (literal_from 0 at count) is ∙ last_backslash at count more (ends_line_at more line)

pub literal_bad : (at count : ℕ) (after : List ℕ) → IsBadCharacter after → literal_from 0 at count after ≡ bad_byte at
literal_bad at count [] bad = absurd (bad.goes_on tt)
literal_bad at count (b ∷ rest) bad = go (character_front at (b ∷ rest)) refl
  where
    quote : eqb b 34 ≡ false
    quote = ne_eqb b 34 bad.no_quote

    stops : (e : Fault) → character_front at (b ∷ rest) ≡ Err e → Stops at (b ∷ rest) e → literal_from 0 at count (b ∷ rest) ≡ bad_byte at
    stops e read (inl (inl line, is)) = absurd (bad.goes_on line)
    stops e read (inl (inr last, is)) = absurd (bad.no_last last)
    stops e read (inr (same, is)) = rw (quote, read) (ap Err is)

    go : (read : Result ℕ Fault) → character_front at (b ∷ rest) ≡ read → literal_from 0 at count (b ∷ rest) ≡ bad_byte at
    go (Ok len) read =
        let found = character_found at (b ∷ rest) len quote read in absurd (bad.no_character len found.byte found.writes)
    go (Err e) read = stops e read (character_stops at (b ∷ rest) e quote read)

-- what stops the reader after whole characters: a quote after too many bytes, the end of the line, or a bad character
abbrev pub Why : List ℕ → ℕ → ℕ → Fault → Type 0
Why after at count fault =
    ((more : List ℕ) × (after ≡ 34 ∷ more) × ¬ (count ≤ MOST_TEXT_BYTES) × (fault ≡ record { cause = TooManyTextBytes; at = 0 }))
    ⊎ ((EndsLine after ⊎ IsLastBackslash after) × (fault ≡ record { cause = Unfinished; at = 0 }))
    ⊎ (IsBadCharacter after × (fault ≡ record { cause = BadByte; at = at }))

pub record IsStopped (text : List ℕ) (at count : ℕ) (fault : Fault) : Type 0 where
  pub inside : List ℕ
  pub after : List ℕ
  pub value : List ℕ
  pub text_is : text ≡ inside ++ after
  pub writes : Writes inside value
  pub why : Why after (at + length inside) (count + length value) fault

stopped_here : (text : List ℕ) (at count : ℕ) (fault : Fault) → Why text at count fault → IsStopped text at count fault
stopped_here text at count fault why =
    let place : at ≡ at + 0 = omega arith in
    let counted : count ≡ count + 0 = omega arith in
    record {
      inside = [];
      after = text;
      value = [];
      text_is = refl;
      writes = refl;
      why = subst (λ n. Why text n (count + 0) fault) place (subst (λ n. Why text at n fault) counted why);
    }

stopped_more : (text : List ℕ) (at count len : ℕ) (fault : Fault) → IsCharacter text len → IsStopped (drop len text) (at + len) (count + 1) fault → IsStopped text at count fault
stopped_more text at count len fault first o =
    let place : at + len + length o.inside ≡ at + length (take len text ++ o.inside) = omega (arith, length-append (take len text) o.inside, length-take-le len text first.within) in
    let counted : count + 1 + length o.value ≡ count + length (first.byte ∷ o.value) = omega arith in
    record {
      inside = take len text ++ o.inside;
      after = o.after;
      value = first.byte ∷ o.value;
      text_is = sym (take-append-drop len text) ∙ ap (λ z. take len text ++ z) o.text_is ∙ sym (append_assoc (take len text) o.inside o.after);
      writes = (take len text, o.inside, refl, first.writes, o.writes);
      why = subst (λ n. Why o.after n (count + length (first.byte ∷ o.value)) fault) place (subst (λ n. Why o.after (at + len + length o.inside) n fault) counted o.why);
    }

pub literal_stopped : (fuel : ℕ) (text : List ℕ) (at count : ℕ) (fault : Fault) → length text ≤ fuel → literal_from 0 at count text ≡ Err fault → IsStopped text at count fault
literal_stopped fuel [] at count fault enough h = stopped_here [] at count fault (inr (inl (inl tt, cc)))
literal_stopped zero (b ∷ rest) at count fault enough h = absurd (omega arith)
literal_stopped (suc fuel) (b ∷ rest) at count fault enough h = elim (cond_found (eqb b 34) _ _ _ h) [
  | inl quote ↦ elim (cond_found (leb count MOST_TEXT_BYTES) _ _ _ quote.1) [
    | inl small ↦ absurd (cc)
    | inr large ↦
        let byte = eqb-true b 34 quote.0 in
        let many : ¬ (count ≤ MOST_TEXT_BYTES) = λ (le : count ≤ MOST_TEXT_BYTES). false≢true (sym large.0 ∙ le-leb count MOST_TEXT_BYTES le) in
        stopped_here (b ∷ rest) at count fault (inl (rest, ap (λ (x : ℕ). x ∷ rest) byte, many, cc))
  ]
  | inr other ↦ go (λ text from counted less found. literal_stopped fuel text from counted fault less found) (character_front at (b ∷ rest)) refl other.0
]
  where
    stops : (e : Fault) → e ≡ fault → Stops at (b ∷ rest) e → IsStopped (b ∷ rest) at count fault
    stops e same (inl (line, is)) = stopped_here (b ∷ rest) at count fault (inr (inl (line, sym same ∙ is)))
    stops e same (inr (bad, is)) = stopped_here (b ∷ rest) at count fault (inr (inr (bad, sym same ∙ is)))

    go : ((text : List ℕ) (from counted : ℕ) → length text ≤ fuel → literal_from 0 from counted text ≡ Err fault → IsStopped text from counted fault) → (read : Result ℕ Fault) → character_front at (b ∷ rest) ≡ read → eqb b 34 ≡ false → IsStopped (b ∷ rest) at count fault
    go more (Err e) read other =
        let is = rw (other, read) at h in
        let same : e ≡ fault = cc in
        stops e same (character_stops at (b ∷ rest) e other read)
    go more (Ok len) read other =
        let text = b ∷ rest in
        let first = character_found at text len other read in
        let step = literal_from-character at count text len other read first.positive in
        let shorter : length (drop len text) ≤ fuel = omega (arith, length-drop len text, first.positive) in
        stopped_more text at count len fault first (more (drop len text) (at + len) (count + 1) shorter (sym step ∙ h))
