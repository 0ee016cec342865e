-- What the reader passes over is a row of blanks and comments, and it passes over all of it.
use Rattle.std.proofs.Common.{◌≡◌, ℕ, zero, suc, ◌<◌, ◌≤◌, Bool, true, false, not, ◌&&◌, cond, ◌⊎◌, inl, inr, List, [], ◌∷◌, ◌++◌, length, take, slice_index, refl, sym, ◌∙◌, ap, arith, eqb, append_assoc}
use Rattle.std.specs.List.{All, list_all, concat}
use Rattle.std.proofs.lemmas.Bool.{false≢true, and_parts, eqb-true}
use Rattle.std.proofs.lemmas.Bool.Decides.{nat_tests}
use Rattle.std.proofs.lemmas.List.Elements.{All-cons, All-head, All-tail, All-nil}
use Rattle.text_lexer.specs.Gap.{gap_from, gap_len}
use Rattle.text_lexer.specs.Lexes.{IsBlankOrComment, IsGap, is_blank}
use Rattle.text_lexer.proofs.Literals.{cond_found}

-- a test for gaps, where a comment may have begun before
abbrev is_gap : Bool → List ℕ → Bool
is_gap true [] = false
is_gap false [] = true
is_gap true (b ∷ rest) = is_gap (not (eqb b 10)) rest
is_gap false (b ∷ rest) = cond (eqb b 35) (is_gap true rest) (is_blank b && is_gap false rest)

no_comment : (b : ℕ) → is_blank b ≡ true → eqb b 35 ≡ false
no_comment b h = grind (arith, nat_tests)

is_gap-comment : (line rest : List ℕ) → list_all (λ b. not (eqb b 10)) line ≡ true → is_gap true ((line ++ 10 ∷ []) ++ rest) ≡ is_gap false rest
is_gap-comment [] rest h = refl
is_gap-comment (b ∷ line) rest h =
    let parts = and_parts (not (eqb b 10)) (list_all (λ b. not (eqb b 10)) line) h in
    ap (λ t. is_gap t ((line ++ 10 ∷ []) ++ rest)) parts.0 ∙ is_gap-comment line rest parts.1

is_gap-piece : (piece rest : List ℕ) → IsBlankOrComment piece → is_gap false (piece ++ rest) ≡ is_gap false rest
is_gap-piece piece rest (inl (b, is, blank)) = let other = no_comment b blank in rw is (rw (other, blank) refl)
is_gap-piece piece rest (inr (line, is, inside)) = rw is (is_gap-comment line rest inside)

is_gap-pieces : (pieces : List (List ℕ)) → All IsBlankOrComment pieces → is_gap false (concat pieces) ≡ true
is_gap-pieces [] h = refl
is_gap-pieces (piece ∷ pieces) h =
    is_gap-piece piece (concat pieces) (All-head IsBlankOrComment piece pieces h) ∙ is_gap-pieces pieces (All-tail IsBlankOrComment piece pieces h)

pub test_from_gap : (bytes : List ℕ) → IsGap bytes → is_gap false bytes ≡ true
test_from_gap bytes (pieces, is, h) = rw (← is) (is_gap-pieces pieces h)

-- the rest of a comment and a gap, or a gap
abbrev Holds : Bool → List ℕ → Type 0
Holds true bytes = (line rest : List ℕ) × (bytes ≡ line ++ 10 ∷ rest) × (list_all (λ b. not (eqb b 10)) line ≡ true) × IsGap rest
Holds false bytes = IsGap bytes

IsGap-piece : (piece rest : List ℕ) → IsBlankOrComment piece → IsGap rest → IsGap (piece ++ rest)
IsGap-piece piece rest first (pieces, is, h) = (piece ∷ pieces, ap (λ (z : List ℕ). piece ++ z) is, All-cons IsBlankOrComment piece pieces first h)

IsGap-comment : (rest : List ℕ) → Holds true rest → IsGap (35 ∷ rest)
IsGap-comment rest (line, after, is, inside, gap) =
    let whole = IsGap-piece (35 ∷ (line ++ 10 ∷ [])) after (inr (line, refl, inside)) gap in
    rw is (rw append_assoc at whole)

comment_from : (b : ℕ) (rest : List ℕ) → ((in_comment : Bool) → is_gap in_comment rest ≡ true → Holds in_comment rest) → (ends : Bool) → eqb b 10 ≡ ends → is_gap (not ends) rest ≡ true → Holds true (b ∷ rest)
comment_from b rest holds true same h =
    let byte = eqb-true b 10 same in ([], rest, ap (λ x. x ∷ rest) byte, refl, holds false h)
comment_from b rest holds false other h =
    let tail : Holds true rest = holds true h in
    let inside : list_all (λ x. not (eqb x 10)) (b ∷ tail.0) ≡ true = rw other tail.3 in
    (b ∷ tail.0, tail.1, ap (λ (z : List ℕ). b ∷ z) tail.2, inside, tail.4)

blank_from : (b : ℕ) (rest : List ℕ) → ((in_comment : Bool) → is_gap in_comment rest ≡ true → Holds in_comment rest) → cond (eqb b 35) (is_gap true rest) (is_blank b && is_gap false rest) ≡ true → IsGap (b ∷ rest)
blank_from b rest holds h = elim (cond_found (eqb b 35) _ _ _ h) [
  | inl sharp ↦ let byte = eqb-true b 35 sharp.0 in rw byte (IsGap-comment rest (holds true sharp.1))
  | inr other ↦
      let parts = and_parts (is_blank b) (is_gap false rest) other.1 in
      IsGap-piece (b ∷ []) rest (inl (b, refl, parts.0)) (holds false parts.1)
]

gap_from_test : (in_comment : Bool) (bytes : List ℕ) → is_gap in_comment bytes ≡ true → Holds in_comment bytes
gap_from_test true [] h = absurd (false≢true h)
gap_from_test false [] h = ([], refl, All-nil IsBlankOrComment)
gap_from_test true (b ∷ rest) h = comment_from b rest (λ s t. gap_from_test s rest t) (eqb b 10) refl h
gap_from_test false (b ∷ rest) h = blank_from b rest (λ s t. gap_from_test s rest t) h

-- ---- the reader, by the test

-- what the reader does with the first byte outside a comment
gap_from-cases : (b : ℕ) (rest : List ℕ) → ((eqb b 35 ≡ true) × (suc (gap_from true rest) ≡ gap_from false (b ∷ rest))) ⊎ ((eqb b 35 ≡ false) × (is_blank b ≡ true) × (suc (gap_from false rest) ≡ gap_from false (b ∷ rest))) ⊎ ((eqb b 35 ≡ false) × (is_blank b ≡ false) × (0 ≡ gap_from false (b ∷ rest)))
gap_from-cases b rest = elim (cond_found (eqb b 35) (suc (gap_from true rest)) (cond (is_blank b) (suc (gap_from false rest)) 0) (gap_from false (b ∷ rest)) refl) [
  | inl sharp ↦ inl sharp
  | inr other ↦ elim (cond_found (is_blank b) (suc (gap_from false rest)) 0 (gap_from false (b ∷ rest)) other.1) [
    | inl blank ↦ inr (inl (other.0, blank.0, blank.1))
    | inr end ↦ inr (inr (other.0, end.0, end.1))
  ]
]

is_gap-sharp : (b : ℕ) (rest : List ℕ) → eqb b 35 ≡ true → is_gap false (b ∷ rest) ≡ is_gap true rest
is_gap-sharp b rest h = rw h refl

is_gap-blank : (b : ℕ) (rest : List ℕ) → eqb b 35 ≡ false → is_blank b ≡ true → is_gap false (b ∷ rest) ≡ is_gap false rest
is_gap-blank b rest h blank = rw (h, blank) refl

is_gap-other : (b : ℕ) (rest : List ℕ) → eqb b 35 ≡ false → is_blank b ≡ false → is_gap false (b ∷ rest) ≡ false
is_gap-other b rest h other = rw (h, other) refl

gap_stops : (in_comment : Bool) (text : List ℕ) → gap_from in_comment text < length text → is_gap in_comment (take (gap_from in_comment text) text) ≡ true
gap_stops in_comment [] h = absurd (omega arith)
gap_stops true (b ∷ rest) h = gap_stops (not (eqb b 10)) rest (omega arith)
gap_stops false (b ∷ rest) h = elim (gap_from-cases b rest) [
  | inl sharp ↦
      rw (← sharp.1) (is_gap-sharp b (take (gap_from true rest) rest) sharp.0 ∙ gap_stops true rest (omega (arith, sharp.1)))
  | inr (inl blank) ↦
      rw (← blank.2) (is_gap-blank b (take (gap_from false rest) rest) blank.0 blank.1 ∙ gap_stops false rest (omega (arith, blank.2)))
  | inr (inr end) ↦ rw (← end.2) refl
]

gap_ends : (in_comment : Bool) (text : List ℕ) → length text ≤ gap_from in_comment text → is_gap in_comment (text ++ 10 ∷ []) ≡ true
gap_ends true [] h = refl
gap_ends false [] h = refl
gap_ends true (b ∷ rest) h = gap_ends (not (eqb b 10)) rest (omega arith)
gap_ends false (b ∷ rest) h = elim (gap_from-cases b rest) [
  | inl sharp ↦ is_gap-sharp b (rest ++ 10 ∷ []) sharp.0 ∙ gap_ends true rest (omega (arith, sharp.1))
  | inr (inl blank) ↦ is_gap-blank b (rest ++ 10 ∷ []) blank.0 blank.1 ∙ gap_ends false rest (omega (arith, blank.2))
  | inr (inr end) ↦ absurd (omega (arith, end.2))
]

-- a byte at which no gap goes on
abbrev pub Stops : ℕ → Type 0
Stops b = (eqb b 35 ≡ false) × (is_blank b ≡ false)

-- the reader goes no further only at such a byte
gap_stops_at : (in_comment : Bool) (text : List ℕ) → gap_from in_comment text < length text → Stops (slice_index text (gap_from in_comment text))
gap_stops_at in_comment [] h = absurd (omega arith)
gap_stops_at true (b ∷ rest) h = gap_stops_at (not (eqb b 10)) rest (omega arith)
gap_stops_at false (b ∷ rest) h = elim (gap_from-cases b rest) [
  | inl sharp ↦ rw (← sharp.1) (gap_stops_at true rest (omega (arith, sharp.1)))
  | inr (inl blank) ↦ rw (← blank.2) (gap_stops_at false rest (omega (arith, blank.2)))
  | inr (inr end) ↦ rw (← end.2) (end.0, end.1)
]

gap_only : (in_comment : Bool) (text : List ℕ) (n : ℕ) → is_gap in_comment (take n text) ≡ true → n < length text → Stops (slice_index text n) → gap_from in_comment text ≡ n
gap_only in_comment [] n h within stops = absurd (omega arith)
gap_only true (b ∷ rest) zero h within stops = absurd (false≢true h)
gap_only false (b ∷ rest) zero h within stops = rw (stops.0, stops.1) refl
gap_only true (b ∷ rest) (suc n) h within stops = ap suc (gap_only (not (eqb b 10)) rest n h (omega arith) stops)
gap_only false (b ∷ rest) (suc n) h within stops = elim (gap_from-cases b rest) [
  | inl sharp ↦
      let inside : is_gap true (take n rest) ≡ true = sym (is_gap-sharp b (take n rest) sharp.0) ∙ h in
      sym sharp.1 ∙ ap suc (gap_only true rest n inside (omega arith) stops)
  | inr (inl blank) ↦
      let inside : is_gap false (take n rest) ≡ true = sym (is_gap-blank b (take n rest) blank.0 blank.1) ∙ h in
      sym blank.2 ∙ ap suc (gap_only false rest n inside (omega arith) stops)
  | inr (inr end) ↦ absurd (false≢true (sym (is_gap-other b (take n rest) end.0 end.1) ∙ h))
]

gap_whole : (in_comment : Bool) (text : List ℕ) → is_gap in_comment (text ++ 10 ∷ []) ≡ true → length text ≤ gap_from in_comment text
gap_whole in_comment [] h = omega arith
gap_whole true (b ∷ rest) h = omega (arith, gap_whole (not (eqb b 10)) rest h)
gap_whole false (b ∷ rest) h = elim (gap_from-cases b rest) [
  | inl sharp ↦
      let inside : is_gap true (rest ++ 10 ∷ []) ≡ true = sym (is_gap-sharp b (rest ++ 10 ∷ []) sharp.0) ∙ h in
      omega (arith, sharp.1, gap_whole true rest inside)
  | inr (inl blank) ↦
      let inside : is_gap false (rest ++ 10 ∷ []) ≡ true = sym (is_gap-blank b (rest ++ 10 ∷ []) blank.0 blank.1) ∙ h in
      omega (arith, blank.2, gap_whole false rest inside)
  | inr (inr end) ↦ absurd (false≢true (sym (is_gap-other b (rest ++ 10 ∷ []) end.0 end.1) ∙ h))
]

gap_fits : (in_comment : Bool) (text : List ℕ) → gap_from in_comment text ≤ length text
gap_fits true [] = omega arith
gap_fits false [] = omega arith
gap_fits true (b ∷ rest) = omega (arith, gap_fits (not (eqb b 10)) rest)
gap_fits false (b ∷ rest) = elim (gap_from-cases b rest) [
  | inl sharp ↦ omega (arith, sharp.1, gap_fits true rest)
  | inr (inl blank) ↦ omega (arith, blank.2, gap_fits false rest)
  | inr (inr end) ↦ omega (arith, end.2)
]

-- ---- the reader, by the relation

pub gap_len-fits : (text : List ℕ) → gap_len text ≤ length text
gap_len-fits text = gap_fits false text

pub gap_before : (text : List ℕ) → gap_len text < length text → IsGap (take (gap_len text) text)
gap_before text h = gap_from_test false _ (gap_stops false text h)

pub gap_len-stops : (text : List ℕ) → gap_len text < length text → Stops (slice_index text (gap_len text))
gap_len-stops text h = gap_stops_at false text h

pub gap_len-only : (text : List ℕ) (n : ℕ) → IsGap (take n text) → n < length text → Stops (slice_index text n) → gap_len text ≡ n
gap_len-only text n gap within stops = gap_only false text n (test_from_gap (take n text) gap) within stops

pub gap_to_end : (text : List ℕ) → length text ≤ gap_len text → IsGap (text ++ 10 ∷ [])
gap_to_end text h = gap_from_test false _ (gap_ends false text h)

pub gap_len-whole : (text : List ℕ) → IsGap (text ++ 10 ∷ []) → length text ≤ gap_len text
gap_len-whole text gap = gap_whole false text (test_from_gap (text ++ 10 ∷ []) gap)
