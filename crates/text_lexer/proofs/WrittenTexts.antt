-- Lexemes that are apart are the tokens of the text that they are written as.
use Rattle.std.proofs.Common.{◌≡◌, ℕ, zero, suc, ◌+◌, ◌-◌, ◌<◌, ◌≤◌, true, false, ◌&&◌, inl, inr, Bool, List, [], ◌∷◌, ◌++◌, length, take, slice_index, refl, sym, ◌∙◌, ap, ap₂, subst, arith, eqb, Some, append_assoc, append-nil, length-append}
use Rattle.std.specs.Char.{is_ascii_digit, is_ascii_lowercase, is_ascii_uppercase}
use Rattle.std.specs.List.{All, list_all, slice_range}
use Rattle.std.specs.Str.{IsUtf8}
use Rattle.std.proofs.lemmas.Bool.{and_parts, false≢true, not-true}
use Rattle.std.proofs.lemmas.Bool.Decides.{nat_tests}
use Rattle.std.proofs.lemmas.List.{take_at}
use Rattle.std.proofs.lemmas.List.Elements.{All-cons, All-head, All-nil, All-tail}
use Rattle.std.proofs.lemmas.Str.{IsUtf8-append, IsUtf8-nil}
use Rattle.std.proofs.Math.Seq.{drop-append_seam}
use Rattle.text_lexer.specs.declared.token.Token.{Token}
use Rattle.text_lexer.specs.declared.token.TokenKind.{TokenKind}
use Rattle.text_lexer.specs.declared.token.TokenKind.TheVariants.{Upper, Lower, Number, Text, Colon, Minus, Not, Less, Greater, Bar}
use Rattle.text_lexer.specs.Front.{two_byte_sign}
use Rattle.text_lexer.specs.Lexeme.{HasForm, IsLexeme, Lexeme, is_word_byte, sign_of}
use Rattle.text_lexer.specs.Lexes.{IsBlankOrComment, IsGap, IsTokenOf, LexesFrom, Lexes, is_blank}
use Rattle.text_lexer.specs.Token.{lexemes_of}
use Rattle.text_lexer.specs.Written.{IsPart, Spaced, are_apart, ends_before, goes_on, lexemes, places, text_of_lexemes}
use Rattle.text_lexer.proofs.Classes.{class_of_kind, class_of-form, form_digit, form_lower, form_quote, form_sign, form_upper, sign}
use Rattle.text_lexer.proofs.Fronts.{form_some}
use Rattle.text_lexer.proofs.Literals.{cond_found}
use Rattle.text_lexer.proofs.OneValue.{literal_only}
use Rattle.text_lexer.proofs.Signs.{bytes_of_sign}
use Rattle.text_lexer.proofs.Values.{ascii_first}

-- ---- no longer form

passes_at : (p : ℕ → Bool) (xs ys : List ℕ) (c : ℕ) → list_all p (xs ++ c ∷ ys) ≡ true → p c ≡ true
passes_at p [] ys c h = (and_parts (p c) (list_all p ys) h).0
passes_at p (x ∷ xs) ys c h = passes_at p xs ys c (and_parts (p x) (list_all p (xs ++ c ∷ ys)) h).1

-- where two bytes are a sign, the first goes on with the second
sign_goes_on : (kind : TokenKind) → class_of_kind kind ≡ sign → (a c : ℕ) (other : TokenKind) → sign_of kind ≡ a ∷ [] → two_byte_sign a c ≡ Some other → goes_on kind c ≡ true
sign_goes_on Colon e a c other is h =
    let known = subst (λ x. two_byte_sign x c ≡ Some other) (sym (ap (λ (z : List ℕ). slice_index z 0) is)) h in
    elim (cond_found (eqb c 58) _ _ _ known) [ inl goes ↦ goes.0 | inr stops ↦ absurd (cc) ]
sign_goes_on Minus e a c other is h =
    let known = subst (λ x. two_byte_sign x c ≡ Some other) (sym (ap (λ (z : List ℕ). slice_index z 0) is)) h in
    elim (cond_found (eqb c 62) _ _ _ known) [ inl goes ↦ goes.0 | inr stops ↦ absurd (cc) ]
sign_goes_on Not e a c other is h =
    let known = subst (λ x. two_byte_sign x c ≡ Some other) (sym (ap (λ (z : List ℕ). slice_index z 0) is)) h in
    elim (cond_found (eqb c 61) _ _ _ known) [ inl goes ↦ goes.0 | inr stops ↦ absurd (cc) ]
sign_goes_on Less e a c other is h =
    let known = subst (λ x. two_byte_sign x c ≡ Some other) (sym (ap (λ (z : List ℕ). slice_index z 0) is)) h in
    elim (cond_found (eqb c 61) _ _ _ known) [ inl goes ↦ goes.0 | inr stops ↦ absurd (cc) ]
sign_goes_on Greater e a c other is h =
    let known = subst (λ x. two_byte_sign x c ≡ Some other) (sym (ap (λ (z : List ℕ). slice_index z 0) is)) h in
    elim (cond_found (eqb c 61) _ _ _ known) [ inl goes ↦ goes.0 | inr stops ↦ absurd (cc) ]
sign_goes_on Bar e a c other is h =
    let known = subst (λ x. two_byte_sign x c ≡ Some other) (sym (ap (λ (z : List ℕ). slice_index z 0) is)) h in
    elim (cond_found (eqb c 124) _ _ _ known) [ inl goes ↦ goes.0 | inr stops ↦ absurd (cc) ]
sign_goes_on kind e a c other is h =
    let known = subst (λ x. two_byte_sign x c ≡ Some other) (sym (ap (λ (z : List ℕ). slice_index z 0) is)) h in
    absurd (cc)

no_longer_sign : (kind other : TokenKind) (bytes more : List ℕ) (c : ℕ) → class_of_kind kind ≡ sign → HasForm kind bytes → HasForm other (bytes ++ c ∷ more) → class_of_kind other ≡ sign → goes_on kind c ≡ true
no_longer_sign kind other bytes more c class form longer class' =
    let short = form_sign kind bytes class form in
    let long = form_sign other (bytes ++ c ∷ more) class' longer in
    let size = length-append bytes (c ∷ more) in
    elim (bytes_of_sign other class') [
      | inl one ↦ absurd (omega (arith, form_some kind bytes form, ap length (long ∙ one.1)))
      | inr two ↦ elim (bytes_of_sign kind class) [
        | inr both ↦ absurd (omega (arith, ap length (short ∙ both.2), ap length (long ∙ two.2)))
        | inl one ↦
            let joined : one.0 ∷ c ∷ more ≡ two.0 ∷ two.1 ∷ [] = sym (ap (λ (z : List ℕ). z ++ c ∷ more) (short ∙ one.1)) ∙ long ∙ two.2 in
            let first : two.0 ≡ one.0 = cc in
            let second : two.1 ≡ c = cc in
            sign_goes_on kind class one.0 c other one.1 (sym (ap₂ two_byte_sign first second) ∙ two.3)
      ]
    ]

-- what has the form of a kind has none with more bytes, if the next does not go on
no_longer : (kind other : TokenKind) (b : ℕ) (rest more : List ℕ) (c : ℕ) → HasForm kind (b ∷ rest) → goes_on kind c ≡ false → ¬ (HasForm other ((b ∷ rest) ++ c ∷ more))
no_longer kind other b rest more c form ends longer = go kind form ends (sym (class_of-form other ((b ∷ rest) ++ c ∷ more) longer) ∙ class_of-form kind (b ∷ rest) form)
  where
    go : (kind : TokenKind) → HasForm kind (b ∷ rest) → goes_on kind c ≡ false → class_of_kind other ≡ class_of_kind kind → ⊥
    go Upper form ends class =
        let run = form_upper other ((b ∷ rest) ++ c ∷ more) class longer in
        false≢true (sym ends ∙ passes_at is_word_byte rest more c (and_parts (is_ascii_uppercase b) (list_all is_word_byte (rest ++ c ∷ more)) run).1)
    go Lower form ends class =
        let run = form_lower other ((b ∷ rest) ++ c ∷ more) class longer in
        false≢true (sym ends ∙ passes_at is_word_byte rest more c (and_parts (is_ascii_lowercase b) (list_all is_word_byte (rest ++ c ∷ more)) run).1)
    go Number form ends class =
        let run = form_digit other ((b ∷ rest) ++ c ∷ more) class longer in
        false≢true (sym ends ∙ passes_at is_ascii_digit rest more c (and_parts (is_ascii_digit b) (list_all is_ascii_digit (rest ++ c ∷ more)) run).1)
    go Text form ends class =
        let literal = form_quote other ((b ∷ rest) ++ c ∷ more) class longer in
        let same = (literal_only (b ∷ rest) ((b ∷ rest) ++ c ∷ more) form.0 literal.0 (c ∷ more) [] form.1 literal.1 (sym (append-nil ((b ∷ rest) ++ c ∷ more)))).0 in
        omega (arith, ap length same, length-append rest (c ∷ more))
    go kind form ends class =
        false≢true (sym ends ∙ no_longer_sign kind other (b ∷ rest) more c refl form longer class)

-- ---- blanks

blank_ends : (kind : TokenKind) (b : ℕ) → is_blank b ≡ true → goes_on kind b ≡ false
blank_ends Upper b h = grind (arith, nat_tests)
blank_ends Lower b h = grind (arith, nat_tests)
blank_ends Number b h = grind (arith, nat_tests)
blank_ends Colon b h = grind (arith, nat_tests)
blank_ends Minus b h = grind (arith, nat_tests)
blank_ends Not b h = grind (arith, nat_tests)
blank_ends Less b h = grind (arith, nat_tests)
blank_ends Greater b h = grind (arith, nat_tests)
blank_ends Bar b h = grind (arith, nat_tests)
blank_ends kind b h = refl

blanks_gap : (bytes more : List ℕ) → list_all is_blank bytes ≡ true → IsGap more → IsGap (bytes ++ more)
blanks_gap [] more h gap = gap
blanks_gap (b ∷ bytes) more h gap =
    let parts = and_parts (is_blank b) (list_all is_blank bytes) h in
    let rest = blanks_gap bytes more parts.1 gap in
    let first : IsBlankOrComment (b ∷ []) = inl (b, refl, parts.0) in
    ((b ∷ []) ∷ rest.0, ap (λ (z : List ℕ). b ∷ z) rest.1, All-cons IsBlankOrComment (b ∷ []) rest.0 first rest.2)

no_gap : IsGap []
no_gap = ([], refl, All-nil IsBlankOrComment)

line_gap : IsGap (10 ∷ [])
line_gap = blanks_gap (10 ∷ []) [] refl no_gap

blank_small : (b : ℕ) → is_blank b ≡ true → b < 128
blank_small b h = grind (arith, nat_tests)

blanks_utf8 : (bytes more : List ℕ) → list_all is_blank bytes ≡ true → IsUtf8 more → IsUtf8 (bytes ++ more)
blanks_utf8 [] more h utf8 = utf8
blanks_utf8 (b ∷ bytes) more h utf8 =
    let parts = and_parts (is_blank b) (list_all is_blank bytes) h in
    ascii_first b (bytes ++ more) (blank_small b parts.0) (blanks_utf8 bytes more parts.1 utf8)

-- ---- one token

take_past : (bytes after : List ℕ) (n : ℕ) → length bytes ≤ n → take n (bytes ++ after) ≡ bytes ++ take (n - length bytes) after
take_past [] after n h = let same : n ≡ n - 0 = omega arith in ap (λ k. take k after) same
take_past (b ∷ bytes) after zero h = absurd (omega arith)
take_past (b ∷ bytes) after (suc n) h =
    let same : n - length bytes ≡ suc n - suc (length bytes) = omega arith in
    ap (λ (z : List ℕ). b ∷ z) (take_past bytes after n (omega arith) ∙ ap (λ k. bytes ++ take k after) same)

no_longer_there : (kind other : TokenKind) (bytes after : List ℕ) (more : ℕ) → HasForm kind bytes → ends_before kind after ≡ true → 0 < more → more ≤ length after → ¬ (HasForm other (bytes ++ take more after))
no_longer_there kind other [] after more form ends some fits longer = omega (arith, form_some kind [] form)
no_longer_there kind other (b ∷ rest) [] more form ends some fits longer = omega arith
no_longer_there kind other (b ∷ rest) (c ∷ after) zero form ends some fits longer = omega arith
no_longer_there kind other (b ∷ rest) (c ∷ after) (suc more) form ends some fits longer =
    no_longer kind other b rest (take more after) c form (not-true (goes_on kind c) ends) longer

abbrev token_at : TokenKind → ℕ → List ℕ → Token
token_at kind at bytes = record { kind = kind; at = at; end = at + length bytes }

slice_between : (front bytes after : List ℕ) → slice_range (front ++ (bytes ++ after)) (length front) (length front + length bytes) ≡ bytes
slice_between front bytes after =
    let counted : length front + length bytes - length front ≡ length bytes = omega arith in
    ap₂ take counted (drop-append_seam front (bytes ++ after)) ∙ take_at bytes after (length bytes) refl

-- a lexeme between other bytes is a token, if it does not go on with the next byte
token_between : (front bytes after : List ℕ) (kind : TokenKind) → IsLexeme (record { kind = kind; bytes = bytes }) → ends_before kind after ≡ true → IsTokenOf (front ++ (bytes ++ after)) (token_at kind (length front) bytes)
token_between front bytes after kind lexeme ends =
    let text = front ++ (bytes ++ after) in
    let size = length-append front (bytes ++ after) in
    let size' = length-append bytes after in
    record {
      within = omega arith;
      lexeme = subst (λ z. IsLexeme (record { kind = kind; bytes = z })) (sym (slice_between front bytes after)) lexeme;
      longest = λ other end longer fits form.
          let n = end - length front in
          let there : slice_range text (length front) end ≡ bytes ++ take (n - length bytes) after = ap (take n) (drop-append_seam front (bytes ++ after)) ∙ take_past bytes after n (omega arith) in
          no_longer_there kind other bytes after (n - length bytes) lexeme.form ends (omega arith) (omega arith) (subst (HasForm other) there form);
    }

-- ---- all tokens

part_some : (s : Spaced) → IsPart s.lexeme → 0 < length s.lexeme.bytes
part_some s part = form_some s.lexeme.kind s.lexeme.bytes part.lexeme.form

-- what a lexeme is followed by begins as if nothing stood at the end, or with a blank
followed : (kind : TokenKind) (end : List ℕ) (rest : List Spaced) → list_all is_blank end ≡ true → All IsPart (lexemes rest) → ends_before kind (text_of_lexemes [] rest) ≡ true → ends_before kind (text_of_lexemes end rest) ≡ true
followed kind [] [] blank parts h = refl
followed kind (b ∷ end) [] blank parts h =
    let stops = blank_ends kind b (and_parts (is_blank b) (list_all is_blank end) blank).0 in rw stops refl
followed kind end (s ∷ rest) blank parts h =
    go s.before s.lexeme.bytes (part_some s (All-head IsPart s.lexeme (lexemes rest) parts)) h
  where
    go : (before bytes : List ℕ) → 0 < length bytes → ends_before kind (before ++ (bytes ++ text_of_lexemes [] rest)) ≡ true → ends_before kind (before ++ (bytes ++ text_of_lexemes end rest)) ≡ true
    go (b ∷ before) bytes some h = h
    go [] (b ∷ bytes) some h = h
    go [] [] some h = absurd (omega arith)

module _ (end : List ℕ) (blank : list_all is_blank end ≡ true) where
  lexes_from : (parts : List Spaced) (front : List ℕ) → are_apart parts ≡ true → All IsPart (lexemes parts) → LexesFrom (front ++ text_of_lexemes end parts) (length front) (places (length front) parts)
  lexes_from [] front apart parts =
      subst (λ z. IsGap (z ++ 10 ∷ [])) (sym (drop-append_seam front end)) (blanks_gap end (10 ∷ []) blank line_gap)
  lexes_from (s ∷ rest) front apart parts =
      let bytes = s.lexeme.bytes in
      let after = text_of_lexemes end rest in
      let text = front ++ (s.before ++ (bytes ++ after)) in
      let tests = and_parts (list_all is_blank s.before && ends_before s.lexeme.kind (text_of_lexemes [] rest)) (are_apart rest) apart in
      let here = and_parts (list_all is_blank s.before) (ends_before s.lexeme.kind (text_of_lexemes [] rest)) tests.0 in
      let part = All-head IsPart s.lexeme (lexemes rest) parts in
      let others = All-tail IsPart s.lexeme (lexemes rest) parts in
      let start = length front + length s.before in
      let gap : IsGap (slice_range text (length front) start) = subst IsGap (sym (slice_between front s.before (bytes ++ after)) ∙ refl) (subst IsGap (append-nil s.before) (blanks_gap s.before [] here.0 no_gap)) in
      let at : length (front ++ s.before) ≡ start = length-append front s.before in
      let token = token_between (front ++ s.before) bytes after s.lexeme.kind part.lexeme (followed s.lexeme.kind end rest blank others here.1) in
      let is : IsTokenOf text (token_at s.lexeme.kind start bytes) =
      subst (λ n. IsTokenOf text (token_at s.lexeme.kind n bytes)) at (subst (λ z. IsTokenOf z (token_at s.lexeme.kind (length (front ++ s.before)) bytes)) (append_assoc front s.before (bytes ++ after)) token) in
      let before = (front ++ s.before) ++ bytes in
      let next = lexes_from rest before tests.1 others in
      let same : before ++ after ≡ text = append_assoc (front ++ s.before) bytes after ∙ append_assoc front s.before (bytes ++ after) in
      let stop : length before ≡ start + length bytes = omega (arith, length-append (front ++ s.before) bytes) in
      (omega arith, gap, is, subst (λ n. LexesFrom text n (places n rest)) stop (subst (λ z. LexesFrom z (length before) (places (length before) rest)) same next))

  text_utf8 : (parts : List Spaced) → are_apart parts ≡ true → All IsPart (lexemes parts) → IsUtf8 (text_of_lexemes end parts)
  text_utf8 [] apart parts = subst IsUtf8 (append-nil end) (blanks_utf8 end [] blank IsUtf8-nil)
  text_utf8 (s ∷ rest) apart parts =
      let tests = and_parts (list_all is_blank s.before && ends_before s.lexeme.kind (text_of_lexemes [] rest)) (are_apart rest) apart in
      let here = and_parts (list_all is_blank s.before) (ends_before s.lexeme.kind (text_of_lexemes [] rest)) tests.0 in
      let part = All-head IsPart s.lexeme (lexemes rest) parts in
      let others = text_utf8 rest tests.1 (All-tail IsPart s.lexeme (lexemes rest) parts) in
      blanks_utf8 s.before (s.lexeme.bytes ++ text_of_lexemes end rest) here.0 (IsUtf8-append s.lexeme.bytes (text_of_lexemes end rest) part.utf8 others)

  pub written_lexes : (parts : List Spaced) → are_apart parts ≡ true → All IsPart (lexemes parts) → Lexes (text_of_lexemes end parts) (places 0 parts)
  written_lexes parts apart all = (text_utf8 parts apart all, lexes_from parts [] apart all)

module _ (end : List ℕ) where
  lexemes_from : (parts : List Spaced) (front : List ℕ) → lexemes_of (front ++ text_of_lexemes end parts) (places (length front) parts) ≡ lexemes parts
  lexemes_from [] front = refl
  lexemes_from (s ∷ rest) front =
      let bytes = s.lexeme.bytes in
      let after = text_of_lexemes end rest in
      let text = front ++ (s.before ++ (bytes ++ after)) in
      let start = length front + length s.before in
      let at : length (front ++ s.before) ≡ start = length-append front s.before in
      let here : slice_range text start (start + length bytes) ≡ bytes =
      ap (λ n. slice_range text n (n + length bytes)) (sym at) ∙ ap (λ z. slice_range z (length (front ++ s.before)) (length (front ++ s.before) + length bytes)) (sym (append_assoc front s.before (bytes ++ after))) ∙ slice_between (front ++ s.before) bytes after in
      let before = (front ++ s.before) ++ bytes in
      let same : before ++ after ≡ text = append_assoc (front ++ s.before) bytes after ∙ append_assoc front s.before (bytes ++ after) in
      let stop : length before ≡ start + length bytes = omega (arith, length-append (front ++ s.before) bytes) in
      let next : lexemes_of text (places (start + length bytes) rest) ≡ lexemes rest = subst (λ n. lexemes_of text (places n rest) ≡ lexemes rest) stop (subst (λ z. lexemes_of z (places (length before) rest) ≡ lexemes rest) same (lexemes_from rest before)) in
      ap₂ (λ (x : Lexeme) (xs : List Lexeme). x ∷ xs) (ap (λ z. record { kind = s.lexeme.kind; bytes = z }) here) next

  pub written_lexemes : (parts : List Spaced) → lexemes_of (text_of_lexemes end parts) (places 0 parts) ≡ lexemes parts
  written_lexemes parts = lexemes_from parts []
