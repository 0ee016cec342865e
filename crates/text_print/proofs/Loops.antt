-- The spellings of a list, as a loop writes them.
use Rattle.std.proofs.Common.{zero, suc, ◌≡◌, ◌<◌, ◌≤◌, ℕ, ◌+◌, List, [], ◌∷◌, ◌++◌, map, length, drop, get_or, refl, sym, ◌∙◌, ap, subst, arith, append_assoc, append-nil}
use Rattle.std.specs.List.{flat_map}
use Rattle.text_lexer.specs.declared.token.TokenKind.TheVariants as k
use Rattle.text_print.specs.Exprs.{commas, joined}
use Rattle.text_print.specs.Marks.{Mark, sign, sp, text_of_marks}
use Rattle.text_print.proofs.Joined.{text-append}

-- So far `out` is written, and with what is left after `before` it will be `whole`.
pub record IsWriting {A : Type 0} (f : A → List Mark) (left : List A) (before out whole : List ℕ) : Type 0 where
  pub marks : List Mark
  pub before_is : before ≡ text_of_marks marks
  pub goes_on : out ++ text_of_marks (joined marks (map f left)) ≡ whole

pub commas_begin : {A : Type 0} (f : A → List Mark) (xs : List A) (out : List ℕ) → IsWriting f xs [] out (out ++ text_of_marks (commas (map f xs)))
commas_begin f xs out = record { marks = []; before_is = refl; goes_on = refl }

pub commas_more : {A : Type 0} (f : A → List Mark) (x : A) (left : List A) (before out whole : List ℕ) → IsWriting f (x ∷ left) before out whole → IsWriting f left (text_of_marks (sign k.Comma ∷ sp ∷ [])) ((out ++ before) ++ text_of_marks (f x)) whole
commas_more f x left before out whole w =
    let b = text_of_marks w.marks in
    let rest = joined (sign k.Comma ∷ sp ∷ []) (map f left) in
    let parts : text_of_marks (w.marks ++ (f x ++ rest)) ≡ b ++ (text_of_marks (f x) ++ text_of_marks rest) = simp text-append in
    record {
      marks = sign k.Comma ∷ sp ∷ [];
      before_is = refl;
      goes_on = ap (λ z. ((out ++ z) ++ text_of_marks (f x)) ++ text_of_marks rest) w.before_is ∙ (simp append_assoc) ∙ ap (λ z. out ++ z) (sym parts) ∙ w.goes_on;
    }

pub commas_end : {A : Type 0} (f : A → List Mark) (before out whole : List ℕ) → IsWriting f [] before out whole → out ≡ whole
commas_end f before out whole w = sym (append-nil out) ∙ w.goes_on

pub commas_done : {A : Type 0} (f : A → List Mark) (xs : List A) (i : ℕ) (before out whole : List ℕ) → length xs ≤ i → IsWriting f (drop i xs) before out whole → out ≡ whole
commas_done f [] zero before out whole over w = commas_end f before out whole w
commas_done f [] (suc i) before out whole over w = commas_end f before out whole w
commas_done f (x ∷ xs) zero before out whole over w = absurd (omega arith)
commas_done f (x ∷ xs) (suc i) before out whole over w = commas_done f xs i before out whole (omega arith) w

pub commas_step : {A : Type 0} (f : A → List Mark) (xs : List A) (i : ℕ) (x : A) (before out whole : List ℕ) → i < length xs → x ≡ get_or xs i x → IsWriting f (drop i xs) before out whole → IsWriting f (drop (i + 1) xs) (text_of_marks (sign k.Comma ∷ sp ∷ [])) ((out ++ before) ++ text_of_marks (f x)) whole
commas_step f [] i x before out whole within is w = absurd (omega arith)
commas_step f (y ∷ xs) zero x before out whole within is w =
    subst (λ z. IsWriting f xs (text_of_marks (sign k.Comma ∷ sp ∷ [])) ((out ++ before) ++ text_of_marks (f z)) whole) (sym is) (commas_more f y xs before out whole w)
commas_step f (y ∷ xs) (suc i) x before out whole within is w =
    let same : suc (i + 1) ≡ suc i + 1 = omega arith in
    subst (λ n. IsWriting f (drop n (y ∷ xs)) (text_of_marks (sign k.Comma ∷ sp ∷ [])) ((out ++ before) ++ text_of_marks (f x)) whole) same (commas_step f xs i x before out whole (omega arith) is w)

-- So far `out` is written, and with what is left it will be `whole`.
pub record AreLeft {A : Type 0} (f : A → List ℕ) (left : List A) (out whole : List ℕ) : Type 0 where
  pub goes_on : out ++ flat_map f left ≡ whole

pub lines_begin : {A : Type 0} (f : A → List ℕ) (xs : List A) (out : List ℕ) → AreLeft f xs out (out ++ flat_map f xs)
lines_begin f xs out = record { goes_on = refl }

pub lines_done : {A : Type 0} (f : A → List ℕ) (xs : List A) (i : ℕ) (out whole : List ℕ) → length xs ≤ i → AreLeft f (drop i xs) out whole → out ≡ whole
lines_done f [] zero out whole over w = sym (append-nil out) ∙ w.goes_on
lines_done f [] (suc i) out whole over w = sym (append-nil out) ∙ w.goes_on
lines_done f (x ∷ xs) zero out whole over w = absurd (omega arith)
lines_done f (x ∷ xs) (suc i) out whole over w = lines_done f xs i out whole (omega arith) w

pub lines_step : {A : Type 0} (f : A → List ℕ) (xs : List A) (i : ℕ) (x : A) (out whole : List ℕ) → i < length xs → x ≡ get_or xs i x
    → AreLeft f (drop i xs) out whole → AreLeft f (drop (i + 1) xs) (out ++ f x) whole
lines_step f [] i x out whole within is w = absurd (omega arith)
lines_step f (y ∷ xs) zero x out whole within is w =
    record { goes_on = append_assoc out (f x) (flat_map f xs) ∙ ap (λ z. out ++ (f z ++ flat_map f xs)) is ∙ w.goes_on }
lines_step f (y ∷ xs) (suc i) x out whole within is w =
    let same : suc (i + 1) ≡ suc i + 1 = omega arith in
    subst (λ n. AreLeft f (drop n (y ∷ xs)) (out ++ f x) whole) same (lines_step f xs i x out whole (omega arith) is w)

-- So far `out` is written, and with the marks of what is left it will be `whole`.
pub record AreLines {A : Type 0} (f : A → List Mark) (left : List A) (out whole : List ℕ) : Type 0 where
  pub goes_on : out ++ text_of_marks (flat_map f left) ≡ whole

pub marks_begin : {A : Type 0} (f : A → List Mark) (xs : List A) (out : List ℕ) → AreLines f xs out (out ++ text_of_marks (flat_map f xs))
marks_begin f xs out = record { goes_on = refl }

pub marks_done : {A : Type 0} (f : A → List Mark) (xs : List A) (i : ℕ) (out whole : List ℕ) → length xs ≤ i → AreLines f (drop i xs) out whole → out ≡ whole
marks_done f [] zero out whole over w = sym (append-nil out) ∙ w.goes_on
marks_done f [] (suc i) out whole over w = sym (append-nil out) ∙ w.goes_on
marks_done f (x ∷ xs) zero out whole over w = absurd (omega arith)
marks_done f (x ∷ xs) (suc i) out whole over w = marks_done f xs i out whole (omega arith) w

pub marks_step : {A : Type 0} (f : A → List Mark) (xs : List A) (i : ℕ) (x : A) (out whole : List ℕ) → i < length xs → x ≡ get_or xs i x
    → AreLines f (drop i xs) out whole → AreLines f (drop (i + 1) xs) (out ++ text_of_marks (f x)) whole
marks_step f [] i x out whole within is w = absurd (omega arith)
marks_step f (y ∷ xs) zero x out whole within is w =
    record {
      goes_on =
          append_assoc out (text_of_marks (f x)) (text_of_marks (flat_map f xs)) ∙ ap (λ z. out ++ (text_of_marks (f z) ++ text_of_marks (flat_map f xs))) is
          ∙ ap (λ z. out ++ z) (sym (text-append (f y) (flat_map f xs))) ∙ w.goes_on;
    }
marks_step f (y ∷ xs) (suc i) x out whole within is w =
    let same : suc (i + 1) ≡ suc i + 1 = omega arith in
    subst (λ n. AreLines f (drop n (y ∷ xs)) (out ++ text_of_marks (f x)) whole) same (marks_step f xs i x out whole (omega arith) is w)
