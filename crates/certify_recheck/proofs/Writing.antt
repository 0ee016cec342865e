-- Written lines are read back.
use Rattle.std.proofs.Common.{◌≡◌, ℕ, suc, ◌<◌, ◌^◌, true, false, not, ◌&&◌, List, [], ◌∷◌, ◌++◌, length, drop, get_or, eqb, Some, codes, refl, sym, ◌∙◌, ap, subst, arith}
use Rattle.std.specs.Char.{is_ascii_digit}
use Rattle.std.specs.Fmt.{decimal}
use Rattle.std.specs.List.{list_all}
use Rattle.std.specs.Str.{all_ascii_digits}
use Rattle.std.specs.Str.Parse.{digits_value}
use Rattle.std.proofs.Math.Logic.{⊎_elim}
use Rattle.std.proofs.lemmas.Bool.{and_from, and_parts, both_ways, cases_eq, cond-true, eq-eqb, lt-ltb, ne_eqb, not_from_false}
use Rattle.std.proofs.lemmas.Fmt.{decimal_digit, decimal_is_IsNumeral, decimal_nonempty, digits_decimal, first_decimal}
use Rattle.std.proofs.lemmas.List.{get_or_append_left, get_or_at, length-append, take_at}
use Rattle.std.proofs.lemmas.List.Sums.{AllPass-from_list_all}
use Rattle.std.proofs.lemmas.List.Folds.{list_all-append}
use Rattle.std.proofs.lemmas.Str.Parse.{numerals_by_value, tells_all_ascii_digits}
use Rattle.certify_recheck.specs.Lines.{line_of, numbered, whole_lines}
use Rattle.certify_recheck.specs.Numbers.{are_digits, has_needless_zero, is_number, number_of}
use Rattle.certify_recheck.specs.Written.{IsReadBack, IsWrittenWith, WrittenLinesAreReadBack}
use Rattle.certify_recheck.specs.declared.line.Line.{Line}
use Rattle.certify_recheck.specs.declared.line.Line.TheVariants.{Heading, Duty, Split, Clause, Theory, End, Other}
use Rattle.certify_recheck.proofs.TextLines.{lines_more}

-- ---- numbers

all_digits : (ds : List ℕ) → all_ascii_digits ds ≡ list_all is_ascii_digit ds
all_digits [] = refl
all_digits (d ∷ ds) = ap (λ b. is_ascii_digit d && b) (all_digits ds)

decimal_digits : (n : ℕ) → n < 2 ^ 64 → list_all is_ascii_digit (decimal n) ≡ true
decimal_digits n small =
    sym (all_digits (decimal n)) ∙ digits_decimal (numerals_by_value (λ ds. all_ascii_digits ds ≡ true) tells_all_ascii_digits) n small

no_needless_zero : (ds : List ℕ) → 48 < get_or ds 0 0 → has_needless_zero ds ≡ false
no_needless_zero [] h = refl
no_needless_zero (d ∷ []) h = refl
no_needless_zero (d ∷ e ∷ ds) h = ne_eqb d 48 (λ f. omega arith)

decimal_zeros : (n : ℕ) → n < 2 ^ 64 → has_needless_zero (decimal n) ≡ false
decimal_zeros n small =
    ⊎_elim
    (λ is_zero. ap (λ k. has_needless_zero (decimal k)) is_zero ∙ ap has_needless_zero (decimal_digit 0 (omega arith)))
    (λ some. no_needless_zero (decimal n) (first_decimal n (omega arith) small))
    (cases_eq n 0)

digits_are : (ds : List ℕ) (n : ℕ) → 0 < length ds → list_all is_ascii_digit ds ≡ true → digits_value 10 ds ≡ n → n < 2000000000 → are_digits ds ≡ true
digits_are [] n some all value small = absurd (omega arith)
digits_are (d ∷ ds) n some all value small = and_from _ _ all (lt-ltb (digits_value 10 (d ∷ ds)) 2000000000 (omega arith))

pub number-decimal : (n : ℕ) → n < 2000000000 → number_of (decimal n) ≡ Some n
number-decimal n small =
    let fits : n < 2 ^ 64 = omega arith in
    let value = (decimal_is_IsNumeral n fits).1 in
    let is = and_from (not (has_needless_zero (decimal n))) (are_digits (decimal n)) (not_from_false _ (decimal_zeros n fits)) (digits_are (decimal n) n (decimal_nonempty n fits) (decimal_digits n fits) value small) in
    cond-true (is_number (decimal n)) _ _ is ∙ ap (λ k. Some k) value

-- ---- lines

digit_goes_on : (b : ℕ) → is_ascii_digit b ≡ true → not (eqb b 10) ≡ true
digit_goes_on b h =
    ⊎_elim
    (λ e. absurd (let bad : is_ascii_digit 10 ≡ true = subst (λ k. is_ascii_digit k ≡ true) e h in cc))
    (λ apart. not_from_false _ (ne_eqb b 10 apart))
    (cases_eq b 10)

digits_go_on : (ds : List ℕ) → list_all is_ascii_digit ds ≡ true → list_all (λ b. not (eqb b 10)) ds ≡ true
digits_go_on [] h = refl
digits_go_on (d ∷ ds) h = let parts = and_parts (is_ascii_digit d) (list_all is_ascii_digit ds) h in and_from _ _ (digit_goes_on d parts.0) (digits_go_on ds parts.1)

-- bytes without an end, with an end behind them, are a line
whole : (bytes rest : List ℕ) → list_all (λ b. not (eqb b 10)) bytes ≡ true → whole_lines (bytes ++ 10 ∷ rest) ≡ bytes ∷ whole_lines rest
whole bytes rest none =
    let all = bytes ++ 10 ∷ rest in
    let n = length bytes in
    let size = length-append bytes (10 ∷ rest) in
    lines_more all n (omega arith)
    (λ k below e.
    let here = AllPass-from_list_all (λ b. not (eqb b 10)) bytes none k 0 below in
    both_ways (not (eqb (get_or bytes k 0) 10)) (ap not (eq-eqb (get_or bytes k 0) 10 (sym (get_or_append_left bytes (10 ∷ rest) 0 k below) ∙ e))) here)
    (get_or_at bytes 10 rest 0 n refl)
    ∙ ap (λ l. l ∷ whole_lines (drop (suc n) all)) (take_at bytes (10 ∷ rest) n refl)
    ∙ ap (λ xs. bytes ∷ whole_lines xs) (drop_past bytes rest)
  where
    drop_past : (xs ys : List ℕ) → drop (suc (length xs)) (xs ++ 10 ∷ ys) ≡ ys
    drop_past [] ys = refl
    drop_past (x ∷ xs) ys = drop_past xs ys

with_number : (word : List ℕ) (line : ℕ → Line) (n : ℕ) (bytes : List ℕ) → list_all (λ b. not (eqb b 10)) word ≡ true
    → line_of (word ++ decimal n) ≡ numbered line (number_of (decimal n)) → IsWrittenWith word n bytes → IsReadBack (line n) bytes
with_number word line n bytes none reads h =
    let small : n < 2000000000 = h.small in
    let fits : n < 2 ^ 64 = omega arith in
    let ends = list_all-append (λ b. not (eqb b 10)) word (decimal n) ∙ and_from _ _ none (digits_go_on (decimal n) (decimal_digits n fits)) in
    record {
      says = ap line_of h.is ∙ reads ∙ ap (numbered line) (number-decimal n small);
      is_first = λ rest. whole bytes rest (ap (list_all (λ b. not (eqb b 10))) h.is ∙ ends);
    }

plain : (word : List ℕ) (l : Line) (bytes : List ℕ) → list_all (λ b. not (eqb b 10)) word ≡ true → line_of word ≡ l → bytes ≡ word → IsReadBack l bytes
plain word l bytes none reads e = record {
  says = ap line_of e ∙ reads;
  is_first = λ rest. whole bytes rest (ap (list_all (λ b. not (eqb b 10))) e ∙ none);
}

pub written_lines : WrittenLinesAreReadBack
unfolding line_of
written_lines Heading bytes h = plain (codes "certificate 1") Heading bytes refl refl h
written_lines (Duty n) bytes h = with_number (codes "duty ") (λ k. Duty k) n bytes refl refl h
written_lines (Split v) bytes h = with_number (codes "split ") (λ k. Split k) v bytes refl refl h
written_lines (Clause n) bytes h = with_number (codes "clause ") (λ k. Clause k) n bytes refl refl h
written_lines Theory bytes h = plain (codes "theory") Theory bytes refl refl h
written_lines End bytes h = plain (codes "end") End bytes refl refl h
written_lines Other bytes h = absurd h
