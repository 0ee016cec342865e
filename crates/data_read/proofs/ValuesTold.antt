-- Values, as they are printed, spell literals that write them.
use Rattle.std.proofs.Common.{◌≡◌, ◌<◌, ◌≤◌, ◌-◌, ◌^◌, inl, inr, ℕ, ℤ, Bool, true, false, pos, negsuc, suc, lit≤, List, [], ◌∷◌, map, codes, refl, sym, ◌∙◌, ap, subst, arith, rules}
use Rattle.std.specs.Prelude.{FitsSigned}
use Rattle.std.specs.Int.{w64}
use Rattle.std.specs.Int.Signed.{mag}
use Rattle.std.specs.List.{AllByRecursion}
use Rattle.std.specs.Str.Parse.{digits_value}
use Rattle.text_lexer.specs.declared.limits.TheConstants.{LARGEST_NUMBER}
use Rattle.text_lexer.specs.declared.token.TokenKind.TheVariants as k
use Rattle.text_lexer.specs.Lexeme.{Lexeme, sign_of}
use Rattle.text_ast.specs.Pieces.{Piece}
use Rattle.text_ast.specs.Words.{IsText}
use Rattle.text_tree.specs.ExprGrammar.{minus}
use Rattle.text_tree.specs.Forms.{Literal, Negated, Plain, Spells, both, either, mapped, part, token}
use Rattle.text_tree.specs.Levels.{SpellsPart}
use Rattle.text_tree.specs.LiteralValue.{literal_value}
use Rattle.text_print.specs.Exprs.{commas}
use Rattle.text_print.specs.Marks.{lexemes_of_marks, sign as mark, number as number_marks}
use Rattle.type_schema.specs.declared.types.TBase.{TBase}
use Rattle.type_schema.specs.declared.types.TBase.TheVariants as base
use Rattle.type_schema.specs.declared.types.TTy.{TTy}
use Rattle.type_schema.specs.declared.types.TTy.TheVariants.{Plain as PlainTy, Set, Opt}
use Rattle.data_meaning.specs.Values.{Value, Flag, Num, Str, Ids, Nothing, Just, IsBaseValueOf, IsId, IsValueOf}
use Rattle.data_tree.specs.declared.literals.WrittenId.{WrittenId}
use Rattle.data_tree.specs.declared.literals.Lit.{Lit, out-Lit}
use Rattle.data_tree.specs.declared.literals.Lit as lits
use Rattle.data_tree.specs.declared.literals.Lit.TheVariants as lit
use Rattle.data_tree.specs.declared.literals.Lit.TheOpen.{Lit-F}
use Rattle.data_tree.specs.Grammar.{Value as ValuePart, flag, id, id_form, keyword, list, listed, number, option, parens, rule, sign, text, value, written_id}
use Rattle.text_print.proofs.Tokens.{at, part_of}
use Rattle.data_read.specs.Spelled.{IsIdLitOf, IsLitOf}
use Rattle.data_read.proofs.Forms.{Pieces, Told, told-as, told-both, told-left, told-mapped, told-right, told-sign}
use Rattle.data_read.proofs.Listed.{lexemes-append, told-listed}
use Rattle.data_read.proofs.Marked.{id_marks, value_marks}
use Rattle.data_read.proofs.TokensTold.{told-digits, told-keyword, told-negated, told-plain, told-text}

out-flag : (b : Bool) (at : ℕ) → out-Lit (lit.Flag b at) ≡ Lit-F.Flag b at
out-flag b at = search (rules, lits.the_lemmas)

out-num : (n : ℤ) (at : ℕ) → out-Lit (lit.Num n at) ≡ Lit-F.Num n at
out-num n at = search (rules, lits.the_lemmas)

out-str : (bytes : List ℕ) (at : ℕ) → out-Lit (lit.Str bytes at) ≡ Lit-F.Str bytes at
out-str bytes at = search (rules, lits.the_lemmas)

out-id : (i : WrittenId) (at : ℕ) → out-Lit (lit.Id i at) ≡ Lit-F.Id i at
out-id i at = search (rules, lits.the_lemmas)

out-none : (at : ℕ) → out-Lit (lit.NoneLit at) ≡ Lit-F.NoneLit at
out-none at = search (rules, lits.the_lemmas)

out-some : (inner : Lit) (at : ℕ) → out-Lit (lit.SomeLit inner at) ≡ Lit-F.SomeLit inner at
out-some inner at = search (rules, lits.the_lemmas)

out-list : (items : List Lit) (at : ℕ) → out-Lit (lit.List items at) ≡ Lit-F.List items at
out-list items at = search (rules, lits.the_lemmas)

fits-mag : (n : ℤ) → FitsSigned w64 n → mag n < 2 ^ 63
fits-mag n fits = search rules

module _ (S : Pieces) where
  pub told-id-form : (i : ℕ) → i ≤ LARGEST_NUMBER → Told (λ (v : Piece × WrittenId). v.1.number ≡ i) (Spells S id_form) (lexemes_of_marks (id_marks i))
  unfolding id_form
  told-id-form i low =
      told-mapped S (λ v. (v.0, written_id v.1)) (both (sign k.At) (sign k.Number)) (λ v. v.1.number ≡ i) (λ v is. is.1)
      (told-both S (sign k.At) (sign k.Number) (told-sign S k.At (part_of (at k.At (sign_of k.At)) (record { form = refl; limits = tt }) refl)) (told-digits S i low))

  -- ---- by their forms

  told-true : Told (IsLitOf (Flag true)) (Spells S flag) (lexemes_of_marks (value_marks (Flag true)))
  unfolding flag
  told-true =
      told-left S (mapped (λ l. lit.Flag true l.at) (keyword (codes "true"))) (mapped (λ l. lit.Flag false l.at) (keyword (codes "false")))
      (told-mapped S (λ l. lit.Flag true l.at) (keyword (codes "true")) (IsLitOf (Flag true)) (λ l is. (l.at, out-flag true l.at))
      (told-keyword S (codes "true") refl (lit≤ tt) refl))

  told-false : Told (IsLitOf (Flag false)) (Spells S flag) (lexemes_of_marks (value_marks (Flag false)))
  unfolding flag
  told-false =
      told-right S (mapped (λ l. lit.Flag true l.at) (keyword (codes "true"))) (mapped (λ l. lit.Flag false l.at) (keyword (codes "false")))
      (told-mapped S (λ l. lit.Flag false l.at) (keyword (codes "false")) (IsLitOf (Flag false)) (λ l is. (l.at, out-flag false l.at))
      (told-keyword S (codes "false") refl (lit≤ tt) refl))

  told-flag : (b : Bool) → Told (IsLitOf (Flag b)) (Spells S flag) (lexemes_of_marks (value_marks (Flag b)))
  told-flag true = told-true
  told-flag false = told-false

  told-number : (n : ℤ) → FitsSigned w64 n → Told (IsLitOf (Num n)) (Spells S number) (lexemes_of_marks (number_marks n))
  unfolding number
  told-number (pos n) fits =
      let small : n < 2 ^ 63 = fits-mag (pos n) fits in
      told-left S (mapped (λ l. lit.Num (pos (digits_value 10 l.bytes)) l.at) (token Plain))
      (mapped (λ v. lit.Num (minus (digits_value 10 v.1.bytes)) v.0.at) (both (sign k.Minus) (token Negated)))
      (told-mapped S (λ l. lit.Num (pos (digits_value 10 l.bytes)) l.at) (token Plain) (IsLitOf (Num (pos n)))
      (λ l is. (l.at, out-num (pos (digits_value 10 l.bytes)) l.at ∙ ap (λ z. Lit-F.Num (pos z) l.at) is)) (told-plain S n (omega (arith, small))))
  told-number (negsuc n) fits =
      let small : n < 2 ^ 63 = fits-mag (negsuc n) fits in
      let back : suc n - 1 ≡ n = omega arith in
      told-right S (mapped (λ l. lit.Num (pos (digits_value 10 l.bytes)) l.at) (token Plain))
      (mapped (λ v. lit.Num (minus (digits_value 10 v.1.bytes)) v.0.at) (both (sign k.Minus) (token Negated)))
      (told-mapped S (λ v. lit.Num (minus (digits_value 10 v.1.bytes)) v.0.at) (both (sign k.Minus) (token Negated)) (IsLitOf (Num (negsuc n)))
      (λ v is. (v.0.at, out-num (minus (digits_value 10 v.1.bytes)) v.0.at ∙ ap (λ z. Lit-F.Num (minus z) v.0.at) is.1 ∙ ap (λ z. Lit-F.Num (negsuc z) v.0.at) back))
      (told-both S (sign k.Minus) (token Negated) (told-sign S k.Minus (part_of (at k.Minus (sign_of k.Minus)) (record { form = refl; limits = tt }) refl))
      (told-negated S (suc n) (omega arith) (omega (arith, small)))))

  told-str : (bytes : List ℕ) → IsText bytes → Told (IsLitOf (Str bytes)) (Spells S text) (lexemes_of_marks (value_marks (Str bytes)))
  unfolding text
  told-str bytes is =
      told-mapped S (λ l. lit.Str (literal_value l.bytes) l.at) (token Literal) (IsLitOf (Str bytes))
      (λ l e. (l.at, out-str (literal_value l.bytes) l.at ∙ ap (λ z. Lit-F.Str z l.at) e)) (told-text S bytes is)

  told-id : (i : ℕ) → IsId i → Told (IsIdLitOf i) (Spells S id) (lexemes_of_marks (id_marks i))
  unfolding id
  told-id i is =
      told-mapped S (λ v. lit.Id v.1 v.0.at) id_form (IsIdLitOf i) (λ v e. (v.1, v.0.at, e, out-id v.1 v.0.at)) (told-id-form i (omega (arith, is.1)))

  -- ---- any of them

  in-flag : {R : Lit → Type 0} {m : List Lexeme} → Told R (Spells S flag) m → Told R (Spells S value) m
  unfolding value
  in-flag h = told-left S flag (either number (either text (either id (either option list)))) h

  in-number : {R : Lit → Type 0} {m : List Lexeme} → Told R (Spells S number) m → Told R (Spells S value) m
  unfolding value
  in-number h = told-right S flag (either number (either text (either id (either option list)))) (told-left S number (either text (either id (either option list))) h)

  in-text : {R : Lit → Type 0} {m : List Lexeme} → Told R (Spells S text) m → Told R (Spells S value) m
  unfolding value
  in-text h =
      told-right S flag (either number (either text (either id (either option list))))
      (told-right S number (either text (either id (either option list))) (told-left S text (either id (either option list)) h))

  in-id : {R : Lit → Type 0} {m : List Lexeme} → Told R (Spells S id) m → Told R (Spells S value) m
  unfolding value
  in-id h =
      told-right S flag (either number (either text (either id (either option list))))
      (told-right S number (either text (either id (either option list)))
      (told-right S text (either id (either option list)) (told-left S id (either option list) h)))

  in-option : {R : Lit → Type 0} {m : List Lexeme} → Told R (Spells S option) m → Told R (Spells S value) m
  unfolding value
  in-option h =
      told-right S flag (either number (either text (either id (either option list))))
      (told-right S number (either text (either id (either option list)))
      (told-right S text (either id (either option list)) (told-right S id (either option list) (told-left S option list h))))

  in-list : {R : Lit → Type 0} {m : List Lexeme} → Told R (Spells S list) m → Told R (Spells S value) m
  unfolding value
  in-list h =
      told-right S flag (either number (either text (either id (either option list))))
      (told-right S number (either text (either id (either option list)))
      (told-right S text (either id (either option list)) (told-right S id (either option list) (told-right S option list h))))

  base-value : (b : TBase) (v : Value) → IsBaseValueOf b v → Told (IsLitOf v) (Spells S value) (lexemes_of_marks (value_marks v))
  base-value base.Bool v (b, is) = subst (λ w. Told (IsLitOf w) (Spells S value) (lexemes_of_marks (value_marks w))) (sym is) (in-flag (told-flag b))
  base-value base.Int v (n, is, fits) = subst (λ w. Told (IsLitOf w) (Spells S value) (lexemes_of_marks (value_marks w))) (sym is) (in-number (told-number n fits))
  base-value base.Text v (bytes, is, fits) = subst (λ w. Told (IsLitOf w) (Spells S value) (lexemes_of_marks (value_marks w))) (sym is) (in-text (told-str bytes fits))
  base-value (base.Id m) v (i, is, fits) = subst (λ w. Told (IsLitOf w) (Spells S value) (lexemes_of_marks (value_marks w))) (sym is) (in-id (told-id i fits))

  -- ---- options and sets, over what the parts inside are

  told-nothing : Told (IsLitOf Nothing) (Spells S option) (lexemes_of_marks (value_marks Nothing))
  unfolding option
  told-nothing =
      told-left S (mapped (λ l. lit.NoneLit l.at) (keyword (codes "none"))) (mapped (λ v. lit.SomeLit v.1 v.0.at) (both (keyword (codes "some")) (parens (part ValuePart))))
      (told-mapped S (λ l. lit.NoneLit l.at) (keyword (codes "none")) (IsLitOf Nothing) (λ l is. (l.at, out-none l.at)) (told-keyword S (codes "none") refl (lit≤ tt) refl))

  told-just : (v : Value) → Told (IsLitOf v) (S ValuePart) (lexemes_of_marks (value_marks v)) → Told (IsLitOf (Just v)) (Spells S option) (lexemes_of_marks (value_marks (Just v)))
  unfolding option
  told-just v h =
      let open_ = told-sign S k.ParenOpen (part_of (at k.ParenOpen (sign_of k.ParenOpen)) (record { form = refl; limits = tt }) refl) in
      let close = told-sign S k.ParenClose (part_of (at k.ParenClose (sign_of k.ParenClose)) (record { form = refl; limits = tt }) refl) in
      let inner = told-mapped S (λ w. w.1.0) (both (sign k.ParenOpen) (both (part ValuePart) (sign k.ParenClose))) (IsLitOf v) (λ w is. is.1.0)
      (told-both S (sign k.ParenOpen) (both (part ValuePart) (sign k.ParenClose)) open_ (told-both S (part ValuePart) (sign k.ParenClose) h close)) in
      told-as (ap (λ z. at k.Lower (codes "some") ∷ at k.ParenOpen (sign_of k.ParenOpen) ∷ z) (lexemes-append (value_marks v) (mark k.ParenClose ∷ [])))
      (told-right S (mapped (λ l. lit.NoneLit l.at) (keyword (codes "none"))) (mapped (λ w. lit.SomeLit w.1 w.0.at) (both (keyword (codes "some")) (parens (part ValuePart))))
      (told-mapped S (λ w. lit.SomeLit w.1 w.0.at) (both (keyword (codes "some")) (parens (part ValuePart))) (IsLitOf (Just v))
      (λ w is. (w.1, w.0.at, is.1, out-some w.1 w.0.at)) (told-both S (keyword (codes "some")) (parens (part ValuePart)) (told-keyword S (codes "some") refl (lit≤ tt) refl) inner)))

  told-ids : (ids : List ℕ) → ((i : ℕ) → IsId i → Told (IsIdLitOf i) (S ValuePart) (lexemes_of_marks (id_marks i))) → AllByRecursion IsId ids
      → Told (IsLitOf (Ids ids)) (Spells S list) (lexemes_of_marks (value_marks (Ids ids)))
  unfolding list
  told-ids ids h all =
      let open_ = told-sign S k.BracketOpen (part_of (at k.BracketOpen (sign_of k.BracketOpen)) (record { form = refl; limits = tt }) refl) in
      let close = told-sign S k.BracketClose (part_of (at k.BracketClose (sign_of k.BracketClose)) (record { form = refl; limits = tt }) refl) in
      told-as (ap (λ z. at k.BracketOpen (sign_of k.BracketOpen) ∷ z) (lexemes-append (commas (map id_marks ids)) (mark k.BracketClose ∷ [])))
      (told-mapped S (λ v. lit.List v.1.0 v.0.at) (both (sign k.BracketOpen) (both (listed (part ValuePart)) (sign k.BracketClose))) (IsLitOf (Ids ids))
      (λ v is. (v.1.0, v.0.at, is.1.0, out-list v.1.0 v.0.at))
      (told-both S (sign k.BracketOpen) (both (listed (part ValuePart)) (sign k.BracketClose)) open_
      (told-both S (listed (part ValuePart)) (sign k.BracketClose) (told-listed S (part ValuePart) IsIdLitOf IsId id_marks h ids all) close)))

-- ---- at two levels

id-level : (n i : ℕ) → IsId i → Told (IsIdLitOf i) (SpellsPart rule (suc n) ValuePart) (lexemes_of_marks (id_marks i))
id-level n i is = in-id (SpellsPart rule n) (told-id (SpellsPart rule n) i is)

pub value-told : (n : ℕ) (t : TTy) (v : Value) → IsValueOf t v → Told (IsLitOf v) (SpellsPart rule (suc (suc n)) ValuePart) (lexemes_of_marks (value_marks v))
value-told n (PlainTy b) v is = base-value (SpellsPart rule (suc n)) b v is
value-told n (Set m) v (ids, is, rising, all) =
    let S = SpellsPart rule (suc n) in
    subst (λ w. Told (IsLitOf w) (Spells S value) (lexemes_of_marks (value_marks w))) (sym is) (in-list S (told-ids S ids (id-level n) all))
value-told n (Opt b) v (inl is) =
    let S = SpellsPart rule (suc n) in
    subst (λ w. Told (IsLitOf w) (Spells S value) (lexemes_of_marks (value_marks w))) (sym is) (in-option S (told-nothing S))
value-told n (Opt b) v (inr (w, is, held)) =
    let S = SpellsPart rule (suc n) in
    subst (λ u. Told (IsLitOf u) (Spells S value) (lexemes_of_marks (value_marks u))) (sym is)
    (in-option S (told-just S w (base-value (SpellsPart rule n) b w held)))
