-- Printed values are read.
use Rattle.std.proofs.Common.{◌≡◌, ℕ, zero, suc, ◌+◌, ◌^◌, ◌<◌, ◌≤◌, Bool, true, false, ◌&&◌, List, [], ◌∷◌, ◌++◌, refl, sym, ◌∙◌, ap, arith, append_assoc, append-nil, codes, inl, inr, length, length-append}
use Rattle.std.specs.Prelude.{Some, ◌⊎◌, nat_le}
use Rattle.std.specs.List.{flat_map, join_by, AllByRecursion}
use Rattle.std.specs.Str.{is_utf8, IsUtf8}
use Rattle.std.proofs.lemmas.Bool.{le-leb}
use Rattle.text_ast.specs.Words.{IsText}
use Rattle.text_lexer.specs.declared.limits.TheConstants.{MOST_TEXT_BYTES}
use Rattle.type_schema.specs.declared.types.TBase.{TBase}
use Rattle.type_schema.specs.declared.types.TBase.TheVariants as base
use Rattle.type_schema.specs.declared.types.TTy.{TTy}
use Rattle.type_schema.specs.declared.types.TTy.TheVariants.{Plain, Set, Opt}
use Rattle.data_meaning.specs.Values.{Value, Flag, Num, Str, Id, Ids, Nothing, Just, IsId, IsBaseValueOf, IsValueOf}
use Rattle.data_print.specs.Texts.{id_text, value_text}
use Rattle.data_back.specs.Reading.{word_at}
use Rattle.data_back.specs.Laws.{EndsNumber}
use Rattle.data_back.proofs.Printed.{pieces-read}
use Rattle.data_back.proofs.TextTests.{is-text}
use Rattle.data_back.specs.Back.{is_text, id_at, flag_at, base_at, ids_from, ids_at, some_at, value_at}

id-fits : (n : ℕ) → IsId n → n < 2 ^ 64
id-fits n is = omega (arith, is.1)

pub id-read : (n : ℕ) (rest : List ℕ) → n < 2 ^ 64 → EndsNumber rest → id_at (id_text n ++ rest) ≡ Some (n, rest)
id-read n rest small ends = pieces-read.number n rest small ends

-- ids behind the first
abbrev more : List ℕ → List ℕ
more = flat_map (λ id. codes ", " ++ id_text id)

ends-more : (xs r : List ℕ) → EndsNumber (more xs ++ 93 ∷ r)
ends-more [] r = refl
ends-more (x ∷ xs) r = refl

spread : (y : ℕ) (xs r : List ℕ) → more (y ∷ xs) ++ 93 ∷ r ≡ codes ", " ++ (id_text y ++ (more xs ++ 93 ∷ r))
spread y xs r = append_assoc (codes ", " ++ id_text y) (more xs) (93 ∷ r) ∙ append_assoc (codes ", ") (id_text y) (more xs ++ 93 ∷ r)

-- one id, and a comma or the closing bracket behind it
one-read : (ids : List ℕ) (turns id : ℕ) (text rest more : List ℕ) → id_at text ≡ Some (id, rest) → word_at (codes ", ") rest ≡ Some (tt, more)
    → ids_from ids (suc turns) text ≡ ids_from (ids ++ id ∷ []) turns more
one-read ids turns id text rest more e comma = rw (e, comma) refl

last-read : (ids : List ℕ) (turns id : ℕ) (text rest : List ℕ) → id_at text ≡ Some (id, 93 ∷ rest) → ids_from ids (suc turns) text ≡ Some (ids ++ id ∷ [], rest)
last-read ids turns id text rest e = rw e refl

ids-read : (ids : List ℕ) (x : ℕ) (xs : List ℕ) (turns : ℕ) (r : List ℕ) → length xs < turns → IsId x → AllByRecursion IsId xs
    → ids_from ids turns (id_text x ++ (more xs ++ 93 ∷ r)) ≡ Some (ids ++ x ∷ xs, r)
ids-read ids x xs zero r below is all = absurd (omega (arith, below))
ids-read ids x [] (suc turns) r below is all = last-read ids turns x (id_text x ++ 93 ∷ r) r (id-read x (93 ∷ r) (id-fits x is) refl)
ids-read ids x (y ∷ xs) (suc turns) r below is all =
    let rest = more (y ∷ xs) ++ 93 ∷ r in
    let behind = id_text y ++ (more xs ++ 93 ∷ r) in
    let comma : word_at (codes ", ") rest ≡ Some (tt, behind) = ap (word_at (codes ", ")) (spread y xs r) ∙ pieces-read.word (codes ", ") behind in
    let later : ids_from (ids ++ x ∷ []) turns behind ≡ Some ((ids ++ x ∷ []) ++ y ∷ xs, r) = ids-read (ids ++ x ∷ []) y xs turns r (omega (arith, below)) all.0 all.1 in
    one-read ids turns x (id_text x ++ rest) rest behind (id-read x rest (id-fits x is) (ends-more (y ∷ xs) r)) comma ∙ later
    ∙ ap (λ z. Some (z, r)) (append_assoc ids (x ∷ []) (y ∷ xs))

long : (xs : List ℕ) → length xs ≤ length (more xs)
long [] = omega arith
long (x ∷ xs) = omega (arith, long xs, length-append (codes ", " ++ id_text x) (more xs))

opened : (x : ℕ) (xs r : List ℕ) → value_text (Ids (x ∷ xs)) ++ r ≡ 91 ∷ (id_text x ++ (more xs ++ 93 ∷ r))
opened x xs r = ap (λ z. 91 ∷ z) (append_assoc (id_text x ++ more xs) (93 ∷ []) r ∙ append_assoc (id_text x) (more xs) (93 ∷ r))

set-read : (ids r : List ℕ) → AllByRecursion IsId ids → ids_at (value_text (Ids ids) ++ r) ≡ Some (ids, r)
set-read [] r all = refl
set-read (x ∷ xs) r all =
    let rest = id_text x ++ (more xs ++ 93 ∷ r) in
    let enough : length xs < length rest = omega (arith, long xs, length-append (id_text x) (more xs ++ 93 ∷ r), length-append (more xs) (93 ∷ r)) in
    ap ids_at (opened x xs r) ∙ ids-read [] x xs (length rest) r enough all.0 all.1

flag-read : (b : Bool) (r : List ℕ) → flag_at (value_text (Flag b) ++ r) ≡ Some (Flag b, r)
flag-read true r = refl
flag-read false r = refl

base-read : (b : TBase) (v : Value) (r : List ℕ) → IsBaseValueOf b v → EndsNumber r → base_at b (value_text v ++ r) ≡ Some (v, r)
base-read base.Bool v r is ends = rw is.1 (flag-read is.0 r)
base-read base.Int v r is ends = rw is.1 (rw (pieces-read.signed is.0 r is.2 ends) refl)
base-read base.Text v r is ends = rw is.1 (rw (pieces-read.text is.0 r, is-text is.0 is.2) refl)
base-read (base.Id m) v r is ends = rw is.1 (rw (id-read is.0 r (id-fits is.0 is.2) ends) refl)

held : (v : Value) (r : List ℕ) → value_text (Just v) ++ r ≡ codes "some(" ++ (value_text v ++ 41 ∷ r)
held v r = simp append_assoc

some-read : (b : TBase) (v : Value) (r : List ℕ) → IsBaseValueOf b v → value_at (Opt b) (codes "some(" ++ (value_text v ++ 41 ∷ r)) ≡ Some (Just v, r)
some-read b v r is = rw (base-read b v (41 ∷ r) is refl) refl

option-read : (b : TBase) (v : Value) (r : List ℕ) → (v ≡ Nothing) ⊎ ((w : Value) × (v ≡ Just w) × IsBaseValueOf b w) → value_at (Opt b) (value_text v ++ r) ≡ Some (v, r)
option-read b v r (inl e) = rw e refl
option-read b v r (inr j) = rw j.1 (ap (value_at (Opt b)) (held j.0 r) ∙ some-read b j.0 r j.2)

pub value-read : (t : TTy) (v : Value) (r : List ℕ) → IsValueOf t v → EndsNumber r → value_at t (value_text v ++ r) ≡ Some (v, r)
value-read (Plain b) v r is ends = base-read b v r is ends
value-read (Set m) v r is ends = rw is.1 (rw (set-read is.0 r is.3) refl)
value-read (Opt b) v r is ends = option-read b v r is
