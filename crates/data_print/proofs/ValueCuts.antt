-- Where the text of a value of a type ends.
use Rattle.std.proofs.Common.{rules, ◌≡◌, ℕ, ◌^◌, ◌<◌, Bool, true, false, List, [], ◌∷◌, ◌++◌, refl, sym, ◌∙◌, ap, arith, append_assoc, codes, inl, inr}
use Rattle.std.specs.Prelude.{ℤ, ◌⊎◌, FitsSigned}
use Rattle.std.specs.Int.{w64}
use Rattle.std.specs.Int.Signed.{mag}
use Rattle.std.specs.List.{flat_map, join_by, AllByRecursion}
use Rattle.type_schema.specs.declared.types.TBase.{TBase}
use Rattle.type_schema.specs.declared.types.TBase.TheVariants as base
use Rattle.type_schema.specs.declared.types.TTy.{TTy}
use Rattle.type_schema.specs.declared.types.TTy.TheVariants.{Plain, Set, Opt}
use Rattle.data_meaning.specs.Values.{Value, Flag, Num, Str, Id, Ids, Nothing, Just, IsId, IsBaseValueOf, IsValueOf}
use Rattle.data_print.specs.Texts.{id_text, value_text}
use Rattle.data_print.proofs.Cuts.{cancel, both, front, Stops, id-cut, signed-cut, quoted-cut}

id-fits : (n : ℕ) → IsId n → n < 2 ^ 64
id-fits n is = omega (arith, is.1)

-- ids behind the first, and the end of the set
abbrev more : List ℕ → List ℕ
more = flat_map (λ id. codes ", " ++ id_text id)

stops-more : (xs r : List ℕ) → Stops (more xs ++ 93 ∷ r)
stops-more [] r = omega arith
stops-more (x ∷ xs) r = omega arith

more-cut : (xs ys r s : List ℕ) → AllByRecursion IsId xs → AllByRecursion IsId ys → more xs ++ 93 ∷ r ≡ more ys ++ 93 ∷ s → (xs ≡ ys) × (r ≡ s)
more-cut [] [] r s ax ay e = (refl, cancel (93 ∷ []) r s e)
more-cut [] (y ∷ ys) r s ax ay e = let h : 93 ≡ 44 = ap front e in absurd (omega (arith, h))
more-cut (x ∷ xs) [] r s ax ay e = let h : 44 ≡ 93 = ap front e in absurd (omega (arith, h))
more-cut (x ∷ xs) (y ∷ ys) r s ax ay e =
    let inner : (id_text x ++ more xs) ++ 93 ∷ r ≡ (id_text y ++ more ys) ++ 93 ∷ s
    = cancel (codes ", ") ((id_text x ++ more xs) ++ 93 ∷ r) ((id_text y ++ more ys) ++ 93 ∷ s) e in
    let cut = id-cut x y (more xs ++ 93 ∷ r) (more ys ++ 93 ∷ s) (id-fits x ax.0) (id-fits y ay.0) (stops-more xs r) (stops-more ys s)
    (sym (append_assoc (id_text x) (more xs) (93 ∷ r)) ∙ inner ∙ append_assoc (id_text y) (more ys) (93 ∷ s)) in
    let rest = more-cut xs ys r s ax.1 ay.1 cut.1 in
    (both x y xs ys cut.0 rest.0, rest.1)

-- from the first id on
list-cut : (xs ys r s : List ℕ) → AllByRecursion IsId xs → AllByRecursion IsId ys
    → join_by id_text (codes ", ") xs ++ 93 ∷ r ≡ join_by id_text (codes ", ") ys ++ 93 ∷ s → (xs ≡ ys) × (r ≡ s)
list-cut [] [] r s ax ay e = (refl, cancel (93 ∷ []) r s e)
list-cut [] (y ∷ ys) r s ax ay e = let h : 93 ≡ 64 = ap front e in absurd (omega (arith, h))
list-cut (x ∷ xs) [] r s ax ay e = let h : 64 ≡ 93 = ap front e in absurd (omega (arith, h))
list-cut (x ∷ xs) (y ∷ ys) r s ax ay e =
    let cut = id-cut x y (more xs ++ 93 ∷ r) (more ys ++ 93 ∷ s) (id-fits x ax.0) (id-fits y ay.0) (stops-more xs r) (stops-more ys s)
    (sym (append_assoc (id_text x) (more xs) (93 ∷ r)) ∙ e ∙ append_assoc (id_text y) (more ys) (93 ∷ s)) in
    let rest = more-cut xs ys r s ax.1 ay.1 cut.1 in
    (both x y xs ys cut.0 rest.0, rest.1)

fits-mag : (n : ℤ) → FitsSigned w64 n → mag n < 2 ^ 63
fits-mag n fits = search rules

flags-cut : (b c : Bool) (r s : List ℕ) → value_text (Flag b) ++ r ≡ value_text (Flag c) ++ s → (Flag b ≡ Flag c) × (r ≡ s)
flags-cut true true r s e = (refl, cancel (codes "true") r s e)
flags-cut true false r s e = absurd (omega (arith, ap front e))
flags-cut false true r s e = absurd (omega (arith, ap front e))
flags-cut false false r s e = (refl, cancel (codes "false") r s e)

base-cut : (b : TBase) (v w : Value) (r s : List ℕ) → IsBaseValueOf b v → IsBaseValueOf b w → Stops r → Stops s → value_text v ++ r ≡ value_text w ++ s
    → (v ≡ w) × (r ≡ s)
base-cut base.Bool v w r s iv iw sr ss e =
    let cut = flags-cut iv.0 iw.0 r s (ap (λ z. value_text z ++ r) (sym iv.1) ∙ e ∙ ap (λ z. value_text z ++ s) iw.1) in
    (iv.1 ∙ cut.0 ∙ sym iw.1, cut.1)
base-cut base.Int v w r s iv iw sr ss e =
    let cut = signed-cut iv.0 iw.0 r s (fits-mag iv.0 iv.2) (fits-mag iw.0 iw.2) sr ss (ap (λ z. value_text z ++ r) (sym iv.1) ∙ e ∙ ap (λ z. value_text z ++ s) iw.1) in
    (iv.1 ∙ ap Num cut.0 ∙ sym iw.1, cut.1)
base-cut base.Text v w r s iv iw sr ss e =
    let cut = quoted-cut iv.0 iw.0 r s (ap (λ z. value_text z ++ r) (sym iv.1) ∙ e ∙ ap (λ z. value_text z ++ s) iw.1) in
    (iv.1 ∙ ap Str cut.0 ∙ sym iw.1, cut.1)
base-cut (base.Id m) v w r s iv iw sr ss e =
    let cut = id-cut iv.0 iw.0 r s (id-fits iv.0 iv.2) (id-fits iw.0 iw.2) sr ss (ap (λ z. value_text z ++ r) (sym iv.1) ∙ e ∙ ap (λ z. value_text z ++ s) iw.1) in
    (iv.1 ∙ ap Id cut.0 ∙ sym iw.1, cut.1)

option-cut : (b : TBase) (v w : Value) (r s : List ℕ) → (v ≡ Nothing) ⊎ ((u : Value) × (v ≡ Just u) × IsBaseValueOf b u)
    → (w ≡ Nothing) ⊎ ((u : Value) × (w ≡ Just u) × IsBaseValueOf b u) → value_text v ++ r ≡ value_text w ++ s → (v ≡ w) × (r ≡ s)
option-cut b v w r s (inl vn) (inl wn) e =
    (vn ∙ sym wn, cancel (codes "none") r s (ap (λ z. value_text z ++ r) (sym vn) ∙ e ∙ ap (λ z. value_text z ++ s) wn))
option-cut b v w r s (inl vn) (inr wj) e =
    let bad = ap front (ap (λ z. value_text z ++ r) (sym vn) ∙ e ∙ ap (λ z. value_text z ++ s) wj.1) in absurd (omega (arith, bad))
option-cut b v w r s (inr vj) (inl wn) e =
    let bad = ap front (ap (λ z. value_text z ++ r) (sym vj.1) ∙ e ∙ ap (λ z. value_text z ++ s) wn) in absurd (omega (arith, bad))
option-cut b v w r s (inr vj) (inr wj) e =
    let open_ = cancel (codes "some(") ((value_text vj.0 ++ (41 ∷ [])) ++ r) ((value_text wj.0 ++ (41 ∷ [])) ++ s) (ap (λ z. value_text z ++ r) (sym vj.1) ∙ e ∙ ap (λ z. value_text z ++ s) wj.1) in
    let cut = base-cut b vj.0 wj.0 (41 ∷ r) (41 ∷ s) vj.2 wj.2 (omega arith) (omega arith)
    (sym (append_assoc (value_text vj.0) (41 ∷ []) r) ∙ open_ ∙ append_assoc (value_text wj.0) (41 ∷ []) s) in
    (vj.1 ∙ ap Just cut.0 ∙ sym wj.1, cancel (41 ∷ []) r s cut.1)

pub value-cut : (t : TTy) (v w : Value) (r s : List ℕ) → IsValueOf t v → IsValueOf t w → Stops r → Stops s → value_text v ++ r ≡ value_text w ++ s
    → (v ≡ w) × (r ≡ s)
value-cut (Plain b) v w r s iv iw sr ss e = base-cut b v w r s iv iw sr ss e
value-cut (Set m) v w r s iv iw sr ss e =
    let open_ = cancel (codes "[") ((join_by id_text (codes ", ") iv.0 ++ (93 ∷ [])) ++ r) ((join_by id_text (codes ", ") iw.0 ++ (93 ∷ [])) ++ s)
    (ap (λ z. value_text z ++ r) (sym iv.1) ∙ e ∙ ap (λ z. value_text z ++ s) iw.1) in
    let cut = list-cut iv.0 iw.0 r s iv.3 iw.3
    (sym (append_assoc (join_by id_text (codes ", ") iv.0) (93 ∷ []) r) ∙ open_ ∙ append_assoc (join_by id_text (codes ", ") iw.0) (93 ∷ []) s) in
    (iv.1 ∙ ap Ids cut.0 ∙ sym iw.1, cut.1)
value-cut (Opt b) v w r s iv iw sr ss e = option-cut b v w r s iv iw e
