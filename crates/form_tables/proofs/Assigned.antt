-- The facts of an assignment, and the table that it stands for.
use Rattle.std.proofs.Common.{◌≡◌, ℕ, ℤ, Bool, true, false, refl, sym, ◌∙◌, List, [], ◌∷◌, Some, None, cond, ap, rules, Contains}
use Rattle.std.specs.Prelude.{nat_eq, is_some}
use Rattle.std.specs.Ordering.{int_eq}
use Rattle.std.specs.Cmp.Lexicographic.{pointwise}
use Rattle.std.proofs.lemmas.Bool.{eqb-true}
use Rattle.std.proofs.lemmas.Bool.Decides.{Decides-int_eq}
use Rattle.form_formula.specs.declared.structure.Range.{Range}
use Rattle.form_formula.specs.declared.structure.Range.TheVariants as kinds
use Rattle.form_formula.specs.declared.structure.Signature.{Signature}
use Rattle.form_formula.specs.declared.structure.SVal.{SVal}
use Rattle.form_formula.specs.declared.structure.SVal.TheVariants.{Rec, Flag, Num, Str}
use Rattle.form_formula.specs.Over.{AreComparable}
use Rattle.form_formula.specs.Truth.{are_equal}
use Rattle.form_formula.specs.Trees.{Formula}
use Rattle.form_terms.specs.GroundTerms.{GroundTerm, GroundTerms, no_terms, term_and, sort_of}
use Rattle.form_terms.specs.Universe.{HaveSorts, HasEach}
use Rattle.form_terms.proofs.Lists.{cond_true, cond_false}
use Rattle.form_terms.proofs.Kept.{nat_same}
use Rattle.std.proofs.lemmas.List.Elements.{Contains-append_left}
use Rattle.form_tables.specs.Vocabulary.{Vocabulary, IsVocabulary}
use Rattle.form_tables.specs.Table.{Table, is_there, IsSame, AreSame}
use Rattle.form_tables.specs.Consistent.{IsOfRange}
use Rattle.form_tables.specs.Facts.{Assignment, table_for}
use Rattle.form_tables.specs.Clauses.{IsTyped, one_and_same, all_same}
use Rattle.form_tables.proofs.Classes.{sorted_range}
use Rattle.form_tables.proofs.ClausesMet.{AreFacts, facts_append, append_facts}

same_int : (m n : ℤ) → int_eq m n ≡ true → m ≡ n
same_int m n e = search (rules, Decides-int_eq)

int_same : (n : ℤ) → int_eq n n ≡ true
int_same n = search (rules, Decides-int_eq)

same_text : (a b : List ℕ) → pointwise nat_eq a b ≡ true → a ≡ b
same_text a b e = search rules

pub text_same : (a : List ℕ) → pointwise nat_eq a a ≡ true
text_same [] = refl
text_same (x ∷ xs) = let here = nat_same x in let rest = text_same xs in cc

-- values that are equal are the same
pub equal_same : (v w : SVal) → are_equal v w ≡ true → v ≡ w
equal_same (Rec x) (Rec y) e = ap (λ x. Rec x) (eqb-true x y e)
equal_same (Rec x) (Flag c) e = cc
equal_same (Rec x) (Num n) e = cc
equal_same (Rec x) (Str t) e = cc
equal_same (Flag b) w e = cc
equal_same (Num m) (Rec y) e = cc
equal_same (Num m) (Flag c) e = cc
equal_same (Num m) (Num n) e = ap (λ n. Num n) (same_int m n e)
equal_same (Num m) (Str t) e = cc
equal_same (Str a) (Rec y) e = cc
equal_same (Str a) (Flag c) e = cc
equal_same (Str a) (Num n) e = cc
equal_same (Str a) (Str b) e = ap (λ t. Str t) (same_text a b e)

-- and a value that is no truth value equals itself
pub same_equal : (range : Range) (v w : SVal) → AreComparable range → IsOfRange range v → v ≡ w → are_equal v w ≡ true
same_equal range v w alike h e = ap (are_equal v) (sym e) ∙ itself range v alike h
  where
    itself : (range : Range) (v : SVal) → AreComparable range → IsOfRange range v → are_equal v v ≡ true
    itself kinds.Flag v alike h = absurd alike
    itself (kinds.Rec sort) (Rec x) alike h = nat_same x
    itself (kinds.Rec sort) (Flag b) alike h = absurd h
    itself (kinds.Rec sort) (Num n) alike h = absurd h
    itself (kinds.Rec sort) (Str t) alike h = absurd h
    itself kinds.Num (Rec x) alike h = absurd h
    itself kinds.Num (Flag b) alike h = absurd h
    itself kinds.Num (Num n) alike h = int_same n
    itself kinds.Num (Str t) alike h = absurd h
    itself kinds.Str (Rec x) alike h = absurd h
    itself kinds.Str (Flag b) alike h = absurd h
    itself kinds.Str (Num n) alike h = absurd h
    itself kinds.Str (Str t) alike h = text_same t

module _ (a : Assignment) where
  abbrev pub T : Table
  T = table_for a

  some_if : (b : Bool) (x : SVal) → is_some (cond b (Some x) None) ≡ b
  some_if true x = refl
  some_if false x = refl

  pub there_is : (t : GroundTerm) → is_there T t ≡ a.there t
  there_is t = some_if (a.there t) (a.value t)

  pub value_there : (t : GroundTerm) → a.there t ≡ true → T.value t ≡ Some (a.value t)
  value_there t e = cond_true (a.there t) (Some (a.value t)) None e

  pub value_none : (t : GroundTerm) → a.there t ≡ false → T.value t ≡ None
  value_none t e = cond_false (a.there t) (Some (a.value t)) None e

  pub there_value : (t : GroundTerm) (x : SVal) → T.value t ≡ Some x → (a.there t ≡ true) × (a.value t ≡ x)
  there_value t x e = choose (a.there t) refl e
    where
      choose : (b : Bool) → a.there t ≡ b → cond b (Some (a.value t)) None ≡ Some x → (a.there t ≡ true) × (a.value t ≡ x)
      choose true p e = (p, cc)
      choose false p e = cc

  pub to_same : (t u : GroundTerm) → AreFacts a (one_and_same t u) → IsSame T t u
  to_same t u (p, (q, (e, end))) =
      let one : a.value t ≡ a.value u = equal_same (a.value t) (a.value u) e in
      (a.value t, value_there t p, value_there u q ∙ ap (λ x. Some x) (sym one))

  module _ (g : Signature) (f : Formula) (terms : List GroundTerm) (v : Vocabulary) (words : IsVocabulary g f terms v) (typed : IsTyped g v a) where
    pub to_all_same : (ts us : GroundTerms) (sorts : List ℕ) → HaveSorts g ts sorts → HaveSorts g us sorts → AreFacts a (all_same ts us) → AreSame T ts us
    to_all_same no_terms no_terms sorts p q h = tt
    to_all_same no_terms (term_and u us) [] p q h = absurd q
    to_all_same no_terms (term_and u us) (s ∷ sorts) p q h = absurd p
    to_all_same (term_and t ts) no_terms [] p q h = absurd p
    to_all_same (term_and t ts) no_terms (s ∷ sorts) p q h = absurd q
    to_all_same (term_and t ts) (term_and u us) [] p q h = absurd p
    to_all_same (term_and t ts) (term_and u us) (s ∷ sorts) p q h =
        let (first, rest) = append_facts a (one_and_same t u) (all_same ts us) h in
        (to_same t u first, to_all_same ts us sorts p.1 q.1 rest)

    pub element_typed : (t : GroundTerm) (sort : ℕ) → Contains v.named t → sort_of g t ≡ Some sort → IsOfRange (kinds.Rec sort) (a.value t)
    element_typed t sort there kind = typed t (kinds.Rec sort) (Contains-append_left v.named v.others t there) (sorted_range g t sort kind)

    pub from_same : (t u : GroundTerm) → Contains v.named t → IsSame T t u → AreFacts a (one_and_same t u)
    from_same t u there (x, p, q) =
        let (sort, kind) = words.sorted t there in
        let (alive, value) = there_value t x p in
        let (alive', value') = there_value u x q in
        (alive, (alive', (same_equal (kinds.Rec sort) (a.value t) (a.value u) tt (element_typed t sort there kind) (value ∙ sym value'), tt)))

    pub from_all_same : (ts us : GroundTerms) → HasEach (Contains v.named) ts → AreSame T ts us → AreFacts a (all_same ts us)
    from_all_same no_terms us each h = tt
    from_all_same (term_and t ts) no_terms each h = tt
    from_all_same (term_and t ts) (term_and u us) each h =
        facts_append a (one_and_same t u) (all_same ts us) (from_same t u each.0 h.0) (from_all_same ts us each.1 h.1)
