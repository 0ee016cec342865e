-- What the classes are after lawful assertions: two terms are in one class exactly where the equalities put them together, and
-- each class with a fixed term has it as its anchor.
use Rattle.std.proofs.Common.{◌≡◌, ◌≢◌, ℕ, zero, suc, ◌<◌, Bool, true, eqb, cond, List, [], ◌∷◌, ◌++◌, length, get_or, map, Option, Some, None, sym, ap, ◌∙◌, refl, arith}
use Rattle.std.proofs.Math.Logic.{⊎_elim}
use Rattle.std.specs.Option.{option_or}
use Rattle.std.proofs.lemmas.Bool.{cases_eq, eq-eqb, ne_eqb, cond-true, cond-false}
use Rattle.std.proofs.lemmas.Option.{none-some, cond_some}
use Rattle.std.proofs.lemmas.List.{length-map, length-set, get_or-map, get_or-set_same, get_or-set_other}
use Rattle.std.proofs.lemmas.List.FromFn.{length-range_with_len, get_or-range_with_len, length-map-range_with_len, get_or-map-range_with_len}
use Rattle.solve_equality.specs.declared.entry.Join.{Join}
use Rattle.solve_equality.specs.declared.entry.Entry.{Entry}
use Rattle.solve_equality.specs.declared.entry.Entry.TheVariants.{Joined, Known, Apart, Failed}
use Rattle.solve_equality.specs.Partition.{Parts, class_at, anchor_at, is_fixed, joined, relabel, start}
use Rattle.solve_equality.specs.Edges.{pair_at}
use Rattle.solve_equality.specs.Search.{Agree}
use Rattle.solve_equality.specs.EntryEnds.{link_of}
use Rattle.solve_equality.specs.Entries.{step, after, IsJoin, IsLawful, AreLawful}

-- the class numbers after a join
pub relabel_from : (from into c : ℕ) → c ≡ from → relabel from into c ≡ into
relabel_from from into c e = cond-true (eqb c from) into c (eq-eqb c from e)

pub relabel_other : (from into c : ℕ) → c ≢ from → relabel from into c ≡ c
relabel_other from into c e = cond-false (eqb c from) into c (ne_eqb c from e)

pub class_at-joined : (s : Parts) (from into t : ℕ) → t < length s.classes → class_at (joined s from into) t ≡ relabel from into (class_at s t)
class_at-joined s from into t l = get_or-map (relabel from into) s.classes t 0 0 l

length-step : (s : Parts) (e : Entry) → length (step s e).classes ≡ length s.classes
length-step s (Joined j) = length-map s.classes (relabel j.from j.into)
length-step s (Known l r) = refl
length-step s (Apart l r) = refl
length-step s (Failed x) = refl

-- terms in one class stay so
pub coarse_step : (s : Parts) (e : Entry) (t u : ℕ) → t < length s.classes → u < length s.classes → class_at s t ≡ class_at s u → class_at (step s e) t ≡ class_at (step s e) u
coarse_step s (Joined j) t u t_in u_in same =
    class_at-joined s j.from j.into t t_in ∙ ap (relabel j.from j.into) same ∙ sym (class_at-joined s j.from j.into u u_in)
coarse_step s (Known l r) t u t_in u_in same = same
coarse_step s (Apart l r) t u t_in u_in same = same
coarse_step s (Failed x) t u t_in u_in same = same

pub coarse : (s : Parts) (es : List Entry) (t u : ℕ) → t < length s.classes → u < length s.classes → class_at s t ≡ class_at s u → class_at (after s es) t ≡ class_at (after s es) u
coarse s [] t u t_in u_in same = same
coarse s (e ∷ es) t u t_in u_in same =
    coarse (step s e) es t u (rw (length-step s e) t_in) (rw (length-step s e) u_in) (coarse_step s e t u t_in u_in same)

-- the test gives the same at all terms of a class
abbrev pub IsSameInClasses : ℕ → Parts → (ℕ → Bool) → Type 0
IsSameInClasses terms s f = (t u : ℕ) → t < terms → u < terms → class_at s t ≡ class_at s u → f t ≡ f u

module _ (terms : ℕ) (s : Parts) (f : ℕ → Bool) (n : length s.classes ≡ terms) (same : IsSameInClasses terms s f) (j : Join) (lawful : IsJoin terms s j) (linked : f j.left ≡ f j.right) where
  across : (t u : ℕ) → t < terms → u < terms → class_at s t ≡ j.from → class_at s u ≡ j.into → f t ≡ f u
  across t u t_in u_in at_t at_u =
      ⊎_elim
      (λ e. same t j.left t_in lawful.left_in (at_t ∙ sym e.0) ∙ linked ∙ same j.right u lawful.right_in u_in (e.1 ∙ sym at_u))
      (λ e. same t j.right t_in lawful.right_in (at_t ∙ sym e.1) ∙ sym linked ∙ same j.left u lawful.left_in u_in (e.0 ∙ sym at_u))
      lawful.ends

  same_joined : IsSameInClasses terms (joined s j.from j.into) f
  same_joined t u t_in u_in e =
      let at : (v : ℕ) → v < terms → class_at (joined s j.from j.into) v ≡ relabel j.from j.into (class_at s v) = λ v l. class_at-joined s j.from j.into v (omega arith) in
      let both = sym (at t t_in) ∙ e ∙ at u u_in in
      ⊎_elim
      (λ t_from. ⊎_elim
      (λ u_from. same t u t_in u_in (t_from ∙ sym u_from))
      (λ u_other. across t u t_in u_in t_from (sym (sym (relabel_from j.from j.into (class_at s t) t_from) ∙ both ∙ relabel_other j.from j.into (class_at s u) u_other)))
      (cases_eq (class_at s u) j.from))
      (λ t_other. ⊎_elim
      (λ u_from. sym (across u t u_in t_in u_from (sym (relabel_other j.from j.into (class_at s t) t_other) ∙ both ∙ relabel_from j.from j.into (class_at s u) u_from)))
      (λ u_other. same t u t_in u_in (sym (relabel_other j.from j.into (class_at s t) t_other) ∙ both ∙ relabel_other j.from j.into (class_at s u) u_other))
      (cases_eq (class_at s u) j.from))
      (cases_eq (class_at s t) j.from)

same_step : (terms : ℕ) (s : Parts) (f : ℕ → Bool) (e : Entry) → length s.classes ≡ terms → IsSameInClasses terms s f → IsLawful terms s e → Agree f (link_of e) → IsSameInClasses terms (step s e) f
same_step terms s f (Joined j) n same lawful linked = same_joined terms s f n same j lawful linked
same_step terms s f (Known l r) n same lawful linked = same
same_step terms s f (Apart l r) n same lawful linked = same
same_step terms s f (Failed x) n same lawful linked = same

-- a test that gives the same at both ends of each link gives the same at all terms of a class
pub same_after : (terms : ℕ) (s : Parts) (f : ℕ → Bool) (es : List Entry) → length s.classes ≡ terms → IsSameInClasses terms s f → AreLawful terms s es
    → ((k : ℕ) → k < length es → Agree f (pair_at (map link_of es) k)) → IsSameInClasses terms (after s es) f
same_after terms s f [] n same lawful linked = same
same_after terms s f (e ∷ es) n same lawful linked =
    same_after terms (step s e) f es (length-step s e ∙ n) (same_step terms s f e n same lawful.0 (linked 0 (omega arith))) lawful.1 (λ k l. linked (suc k) (omega arith))

-- the terms of an equality are in one class
abbrev pub ArePut : Parts → Entry → Type 0
ArePut s (Joined j) = class_at s j.left ≡ class_at s j.right
ArePut s (Known l r) = class_at s l ≡ class_at s r
ArePut s (Apart l r) = Unit {0}
ArePut s (Failed x) = Unit {0}

put_joined : (terms : ℕ) (s : Parts) (j : Join) → length s.classes ≡ terms → IsJoin terms s j → class_at (joined s j.from j.into) j.left ≡ class_at (joined s j.from j.into) j.right
put_joined terms s j n lawful =
    let left = class_at-joined s j.from j.into j.left (omega (arith, lawful.left_in)) in
    let right = class_at-joined s j.from j.into j.right (omega (arith, lawful.right_in)) in
    let into_stays : (c : ℕ) → c ≡ j.into → relabel j.from j.into c ≡ j.into = λ c e. relabel_other j.from j.into c (λ x. lawful.apart (sym x ∙ e)) ∙ e in
    ⊎_elim
    (λ e. left ∙ relabel_from j.from j.into (class_at s j.left) e.0 ∙ sym (right ∙ into_stays (class_at s j.right) e.1))
    (λ e. left ∙ into_stays (class_at s j.left) e.0 ∙ sym (right ∙ relabel_from j.from j.into (class_at s j.right) e.1))
    lawful.ends

put_after : (terms : ℕ) (s : Parts) (e : Entry) (es : List Entry) → length s.classes ≡ terms → IsLawful terms s e → ArePut (after (step s e) es) e
put_after terms s (Joined j) es n lawful =
    let m = length-map s.classes (relabel j.from j.into) in
    coarse (joined s j.from j.into) es j.left j.right (omega (arith, lawful.left_in)) (omega (arith, lawful.right_in)) (put_joined terms s j n lawful)
put_after terms s (Known l r) es n lawful = coarse s es l r (omega (arith, lawful.0)) (omega (arith, lawful.1)) lawful.2
put_after terms s (Apart l r) es n lawful = tt
put_after terms s (Failed x) es n lawful = tt

pub put_at : (terms : ℕ) (s : Parts) (es : List Entry) (k : ℕ) (d : Entry) → length s.classes ≡ terms → AreLawful terms s es → k < length es → ArePut (after s es) (get_or es k d)
put_at terms s [] k d n lawful l = absurd (omega arith)
put_at terms s (e ∷ es) zero d n lawful l = put_after terms s e es n lawful.0
put_at terms s (e ∷ es) (suc k) d n lawful l = put_at terms (step s e) es k d (length-step s e ∙ n) lawful.1 (omega arith)

-- one more assertion
pub after-push : (s : Parts) (es : List Entry) (e : Entry) → after s (es ++ e ∷ []) ≡ step (after s es) e
after-push s [] e = refl
after-push s (x ∷ es) e = after-push (step s x) es e

pub AreLawful-push : (terms : ℕ) (s : Parts) (es : List Entry) (e : Entry) → AreLawful terms s es → IsLawful terms (after s es) e → AreLawful terms s (es ++ e ∷ [])
AreLawful-push terms s [] e h l = (l, tt)
AreLawful-push terms s (x ∷ es) e h l = (h.0, AreLawful-push terms (step s x) es e h.1 l)

pub AreLawful-pop : (terms : ℕ) (s : Parts) (es : List Entry) (e : Entry) → AreLawful terms s (es ++ e ∷ []) → AreLawful terms s es × IsLawful terms (after s es) e
AreLawful-pop terms s [] e h = (tt, h.0)
AreLawful-pop terms s (x ∷ es) e h = let rest = AreLawful-pop terms (step s x) es e h.1 in ((h.0, rest.0), rest.1)

-- the columns have a place for each term, and a class has a fixed term as its anchor exactly where it has one
pub record IsGood (terms : ℕ) (fixed : List ℕ) (s : Parts) : Type 0 where
  pub classes_len : length s.classes ≡ terms
  pub anchors_len : length s.anchors ≡ terms
  pub in_range : (t : ℕ) → t < terms → class_at s t < terms
  pub anchored : (f : ℕ) → is_fixed fixed f ≡ true → anchor_at s (class_at s f) ≡ Some f
  pub anchors : (t f : ℕ) → t < terms → anchor_at s (class_at s t) ≡ Some f → (is_fixed fixed f ≡ true) × (class_at s f ≡ class_at s t)

module _ (terms : ℕ) (fixed : List ℕ) (fixed_in : (f : ℕ) → is_fixed fixed f ≡ true → f < terms) where
  class_at-start : (t : ℕ) → t < terms → class_at (start terms fixed) t ≡ t
  class_at-start t l = get_or-range_with_len 0 terms t 0 l ∙ omega arith

  anchor_at-start : (t : ℕ) → t < terms → anchor_at (start terms fixed) t ≡ cond (is_fixed fixed t) (Some t) None
  anchor_at-start t l = get_or-map-range_with_len (λ (k : ℕ). cond (is_fixed fixed k) (Some k) None) 0 terms t t None l (omega arith)

  pub IsGood-start : IsGood terms fixed (start terms fixed)
  IsGood-start = record {
    classes_len = length-range_with_len 0 terms;
    anchors_len = length-map-range_with_len (λ (k : ℕ). cond (is_fixed fixed k) (Some k) None) 0 terms;
    in_range = λ t l. omega (arith, class_at-start t l);
    anchored = λ f e.
        ap (anchor_at (start terms fixed)) (class_at-start f (fixed_in f e)) ∙ anchor_at-start f (fixed_in f e) ∙ cond-true (is_fixed fixed f) (Some f) None e;
    anchors = λ t f l e.
        let found = cond_some (is_fixed fixed t) t f (sym (ap (anchor_at (start terms fixed)) (class_at-start t l) ∙ anchor_at-start t l) ∙ e) in
        (ap (is_fixed fixed) (sym found.1) ∙ found.0, ap (class_at (start terms fixed)) (sym found.1));
  }

  module _ (s : Parts) (good : IsGood terms fixed s) (j : Join) (lawful : IsJoin terms s j) where
    abbrev new : Parts
    new = joined s j.from j.into

    class_of : (t : ℕ) → t < terms → class_at new t ≡ relabel j.from j.into (class_at s t)
    class_of t l = class_at-joined s j.from j.into t (omega (arith, good.classes_len))

    -- a term of the class that the other is put into
    far : (x : ℕ) × (x < terms) × (class_at s x ≡ j.into)
    far = ⊎_elim (λ e. (j.right, lawful.right_in, e.1)) (λ e. (j.left, lawful.left_in, e.0)) lawful.ends

    into_in : j.into < terms
    into_in = omega (arith, far.2, good.in_range far.0 far.1)

    anchor_into : anchor_at new j.into ≡ option_or (anchor_at s j.into) (anchor_at s j.from)
    anchor_into = get_or-set_same s.anchors j.into (option_or (anchor_at s j.into) (anchor_at s j.from)) None (omega (arith, into_in, good.anchors_len))

    anchor_other : (c : ℕ) → c ≢ j.into → anchor_at new c ≡ anchor_at s c
    anchor_other c e = get_or-set_other s.anchors j.into c (option_or (anchor_at s j.into) (anchor_at s j.from)) None e

    into_stays : relabel j.from j.into j.into ≡ j.into
    into_stays = relabel_other j.from j.into j.into (λ e. lawful.apart (sym e))

    anchored_joined : (f : ℕ) → is_fixed fixed f ≡ true → anchor_at new (class_at new f) ≡ Some f
    anchored_joined f e =
        let f_in = fixed_in f e in
        let was = good.anchored f e in
        ⊎_elim
        (λ from.
        let at_from : anchor_at s j.from ≡ Some f = ap (anchor_at s) (sym from) ∙ was in
        let empty : anchor_at s j.into ≡ None = ⊎_elim (λ x. x) (λ x. absurd (none-some f (sym x ∙ at_from))) lawful.free in
        ap (anchor_at new) (class_of f f_in ∙ relabel_from j.from j.into (class_at s f) from) ∙ anchor_into
        ∙ ap (λ o. option_or o (anchor_at s j.from)) empty ∙ at_from)
        (λ not_from. ⊎_elim
        (λ into.
        ap (anchor_at new) (class_of f f_in ∙ relabel_other j.from j.into (class_at s f) not_from ∙ into) ∙ anchor_into
        ∙ ap (λ o. option_or o (anchor_at s j.from)) (ap (anchor_at s) (sym into) ∙ was))
        (λ other. ap (anchor_at new) (class_of f f_in ∙ relabel_other j.from j.into (class_at s f) not_from) ∙ anchor_other (class_at s f) other ∙ was)
        (cases_eq (class_at s f) j.into))
        (cases_eq (class_at s f) j.from)

    -- the anchor of the joined class is a fixed term in it
    anchor_of_into : (f : ℕ) (o : Option ℕ) → anchor_at s j.into ≡ o → option_or o (anchor_at s j.from) ≡ Some f → (is_fixed fixed f ≡ true) × (class_at new f ≡ j.into)
    anchor_of_into f None none e =
        let found = good.anchors j.near f lawful.near_in (ap (anchor_at s) lawful.near_from ∙ e) in
        (found.0, class_of f (fixed_in f found.0) ∙ relabel_from j.from j.into (class_at s f) (found.1 ∙ lawful.near_from))
    anchor_of_into f (Some g) some e =
        let found = good.anchors far.0 f far.1 (ap (anchor_at s) far.2 ∙ some ∙ e) in
        (found.0, class_of f (fixed_in f found.0) ∙ ap (relabel j.from j.into) (found.1 ∙ far.2) ∙ into_stays)

    anchors_joined : (t f : ℕ) → t < terms → anchor_at new (class_at new t) ≡ Some f → (is_fixed fixed f ≡ true) × (class_at new f ≡ class_at new t)
    anchors_joined t f l e =
        let whole : class_at new t ≡ j.into → (is_fixed fixed f ≡ true) × (class_at new f ≡ class_at new t) = λ is_into.
        let found = anchor_of_into f (anchor_at s j.into) refl (sym anchor_into ∙ ap (anchor_at new) (sym is_into) ∙ e) in
        (found.0, found.1 ∙ sym is_into) in
        ⊎_elim
        (λ from. whole (class_of t l ∙ relabel_from j.from j.into (class_at s t) from))
        (λ not_from.
        let stays = class_of t l ∙ relabel_other j.from j.into (class_at s t) not_from in
        ⊎_elim
        (λ into. whole (stays ∙ into))
        (λ other.
        let found = good.anchors t f l (sym (anchor_other (class_at s t) other) ∙ ap (anchor_at new) (sym stays) ∙ e) in
        (found.0, class_of f (fixed_in f found.0) ∙ ap (relabel j.from j.into) found.1 ∙ sym (class_of t l)))
        (cases_eq (class_at s t) j.into))
        (cases_eq (class_at s t) j.from)

    IsGood-joined : IsGood terms fixed new
    IsGood-joined = record {
      classes_len = length-map s.classes (relabel j.from j.into) ∙ good.classes_len;
      anchors_len = length-set s.anchors j.into (option_or (anchor_at s j.into) (anchor_at s j.from)) ∙ good.anchors_len;
      in_range = λ t l.
          ⊎_elim
          (λ e. rw (class_of t l, relabel_from j.from j.into (class_at s t) e) into_in)
          (λ e. rw (class_of t l, relabel_other j.from j.into (class_at s t) e) (good.in_range t l))
          (cases_eq (class_at s t) j.from);
      anchored = anchored_joined;
      anchors = anchors_joined;
    }

  IsGood-step : (s : Parts) (e : Entry) → IsGood terms fixed s → IsLawful terms s e → IsGood terms fixed (step s e)
  IsGood-step s (Joined j) good lawful = IsGood-joined s good j lawful
  IsGood-step s (Known l r) good lawful = good
  IsGood-step s (Apart l r) good lawful = good
  IsGood-step s (Failed x) good lawful = good

  pub IsGood-after : (s : Parts) (es : List Entry) → IsGood terms fixed s → AreLawful terms s es → IsGood terms fixed (after s es)
  IsGood-after s [] good lawful = good
  IsGood-after s (e ∷ es) good lawful = IsGood-after (step s e) es (IsGood-step s e good lawful.0) lawful.1

  -- in the first classes each term is alone
  pub same_start : (f : ℕ → Bool) → IsSameInClasses terms (start terms fixed) f
  same_start f t u t_in u_in e = ap f (sym (class_at-start t t_in) ∙ e ∙ class_at-start u u_in)
