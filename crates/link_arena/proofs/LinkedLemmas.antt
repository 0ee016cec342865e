-- Which nodes are in some list, before and after a change.
use Rattle.std.proofs.Common.{◌≡◌, ◌⊎◌, ℕ, zero, suc, ◌<◌, true, false, not, List, [], ◌∷◌, ◌++◌, length, refl, sym, ap, ◌∙◌, inl, inr, subst, arith}
use Rattle.std.proofs.lemmas.Bool.{eq-eqb, ne_eqb, cases_eq, cond-true, cond-false, or_cases, or_left, or_right, false_from_ne_true, false≢true}
use Rattle.std.specs.List.{concat}
use Rattle.link_arena.specs.Lists.{is_in, is_linked, without, unlinked, pushed}
use Rattle.link_arena.proofs.InLemmas.{In, In-from_is_in, is_in-from_In, In-append}

-- q is in one of the lists
abbrev pub InSome : ℕ → List (List ℕ) → Type 0
InSome q [] = ⊥
InSome q (list ∷ lists) = In q list ⊎ InSome q lists

pub InSome-from_is_linked : (q : ℕ) (lists : List (List ℕ)) → is_linked q lists ≡ true → InSome q lists
InSome-from_is_linked q [] h = absurd (false≢true h)
InSome-from_is_linked q (list ∷ lists) h =
    elim (or_cases (is_in q list) (is_linked q lists) h) [
      | inl here ↦ inl (In-from_is_in q list here)
      | inr later ↦ inr (InSome-from_is_linked q lists later)
    ]

pub is_linked-from_InSome : (q : ℕ) (lists : List (List ℕ)) → InSome q lists → is_linked q lists ≡ true
is_linked-from_InSome q [] h = absurd h
is_linked-from_InSome q (list ∷ lists) (inl here) = or_left (is_in q list) (is_linked q lists) (is_in-from_In q list here)
is_linked-from_InSome q (list ∷ lists) (inr later) = or_right (is_in q list) (is_linked q lists) (is_linked-from_InSome q lists later)

pub is_linked_not : (q : ℕ) (lists : List (List ℕ)) → (InSome q lists → ⊥) → is_linked q lists ≡ false
is_linked_not q lists h = false_from_ne_true (is_linked q lists) (λ yes. h (InSome-from_is_linked q lists yes))

pub InSome_not : (q : ℕ) (lists : List (List ℕ)) → is_linked q lists ≡ false → InSome q lists → ⊥
InSome_not q lists h there = false≢true (sym h ∙ is_linked-from_InSome q lists there)

pub InSome-from_concat : (q : ℕ) (lists : List (List ℕ)) → In q (concat lists) → InSome q lists
InSome-from_concat q [] h = absurd h
InSome-from_concat q (list ∷ lists) h =
    elim (In-append q list (concat lists) h) [ inl here ↦ inl here | inr later ↦ inr (InSome-from_concat q lists later) ]

In-append_left : (q : ℕ) (xs ys : List ℕ) → In q xs → In q (xs ++ ys)
In-append_left q [] ys h = absurd h
In-append_left q (x ∷ xs) ys (inl same) = inl same
In-append_left q (x ∷ xs) ys (inr later) = inr (In-append_left q xs ys later)

In-push : (x : ℕ) (xs : List ℕ) → In x (xs ++ x ∷ [])
In-push x [] = inl refl
In-push x (y ∷ ys) = inr (In-push x ys)

-- another node is not taken out
In-without : (q x : ℕ) (xs : List ℕ) → (q ≡ x → ⊥) → In q xs → In q (without x xs)
In-without q x [] other there = absurd there
In-without q x (y ∷ ys) other there =
    elim (cases_eq x y) [
      | inl same ↦ subst (In q) (sym (cond-false _ _ _ (ap not (eq-eqb x y same))))
          (elim there [ inl e ↦ absurd (other (e ∙ sym same)) | inr later ↦ In-without q x ys other later ])
      | inr differ ↦ subst (In q) (sym (cond-true _ _ _ (ap not (ne_eqb x y differ))))
          (elim there [ inl e ↦ inl e | inr later ↦ inr (In-without q x ys other later) ])
    ]

-- the node itself is
In-without_same : (x : ℕ) (xs : List ℕ) → In x (without x xs) → ⊥
In-without_same x [] there = absurd there
In-without_same x (y ∷ ys) there =
    elim (cases_eq x y) [
      | inl same ↦ In-without_same x ys (subst (In x) (cond-false _ _ _ (ap not (eq-eqb x y same))) there)
      | inr differ ↦
          let both : (x ≡ y) ⊎ In x (without x ys) = subst (In x) (cond-true _ (y ∷ without x ys) (without x ys) (ap not (ne_eqb x y differ))) there in
          elim both [ inl e ↦ differ e | inr later ↦ In-without_same x ys later ]
    ]

pub InSome-unlinked : (q x : ℕ) (lists : List (List ℕ)) → (q ≡ x → ⊥) → InSome q lists → InSome q (unlinked x lists)
InSome-unlinked q x [] other h = absurd h
InSome-unlinked q x (list ∷ lists) other (inl here) = inl (In-without q x list other here)
InSome-unlinked q x (list ∷ lists) other (inr later) = inr (InSome-unlinked q x lists other later)

InSome-unlinked_same : (x : ℕ) (lists : List (List ℕ)) → InSome x (unlinked x lists) → ⊥
InSome-unlinked_same x [] h = absurd h
InSome-unlinked_same x (list ∷ lists) (inl here) = In-without_same x list here
InSome-unlinked_same x (list ∷ lists) (inr later) = InSome-unlinked_same x lists later

-- a node that was taken out is in no list
pub is_linked-unlinked : (x : ℕ) (lists : List (List ℕ)) → is_linked x (unlinked x lists) ≡ false
is_linked-unlinked x lists = is_linked_not x (unlinked x lists) (InSome-unlinked_same x lists)

pub InSome-pushed : (q x place : ℕ) (lists : List (List ℕ)) → InSome q lists → InSome q (pushed place x lists)
InSome-pushed q x place [] h = absurd h
InSome-pushed q x zero (list ∷ lists) (inl here) = inl (In-append_left q list (x ∷ []) here)
InSome-pushed q x zero (list ∷ lists) (inr later) = inr later
InSome-pushed q x (suc place) (list ∷ lists) (inl here) = inl here
InSome-pushed q x (suc place) (list ∷ lists) (inr later) = inr (InSome-pushed q x place lists later)

pub InSome-pushed_same : (x place : ℕ) (lists : List (List ℕ)) → place < length lists → InSome x (pushed place x lists)
InSome-pushed_same x place [] place_in = absurd (omega arith)
InSome-pushed_same x zero (list ∷ lists) place_in = inl (In-push x list)
InSome-pushed_same x (suc place) (list ∷ lists) place_in = inr (InSome-pushed_same x place lists (omega arith))
