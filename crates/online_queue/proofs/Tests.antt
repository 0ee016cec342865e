-- Tests of records and of lists.
use Rattle.std.proofs.Common.{◌≡◌, ◌⊎◌, ℕ, Bool, true, false, ◌&&◌, ◌||◌, List, [], ◌∷◌, ◌++◌, refl, ap, ◌∙◌, cond, inl, inr, nat_eq}
use Rattle.std.specs.Prelude.{filter}
use Rattle.std.specs.List.{list_any}
use Rattle.std.proofs.lemmas.Bool.{eqb-true, eq-eqb, false≢true}
use Rattle.online_queue.specs.declared.records.RecordId.{RecordId}
use Rattle.online_queue.specs.Records.{same_record}

pub and-true : (a b : Bool) → (a && b) ≡ true → (a ≡ true) × (b ≡ true)
and-true true b h = (refl, h)
and-true false b h = absurd (false≢true h)

pub record-is : (r q : RecordId) → same_record r q ≡ true → r ≡ q
record-is r q same =
    let parts = and-true _ _ same in
    let models : r.model ≡ q.model = eqb-true r.model q.model parts.0 in
    let ids : r.id ≡ q.id = eqb-true r.id q.id parts.1 in
    ap (λ (m : ℕ). let it : RecordId = record { model = m; id = r.id } in it) models ∙ ap (λ (i : ℕ). let it : RecordId = record { model = q.model; id = i } in it) ids

pub same-self : (r : RecordId) → same_record r r ≡ true
same-self r = ap (λ b. b && nat_eq r.id r.id) (eq-eqb r.model r.model refl) ∙ eq-eqb r.id r.id refl

pub any-append : {A : Type 0} (p : A → Bool) (xs ys : List A) → list_any p (xs ++ ys) ≡ (list_any p xs || list_any p ys)
any-append p [] ys = refl
any-append p (x ∷ xs) ys = elim (p x) as (λ (b : Bool). (b || list_any p (xs ++ ys)) ≡ ((b || list_any p xs) || list_any p ys)) [ true ↦ refl | false ↦ any-append p xs ys ]

pub or-cases : (a b : Bool) → (a || b) ≡ true → (a ≡ true) ⊎ (b ≡ true)
or-cases true b h = inl refl
or-cases false b h = inr h

pub or-right : (a b : Bool) → b ≡ true → (a || b) ≡ true
or-right true b h = refl
or-right false b h = h

pub or-left : (a b : Bool) → a ≡ true → (a || b) ≡ true
or-left a b h = ap (λ c. c || b) h

-- what is in a list that is cut was in it
pub any-filter : {A : Type 0} (p keep : A → Bool) (xs : List A) → list_any p (filter keep xs) ≡ true → list_any p xs ≡ true
any-filter p keep [] h = h
any-filter p keep (x ∷ xs) h =
    elim (keep x) as (λ (b : Bool). list_any p (cond b (x ∷ filter keep xs) (filter keep xs)) ≡ true → (p x || list_any p xs) ≡ true) [
      | true ↦ λ in-kept. elim (or-cases (p x) (list_any p (filter keep xs)) in-kept) [ inl first ↦ or-left (p x) (list_any p xs) first | inr later ↦ or-right (p x) (list_any p xs) (any-filter p keep xs later) ]
      | false ↦ λ in-kept. or-right (p x) (list_any p xs) (any-filter p keep xs in-kept)
    ] h
