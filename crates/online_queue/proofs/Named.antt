-- Lists of nodes, and the records at them.
use Rattle.std.proofs.Common.{◌≡◌, ℕ, suc, Bool, true, false, not, ◌||◌, List, [], ◌∷◌, ◌++◌, length, take, map, refl, ap, sym, ◌∙◌, cond, nat_eq}
use Rattle.std.specs.Prelude.{Option, Some, None, is_some}
use Rattle.std.specs.Option.{option_map_or}
use Rattle.std.proofs.lemmas.Bool.{eqb-true, eq-eqb, false≢true}
use Rattle.std.proofs.lemmas.List.{take-map}
use Rattle.link_arena.specs.Lists.{is_in}
use Rattle.link_arena.specs.Lists as arena
use Rattle.online_queue.specs.declared.records.RecordId.{RecordId}
use Rattle.online_queue.specs.Records.{same_record, is_among, without}
use Rattle.online_queue.specs.Waiting.{name_at}
use Rattle.online_queue.specs.Sound.{names_of, Apart}
use Rattle.online_queue.proofs.Tests.{record-is, same-self, or-left, or-right}

module _ (names : List (Option RecordId)) where
  pub head-named : (x : ℕ) (q : RecordId) (xs : List ℕ) → name_at names x ≡ Some q → names_of names (x ∷ xs) ≡ q ∷ names_of names xs
  head-named x q xs at = ap (λ (o : Option RecordId). option_map_or (λ r. r ∷ names_of names xs) o (names_of names xs)) at

  pub head-free : (x : ℕ) (xs : List ℕ) → name_at names x ≡ None → names_of names (x ∷ xs) ≡ names_of names xs
  head-free x xs free = ap (λ (o : Option RecordId). option_map_or (λ r. r ∷ names_of names xs) o (names_of names xs)) free

  pub names-append : (xs ys : List ℕ) → names_of names (xs ++ ys) ≡ names_of names xs ++ names_of names ys
  names-append [] ys = refl
  names-append (x ∷ xs) ys =
      elim (name_at names x) as (λ (o : Option RecordId). option_map_or (λ r. r ∷ names_of names (xs ++ ys)) o (names_of names (xs ++ ys))
      ≡ option_map_or (λ r. r ∷ names_of names xs) o (names_of names xs) ++ names_of names ys) [
        | None ↦ names-append xs ys
        | Some q ↦ ap (λ rs. q ∷ rs) (names-append xs ys)
      ]

  module _ (apart : Apart names) (node : ℕ) (r : RecordId) (here : name_at names node ≡ Some r) where
    node-test : (x : ℕ) (q : RecordId) → name_at names x ≡ Some q → nat_eq node x ≡ same_record r q
    node-test x q at =
        elim (nat_eq node x) as (λ (b : Bool). nat_eq node x ≡ b → b ≡ same_record r q) [
          | true ↦ λ e.
              let same : node ≡ x = eqb-true node x e in
              let found : Some r ≡ Some q = sym here ∙ (ap (name_at names) same ∙ at) in
              let rq : r ≡ q = cc in
              sym (ap (same_record r) (sym rq) ∙ same-self r)
          | false ↦ λ e.
              elim (same_record r q) as (λ (b : Bool). same_record r q ≡ b → false ≡ b) [
                | true ↦ λ s. sym e ∙ eq-eqb node x (apart node x r here (at ∙ ap Some (sym (record-is r q s))))
                | false ↦ λ s. refl
              ] refl
        ] refl

    free-test : (x : ℕ) → name_at names x ≡ None → nat_eq node x ≡ false
    free-test x free =
        elim (nat_eq node x) as (λ (b : Bool). nat_eq node x ≡ b → b ≡ false) [
          | true ↦ λ e.
              let same : node ≡ x = eqb-true node x e in
              let found : Some r ≡ None = sym here ∙ (ap (name_at names) same ∙ free) in
              cc
          | false ↦ λ e. refl
        ] refl

    pub in-names : (nodes : List ℕ) → is_in node nodes ≡ is_among r (names_of names nodes)
    in-names [] = refl
    in-names (x ∷ xs) =
        elim (name_at names x) as (λ (o : Option RecordId). name_at names x ≡ o
        → (nat_eq node x || is_in node xs) ≡ is_among r (option_map_or (λ q. q ∷ names_of names xs) o (names_of names xs))) [
          | None ↦ λ free. ap (λ b. b || is_in node xs) (free-test x free) ∙ in-names xs
          | Some q ↦ λ at. ap (λ b. b || is_in node xs) (node-test x q at) ∙ ap (λ b. same_record r q || b) (in-names xs)
        ] refl

    pub names-without : (nodes : List ℕ) → names_of names (arena.without node nodes) ≡ without r (names_of names nodes)
    names-without [] = refl
    names-without (x ∷ xs) =
        elim (name_at names x) as (λ (o : Option RecordId). name_at names x ≡ o
        → names_of names (cond (not (nat_eq node x)) (x ∷ arena.without node xs) (arena.without node xs))
        ≡ without r (option_map_or (λ q. q ∷ names_of names xs) o (names_of names xs))) [
          | None ↦ λ free.
              ap (λ b. names_of names (cond (not b) (x ∷ arena.without node xs) (arena.without node xs))) (free-test x free)
              ∙ (head-free x (arena.without node xs) free ∙ names-without xs)
          | Some q ↦ λ at.
              ap (λ b. names_of names (cond (not b) (x ∷ arena.without node xs) (arena.without node xs))) (node-test x q at)
              ∙ (elim (same_record r q) as (λ (b : Bool). names_of names (cond (not b) (x ∷ arena.without node xs) (arena.without node xs))
              ≡ cond (not b) (q ∷ without r (names_of names xs)) (without r (names_of names xs))) [
                | true ↦ names-without xs
                | false ↦ head-named x q (arena.without node xs) at ∙ ap (λ rs. q ∷ rs) (names-without xs)
              ])
        ] refl

  abbrev pub AllNamed : List ℕ → Type 0
  AllNamed nodes = (n : ℕ) → is_in n nodes ≡ true → is_some (name_at names n) ≡ true

  first-in : (x : ℕ) (xs : List ℕ) → is_in x (x ∷ xs) ≡ true
  first-in x xs = or-left (nat_eq x x) (is_in x xs) (eq-eqb x x refl)

  pub tail-named : (x : ℕ) (xs : List ℕ) → AllNamed (x ∷ xs) → AllNamed xs
  tail-named x xs all n h = all n (or-right (nat_eq n x) (is_in n xs) h)

  pub named-name : (x : ℕ) → is_some (name_at names x) ≡ true → (q : RecordId) × (name_at names x ≡ Some q)
  named-name x h =
      elim (name_at names x) as (λ (o : Option RecordId). name_at names x ≡ o → is_some o ≡ true → (q : RecordId) × (name_at names x ≡ Some q)) [
        | None ↦ λ free some. absurd (false≢true some)
        | Some q ↦ λ at some. (q, at)
      ] refl h

  pub first-name : (x : ℕ) (xs : List ℕ) → AllNamed (x ∷ xs) → (q : RecordId) × (name_at names x ≡ Some q)
  first-name x xs all = named-name x (all x (first-in x xs))

  pub names-length : (nodes : List ℕ) → AllNamed nodes → length (names_of names nodes) ≡ length nodes
  names-length [] all = refl
  names-length (x ∷ xs) all =
      let it = first-name x xs all in
      ap length (head-named x it.0 xs it.1) ∙ ap (λ n. suc n) (names-length xs (tail-named x xs all))

  pub names-some : (nodes : List ℕ) → AllNamed nodes → map (name_at names) nodes ≡ map Some (names_of names nodes)
  names-some [] all = refl
  names-some (x ∷ xs) all =
      let it = first-name x xs all in
      let tail : map (name_at names) xs ≡ map Some (names_of names xs) = names-some xs (tail-named x xs all) in
      ap (λ (o : Option RecordId). o ∷ map (name_at names) xs) it.1 ∙ ap (λ (os : List (Option RecordId)). Some it.0 ∷ os) tail
      ∙ sym (ap (λ (rs : List RecordId). map Some rs) (head-named x it.0 xs it.1))

  pub first-names : (nodes : List ℕ) (most : ℕ) → AllNamed nodes → map (name_at names) (take most nodes) ≡ map Some (take most (names_of names nodes))
  first-names nodes most all =
      let cut : take most (map (name_at names) nodes) ≡ map (name_at names) (take most nodes) = take-map (name_at names) most nodes in
      let some : take most (map Some (names_of names nodes)) ≡ map Some (take most (names_of names nodes)) = take-map Some most (names_of names nodes) in
      sym cut ∙ ap (take most) (names-some nodes all) ∙ some

-- other records at nodes of which none is in the list
pub names-same : (names names' : List (Option RecordId)) (nodes : List ℕ) → ((n : ℕ) → is_in n nodes ≡ true → name_at names' n ≡ name_at names n) → names_of names' nodes ≡ names_of names nodes
names-same names names' [] same = refl
names-same names names' (x ∷ xs) same =
    let tail : names_of names' xs ≡ names_of names xs = names-same names names' xs (λ n h. same n (or-right (nat_eq n x) (is_in n xs) h)) in
    ap (λ (o : Option RecordId). option_map_or (λ r. r ∷ names_of names' xs) o (names_of names' xs)) (same x (or-left (nat_eq x x) (is_in x xs) (eq-eqb x x refl)))
    ∙ ap (λ (rs : List RecordId). option_map_or (λ r. r ∷ rs) (name_at names x) rs) tail
