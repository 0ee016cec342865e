-- Queues stay sound.
use Rattle.std.proofs.Common.{◌≡◌, ℕ, zero, suc, ◌+◌, ◌-◌, ◌<◌, ◌≤◌, Bool, true, false, not, ◌||◌, List, [], ◌∷◌, ◌++◌, length, take, drop, map, replicate, refl, ap, sym, ◌∙◌, subst, cond, inl, inr, nat_eq, arith, add-one, get_or-set_same, get_or-set_other}
use Rattle.std.specs.Prelude.{Option, Some, None, is_some, unwrap_or, slice_get, slice_set}
use Rattle.std.specs.List.{IsDistinct}
use Rattle.std.specs.Option.{option_map_or}
use Rattle.std.proofs.lemmas.Bool.{eqb-true, false≢true, cases_eq}
use Rattle.std.proofs.lemmas.List.{length-append, length-replicate}
use Rattle.link_arena.specs.Lists.{Lists, list_at, is_in, is_linked, pushed, unlinked, EachOnce, next_of, next_in}
use Rattle.link_arena.specs.Lists as arena
use Rattle.link_arena.proofs.InLemmas.{In, is_in-from_In, length-le_distinct, IsDistinct-append, IsDistinct-cons_In, IsDistinct-nil}
use Rattle.online_queue.specs.declared.records.RecordId.{RecordId}
use Rattle.online_queue.specs.Records.{same_record, is_among, without}
use Rattle.online_queue.specs.Waiting.{Waiting, name_at, is_waiting, to_end, taken_out}
use Rattle.online_queue.specs.Sound.{names_of, Apart, Takes, IsSound}
use Rattle.online_queue.proofs.Tests.{any-append, or-cases, any-filter}
use Rattle.online_queue.proofs.Named.{first-names, head-named, names-append, in-names, names-without, named-name, first-name, names-length, names-same}
use Rattle.online_queue.proofs.Orders.{next-at, alone, without-first, without-absent, length-without, in-at}

abbrev pub order : Lists → List ℕ
order rings = list_at rings.lists 0

abbrev pub seen : List (Option RecordId) → Lists → Waiting
seen names rings = record { names = names; queue = names_of names (order rings) }

or-false : (b : Bool) → (b || false) ≡ b
or-false true = refl
or-false false = refl

-- a node that is for a record is one
pub below-names : (names : List (Option RecordId)) (node : ℕ) → is_some (name_at names node) ≡ true → node < length names
below-names [] node h = absurd (false≢true h)
below-names (o ∷ names) zero h = omega arith
below-names (o ∷ names) (suc node) h = let rest : node < length names = below-names names node h in omega (arith, rest)

module _ (rings : Lists) (names : List (Option RecordId)) (waiting : ℕ) (is : IsSound rings names waiting) where
  pub linked-in : (node : ℕ) → is_linked node rings.lists ≡ is_in node (order rings)
  linked-in node = ap (is_linked node) is.one ∙ or-false (is_in node (order rings))

  pub long-as : waiting ≡ length (names_of names (order rings))
  long-as = is.long ∙ sym (names-length names (order rings) is.named.named)

  pub linked-waits : (node : ℕ) → is_linked node rings.lists ≡ is_waiting (seen names rings) node
  linked-waits node =
      linked-in node
      ∙ (elim (name_at names node) as (λ (o : Option RecordId). name_at names node ≡ o → is_in node (order rings) ≡ option_map_or (λ r. is_among r (names_of names (order rings))) o false) [
        | None ↦ λ free.
            elim (is_in node (order rings)) as (λ (b : Bool). is_in node (order rings) ≡ b → b ≡ false) [
              | true ↦ λ there. let never : false ≡ true = sym (ap is_some free) ∙ is.named.named node there in absurd (false≢true never)
              | false ↦ λ no. refl
            ] refl
        | Some r ↦ λ at. in-names names is.named.apart node r at (order rings)
      ] refl)

  pub distinct : EachOnce rings.lists → IsDistinct nat_eq (order rings)
  distinct each = alone (order rings) (subst (λ (ls : List (List ℕ)). EachOnce ls) is.one each)

  pub few : EachOnce rings.lists → (node : ℕ) → is_some (name_at names node) ≡ true → is_linked node rings.lists ≡ false → waiting + 1 ≤ rings.nodes
  few each node named free =
      let out : is_in node (order rings) ≡ false = sym (linked-in node) ∙ free in
      let apart : (q : ℕ) → In q (order rings) → In q (node ∷ []) → ⊥ = λ q left right. elim right [
        | inl same ↦ false≢true (sym out ∙ subst (λ (n : ℕ). is_in n (order rings) ≡ true) same (is_in-from_In q (order rings) left))
        | inr none ↦ absurd none
      ] in
      let one : IsDistinct nat_eq (node ∷ []) = IsDistinct-cons_In node [] (λ none. absurd none) IsDistinct-nil in
      let both : IsDistinct nat_eq (order rings ++ node ∷ []) = IsDistinct-append (order rings) (node ∷ []) (distinct each) one apart in
      let fits : length (order rings ++ node ∷ []) ≤ length names = length-le_distinct (order rings ++ node ∷ []) (length names) both (λ q there. below-names names q (inside q (is_in-from_In q (order rings ++ node ∷ []) there))) in
      let sum : length (order rings ++ node ∷ []) ≡ length (order rings) + 1 = length-append (order rings) (node ∷ []) in
      omega (arith, fits, sum, is.long, is.size)
    where
      inside : (q : ℕ) → is_in q (order rings ++ node ∷ []) ≡ true → is_some (name_at names q) ≡ true
      inside q there =
          elim (or-cases (is_in q (order rings)) (is_in q (node ∷ [])) (sym (any-append (nat_eq q) (order rings) (node ∷ [])) ∙ there)) [
            | inl old ↦ is.named.named q old
            | inr new ↦ subst (λ (n : ℕ). is_some (name_at names n) ≡ true) (sym (eqb-true q node (sym (or-false (nat_eq q node)) ∙ new))) named
          ]

  -- another list of nodes
  pub sound-with : (order' : List ℕ) (waiting' : ℕ) (rings' : Lists) → rings' ≡ record { nodes = rings.nodes; lists = order' ∷ [] } → waiting' ≡ length order'
      → ((n : ℕ) → is_in n order' ≡ true → is_some (name_at names n) ≡ true) → IsSound rings' names waiting'
  sound-with order' waiting' rings' e long named =
      subst (λ (x : Lists). IsSound x names waiting') (sym e)
      (record { one = refl; size = is.size; fits = is.fits; long = long; named = record { named = named; apart = is.named.apart } })

  -- the node at the end
  module _ (node : ℕ) (named : is_some (name_at names node) ≡ true) (rings' : Lists)
      (e : rings' ≡ record { nodes = rings.nodes; lists = (arena.without node (order rings) ++ node ∷ []) ∷ [] }) where
    at-end : (n : ℕ) → is_in n (arena.without node (order rings) ++ node ∷ []) ≡ true → is_some (name_at names n) ≡ true
    at-end q there =
        elim (or-cases (is_in q (arena.without node (order rings))) (is_in q (node ∷ [])) (sym (any-append (nat_eq q) (arena.without node (order rings)) (node ∷ [])) ∙ there)) [
          | inl old ↦ is.named.named q (any-filter (nat_eq q) (λ other. not (nat_eq node other)) (order rings) old)
          | inr new ↦ subst (λ (n : ℕ). is_some (name_at names n) ≡ true) (sym (eqb-true q node (sym (or-false (nat_eq q node)) ∙ new))) named
        ]

    pub sound-end : (waiting' : ℕ) → waiting' ≡ length (arena.without node (order rings)) + 1 → IsSound rings' names waiting'
    sound-end waiting' long =
        sound-with (arena.without node (order rings) ++ node ∷ []) waiting' rings' e (long ∙ sym (length-append (arena.without node (order rings)) (node ∷ []))) at-end

    pub seen-end : (r : RecordId) → name_at names node ≡ Some r → seen names rings' ≡ to_end r (seen names rings)
    seen-end r at =
        let it : names_of names (arena.without node (order rings) ++ node ∷ []) ≡ without r (names_of names (order rings)) ++ r ∷ []
        = names-append names (arena.without node (order rings)) (node ∷ [])
        ∙ (ap (λ rs. rs ++ names_of names (node ∷ [])) (names-without names is.named.apart node r at (order rings))
        ∙ ap (λ rs. without r (names_of names (order rings)) ++ rs) (head-named names node r [] at)) in
        ap (λ (x : Lists). seen names x) e ∙ ap (λ (rs : List RecordId). let w : Waiting = record { names = names; queue = rs } in w) it

  -- the node in no list
  module _ (node : ℕ) (rings' : Lists) (e : rings' ≡ record { nodes = rings.nodes; lists = arena.without node (order rings) ∷ [] }) where
    pub sound-out : (waiting' : ℕ) → waiting' ≡ length (arena.without node (order rings)) → IsSound rings' names waiting'
    sound-out waiting' long =
        sound-with (arena.without node (order rings)) waiting' rings' e long
        (λ q there. is.named.named q (any-filter (nat_eq q) (λ other. not (nat_eq node other)) (order rings) there))

    pub seen-out : (r : RecordId) → name_at names node ≡ Some r → seen names rings' ≡ taken_out r (seen names rings)
    seen-out r at =
        ap (λ (x : Lists). seen names x) e
        ∙ ap (λ (rs : List RecordId). let w : Waiting = record { names = names; queue = rs } in w) (names-without names is.named.apart node r at (order rings))

  pub seen-absent : (node : ℕ) (r : RecordId) → name_at names node ≡ Some r → is_linked node rings.lists ≡ false → seen names rings ≡ taken_out r (seen names rings)
  seen-absent node r at free =
      let kept : arena.without node (order rings) ≡ order rings = without-absent node (order rings) (sym (linked-in node) ∙ free) in
      let it : names_of names (order rings) ≡ without r (names_of names (order rings))
      = sym (ap (names_of names) kept) ∙ names-without names is.named.apart node r at (order rings) in
      ap (λ (rs : List RecordId). let w : Waiting = record { names = names; queue = rs } in w) it

  -- ---- the calls of the rings

  abbrev pub Ended : ℕ → Lists → Type 0
  Ended node rings' = rings' ≡ record { nodes = rings.nodes; lists = (arena.without node (order rings) ++ node ∷ []) ∷ [] }

  abbrev pub Out : ℕ → Lists → Type 0
  Out node rings' = rings' ≡ record { nodes = rings.nodes; lists = arena.without node (order rings) ∷ [] }

  one-less : EachOnce rings.lists → (node : ℕ) → is_linked node rings.lists ≡ true → length (arena.without node (order rings)) + 1 ≡ waiting
  one-less each node linked = length-without node (order rings) (distinct each) (sym (linked-in node) ∙ linked) ∙ sym is.long

  pub moved : EachOnce rings.lists → (node : ℕ) → is_linked node rings.lists ≡ true → (rings' : Lists)
      → rings' ≡ record { nodes = rings.nodes; lists = pushed 0 node (unlinked node rings.lists) } → Ended node rings' × (waiting ≡ length (arena.without node (order rings)) + 1)
  moved each node linked rings' e =
      (e ∙ ap (λ (ls : List (List ℕ)). let l : Lists = record { nodes = rings.nodes; lists = pushed 0 node (unlinked node ls) } in l) is.one, sym (one-less each node linked))

  pub put-last : (node : ℕ) → is_linked node rings.lists ≡ false → (rings' : Lists)
      → rings' ≡ record { nodes = rings.nodes; lists = pushed 0 node rings.lists } → Ended node rings' × (waiting + 1 ≡ length (arena.without node (order rings)) + 1)
  put-last node free rings' e =
      let kept : arena.without node (order rings) ≡ order rings = without-absent node (order rings) (sym (linked-in node) ∙ free) in (
        e ∙ (ap (λ (ls : List (List ℕ)). let l : Lists = record { nodes = rings.nodes; lists = pushed 0 node ls } in l) is.one
            ∙ ap (λ (ns : List ℕ). let l : Lists = record { nodes = rings.nodes; lists = (ns ++ node ∷ []) ∷ [] } in l) (sym kept)),
        ap (λ n. n + 1) (is.long ∙ ap length (sym kept)),
      )

  pub took : EachOnce rings.lists → (node : ℕ) → is_linked node rings.lists ≡ true → (rings' : Lists)
      → rings' ≡ record { nodes = rings.nodes; lists = unlinked node rings.lists } → Out node rings' × (waiting - 1 ≡ length (arena.without node (order rings)))
  took each node linked rings' e =
      let less = one-less each node linked in
      (e ∙ ap (λ (ls : List (List ℕ)). let l : Lists = record { nodes = rings.nodes; lists = unlinked node ls } in l) is.one, omega (arith, less))

  -- the first of the list
  module _ (each : EachOnce rings.lists) (node : ℕ) (first : slice_get (order rings) 0 ≡ Some node) where
    pub first-in : is_linked node rings.lists ≡ true
    first-in = linked-in node ∙ in-at (order rings) 0 node first

    pub first-gone : names_of names (arena.without node (order rings)) ≡ drop 1 (names_of names (order rings))
    first-gone = by-cases (order rings) first (distinct each) is.named.named
      where
        by-cases : (xs : List ℕ) → slice_get xs 0 ≡ Some node → IsDistinct nat_eq xs → ((n : ℕ) → is_in n xs ≡ true → is_some (name_at names n) ≡ true)
            → names_of names (arena.without node xs) ≡ drop 1 (names_of names xs)
        by-cases [] at d all = cc
        by-cases (x ∷ xs) at d all =
            let same : x ≡ node = cc in
            let it = first-name names x xs all in
            ap (λ n. names_of names (arena.without n (x ∷ xs))) (sym same) ∙ (ap (names_of names) (without-first x xs d) ∙ sym (ap (drop 1) (head-named names x it.0 xs it.1)))

  pub none-first : slice_get (order rings) 0 ≡ None → names_of names (order rings) ≡ drop 1 (names_of names (order rings))
  none-first none = by-cases (order rings) none
    where
      by-cases : (xs : List ℕ) → slice_get xs 0 ≡ None → names_of names xs ≡ drop 1 (names_of names xs)
      by-cases [] at = refl
      by-cases (x ∷ xs) at = cc

  pub firsts : (nodes : List ℕ) (most : ℕ) → nodes ≡ take most (order rings) → map (name_at names) nodes ≡ map Some (take most (names_of names (order rings)))
  firsts nodes most e = ap (map (name_at names)) e ∙ first-names names (order rings) most is.named.named

  pub place-named : (i x : ℕ) → slice_get (order rings) i ≡ Some x → x < rings.nodes
  place-named i x at = let below = below-names names x (is.named.named x (in-at (order rings) i x at)) in let size = is.size in omega (arith, below, size)

  pub place-linked : (i x : ℕ) → slice_get (order rings) i ≡ Some x → is_linked x rings.lists ≡ true
  place-linked i x at = linked-in x ∙ in-at (order rings) i x at

  pub next-place : EachOnce rings.lists → (i x : ℕ) → slice_get (order rings) i ≡ Some x → next_of x rings.lists ≡ slice_get (order rings) (i + 1)
  next-place each i x at =
      ap (next_of x) is.one ∙ (ap (λ b. next_in x (unwrap_or (cond b (Some (order rings)) None) [])) (in-at (order rings) i x at)
      ∙ (next-at (order rings) i x (distinct each) at ∙ ap (slice_get (order rings)) (sym (add-one i))))

  -- ---- other records at nodes

  pub sound-names : (names' : List (Option RecordId)) → length names' ≡ length names → Apart names' → ((n : ℕ) → is_in n (order rings) ≡ true → name_at names' n ≡ name_at names n)
      → IsSound rings names' waiting
  sound-names names' size apart same =
      record {
        one = is.one;
        size = size ∙ is.size;
        fits = is.fits;
        long = is.long;
        named = record { named = λ n there. ap is_some (same n there) ∙ is.named.named n there; apart = apart };
      }

  module _ (r : RecordId) (node : ℕ) (takes : Takes names r node) where
    pub name-taken : (n : ℕ) → is_in n (order rings) ≡ true → name_at (slice_set names node (Some r)) n ≡ name_at names n
    name-taken n there =
        elim (cases_eq n node) [
          | inl same ↦
              let it = named-name names n (is.named.named n there) in
              let at : name_at names node ≡ Some it.0 = sym (ap (name_at names) same) ∙ it.1 in
              let own : it.0 ≡ r = takes.own it.0 at in
              ap (name_at (slice_set names node (Some r))) same ∙ (get_or-set_same names node (Some r) None takes.below ∙ sym (it.1 ∙ ap Some own))
          | inr other ↦ get_or-set_other names node n (Some r) None other
        ]

    pub apart-taken : Apart (slice_set names node (Some r))
    apart-taken i j q at-i at-j =
        elim (cases_eq i node) [
          | inl same ↦
              let q-is : Some r ≡ Some q = sym (get_or-set_same names node (Some r) None takes.below) ∙ (sym (ap (name_at (slice_set names node (Some r))) same) ∙ at-i) in
              let is-r : q ≡ r = cc in
              elim (cases_eq j node) [
                | inl same' ↦ same ∙ sym same'
                | inr other' ↦
                    let old : name_at names j ≡ Some r = sym (get_or-set_other names node j (Some r) None other') ∙ (at-j ∙ ap Some is-r) in
                    same ∙ sym (takes.once j old)
              ]
          | inr other ↦
              let old : name_at names i ≡ Some q = sym (get_or-set_other names node i (Some r) None other) ∙ at-i in
              elim (cases_eq j node) [
                | inl same' ↦
                    let q-is : Some r ≡ Some q = sym (get_or-set_same names node (Some r) None takes.below) ∙ (sym (ap (name_at (slice_set names node (Some r))) same') ∙ at-j) in
                    let is-r : q ≡ r = cc in
                    takes.once i (old ∙ ap Some is-r) ∙ sym same'
                | inr other' ↦ is.named.apart i j q old (sym (get_or-set_other names node j (Some r) None other') ∙ at-j)
              ]
        ]

    pub seen-taken : seen (slice_set names node (Some r)) rings ≡ record { names = slice_set names node (Some r); queue = names_of names (order rings) }
    seen-taken = ap (λ (rs : List RecordId). let w : Waiting = record { names = slice_set names node (Some r); queue = rs } in w) (names-same names (slice_set names node (Some r)) (order rings) name-taken)

  -- the node is free
  module _ (node : ℕ) (out : is_in node (order rings) ≡ false) where
    pub name-freed : (n : ℕ) → is_in n (order rings) ≡ true → name_at (slice_set names node None) n ≡ name_at names n
    name-freed n there =
        elim (cases_eq n node) [
          | inl same ↦ absurd (false≢true (sym out ∙ subst (λ (m : ℕ). is_in m (order rings) ≡ true) same there))
          | inr other ↦ get_or-set_other names node n None None other
        ]

    pub apart-freed : node < length names → Apart (slice_set names node None)
    apart-freed below i j q at-i at-j = is.named.apart i j q (was i at-i) (was j at-j)
      where
        was : (k : ℕ) → name_at (slice_set names node None) k ≡ Some q → name_at names k ≡ Some q
        was k at =
            elim (cases_eq k node) [
              | inl same ↦
                  let gone : None ≡ Some q = sym (get_or-set_same names node None None below) ∙ (sym (ap (name_at (slice_set names node None)) same) ∙ at) in
                  cc
              | inr other ↦ sym (get_or-set_other names node k None None other) ∙ at
            ]

    pub seen-freed : seen (slice_set names node None) rings ≡ record { names = slice_set names node None; queue = names_of names (order rings) }
    seen-freed = ap (λ (rs : List RecordId). let w : Waiting = record { names = slice_set names node None; queue = rs } in w) (names-same names (slice_set names node None) (order rings) name-freed)

-- a record that is taken out is in no queue
pub not-among : (r : RecordId) (queue : List RecordId) → is_among r (without r queue) ≡ false
not-among r [] = refl
not-among r (q ∷ queue) =
    elim (same_record r q) as (λ (b : Bool). same_record r q ≡ b → is_among r (cond (not b) (q ∷ without r queue) (without r queue)) ≡ false) [
      | true ↦ λ same. not-among r queue
      | false ↦ λ other. ap (λ b. b || is_among r (without r queue)) other ∙ not-among r queue
    ] refl

-- no node of a queue at first
pub sound-new : (rings : Lists) (names : List (Option RecordId)) (nodes : ℕ) → nodes < 4294967296 → names ≡ replicate nodes None → rings ≡ record { nodes = nodes; lists = [] ∷ [] } → IsSound rings names 0
sound-new rings names nodes fits none e =
    subst (λ (x : Lists). IsSound x names 0) (sym e)
    (record {
      one = refl;
      size = ap length none ∙ length-replicate nodes None;
      fits = fits;
      long = refl;
      named = record {
        named = λ n there. absurd (false≢true there);
        apart = λ i j r at-i at-j. let no : None ≡ Some r = sym (free i) ∙ at-i in cc;
      };
    })
  where
    use-free : (n i : ℕ) → name_at (replicate n None) i ≡ None
    use-free zero i = refl
    use-free (suc n) zero = refl
    use-free (suc n) (suc i) = use-free n i

    free : (i : ℕ) → name_at names i ≡ None
    free i = ap (λ (os : List (Option RecordId)). name_at os i) none ∙ use-free nodes i

-- what is known of a queue once the record at a node waits no more
pub freed : (rings : Lists) (names : List (Option RecordId)) (waiting : ℕ) → IsSound rings names waiting → (old : Waiting) (node : ℕ) → is_some (name_at old.names node) ≡ true → (new : Waiting)
    → ((r : RecordId) → name_at old.names node ≡ Some r → new ≡ taken_out r old) → seen names rings ≡ new
    → (names ≡ old.names) × (is_in node (order rings) ≡ false) × (node < length names)
freed rings names waiting is old node named new out view =
    let it = named-name old.names node named in
    let whole : seen names rings ≡ taken_out it.0 old = view ∙ out it.0 it.1 in
    let same : names ≡ old.names = ap (λ (w : Waiting). w.names) whole in
    let at : name_at names node ≡ Some it.0 = ap (λ ns. name_at ns node) same ∙ it.1 in (
      same,
      in-names names is.named.apart node it.0 at (order rings) ∙ (ap (λ (w : Waiting). is_among it.0 w.queue) whole ∙ not-among it.0 old.queue),
      below-names names node (ap (λ ns. is_some (name_at ns node)) same ∙ named),
    )
