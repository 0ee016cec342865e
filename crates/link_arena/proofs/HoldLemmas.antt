-- Each call keeps lists held, and reads them.
use Rattle.std.proofs.Common.{◌≡◌, ℕ, zero, suc, ◌+◌, ◌<◌, ◌≤◌, true, false, not, List, [], ◌∷◌, length, get_or, replicate, None, Some, nat_eq, nat_lt, cond, refl, sym, ap, ◌∙◌, inl, inr, subst, arith, length-set}
use Rattle.std.proofs.lemmas.List.{length-map, length-replicate}
use Rattle.std.proofs.lemmas.Bool.{cases_eq, cases_Bool, eq-eqb, ne_eqb}
use Rattle.std.proofs.lemmas.List.Edits.{Swapped, swapped_from_swap, length-swap}
use Rattle.std.specs.List.{slice_get, swap}
use Rattle.link_arena.specs.Lists.{EachOnce, list_at, is_linked, pushed, unlinked, next_of}
use Rattle.link_arena.specs.Links.{IsInjective}
use Rattle.link_arena.specs.Rings.{Leads, AreRings, Hold, rings, AreSound}
use Rattle.link_arena.proofs.LeadsLemmas.{Leads-first}
use Rattle.link_arena.proofs.LinkedLemmas.{InSome, InSome-from_is_linked, is_linked_not, InSome_not, InSome-unlinked, InSome-pushed, InSome-pushed_same}
use Rattle.link_arena.proofs.RingsLemmas.{rings-from_AreRings, AreRings-moves, EachOnce-from_AreRings, AreRings-next_of}
use Rattle.link_arena.proofs.SpliceLemmas.{AreRings-unlinked, AreRings-pushed}

-- the ring of one list
pub AreRings-at : (nodes : ℕ) (next : List ℕ) (at : ℕ) (lists : List (List ℕ)) (list : ℕ) → list < length lists → AreRings nodes next at lists → Leads nodes next (at + list) (list_at lists list) (at + list)
unfolding AreRings
AreRings-at nodes next at [] list list_in h = absurd (omega arith)
AreRings-at nodes next at (first ∷ lists) zero list_in h = let same : at ≡ at + 0 = omega arith in subst (λ k. Leads nodes next k first k) same h.0
AreRings-at nodes next at (first ∷ lists) (suc list) list_in h =
    let same : suc at + list ≡ at + suc list = omega arith in
    subst (λ k. Leads nodes next k (list_at lists list) k) same (AreRings-at nodes next (suc at) lists list (omega arith) h.1)

module _ (nodes : ℕ) (next : List ℕ) (lists : List (List ℕ)) (h : Hold nodes next lists) where
  fits : nodes ≤ length next
  fits = omega (arith, h.size)

  -- the lists are what the rings hold
  pub Hold-rings : rings (length lists) nodes next nodes ≡ lists
  Hold-rings = rings-from_AreRings nodes next h.injective fits nodes lists (omega arith) (omega (arith, h.size)) h.are_rings

  pub Hold-each_once : EachOnce lists
  Hold-each_once = EachOnce-from_AreRings nodes next h.injective fits nodes lists (omega arith) (omega (arith, h.size)) h.are_rings

  -- a node is in some list exactly where it is not its own next
  pub Hold-is_linked : (x : ℕ) → x < nodes → not (nat_eq (get_or next x 0) x) ≡ is_linked x lists
  Hold-is_linked x x_in =
      elim (cases_Bool (is_linked x lists)) [
        | inl found ↦ ap not (ne_eqb _ _ (AreRings-moves nodes next h.injective fits nodes lists x (omega arith) (omega (arith, h.size)) x_in h.are_rings (InSome-from_is_linked x lists found))) ∙ sym found
        | inr missing ↦ ap not (eq-eqb _ _ (h.alone x x_in missing)) ∙ sym missing
      ]

  pub Hold-first : (list : ℕ) → list < length lists → cond (nat_lt (get_or next (nodes + list) 0) nodes) (Some (get_or next (nodes + list) 0)) None ≡ slice_get (list_at lists list) 0
  Hold-first list list_in = Leads-first nodes next (nodes + list) (list_at lists list) (nodes + list) (omega arith) (AreRings-at nodes next nodes lists list list_in h.are_rings)

  pub Hold-next : (x : ℕ) → is_linked x lists ≡ true → cond (nat_lt (get_or next x 0) nodes) (Some (get_or next x 0)) None ≡ next_of x lists
  Hold-next x linked = AreRings-next_of nodes next h.injective fits nodes lists x (omega arith) h.are_rings (InSome-from_is_linked x lists linked)

  module _ (p x : ℕ) (p_in : p < length next) (x_in : x < nodes) (injective : IsInjective (swap next p x)) where
    swapped : Swapped (λ i. get_or next i 0) (λ i. get_or (swap next p x) i 0) p x
    swapped = swapped_from_swap next (swap next p x) p x 0 p_in (omega (arith, fits)) refl

    -- next was exchanged at a linked node and the one before it
    pub Hold-unlinked : get_or next p 0 ≡ x → is_linked x lists ≡ true → Hold nodes (swap next p x) (unlinked x lists)
    Hold-unlinked before_x linked =
        let moves = AreRings-moves nodes next h.injective fits nodes lists x (omega arith) (omega (arith, h.size)) x_in h.are_rings (InSome-from_is_linked x lists linked) in
        let apart : p ≡ x → ⊥ = λ e. moves (sym (ap (λ k. get_or next k 0) e) ∙ before_x) in
        record {
          size = length-swap next p x ∙ h.size ∙ ap (λ k. nodes + k) (sym (length-map lists _));
          injective = injective;
          are_rings = AreRings-unlinked nodes next (swap next p x) p x swapped before_x apart h.injective fits p_in nodes lists x_in (omega arith) (omega (arith, h.size)) h.are_rings;
          alone = λ y y_in out.
              elim (cases_eq y x) [
                | inl same ↦ ap (λ k. get_or (swap next p x) k 0) same ∙ swapped.1 ∙ before_x ∙ sym same
                | inr other ↦
                    let free : get_or next y 0 ≡ y = h.alone y y_in (is_linked_not y lists (λ there. InSome_not y (unlinked x lists) out (InSome-unlinked y x lists other there))) in
                    swapped.2 y (λ e. other (sym free ∙ ap (λ k. get_or next k 0) e ∙ before_x)) other ∙ free
              ];
        }

    -- next was exchanged at a node in no list and the last of a list
    pub Hold-pushed : (list : ℕ) → list < length lists → get_or next p 0 ≡ nodes + list → is_linked x lists ≡ false → Hold nodes (swap next p x) (pushed list x lists)
    Hold-pushed list list_in before_end no_list =
        let free : get_or next x 0 ≡ x = h.alone x x_in no_list in
        record {
          size = length-swap next p x ∙ h.size ∙ ap (λ k. nodes + k) (sym (length-set lists list _));
          injective = injective;
          are_rings = AreRings-pushed nodes next (swap next p x) p x swapped (nodes + list) before_end free h.injective fits x_in (omega arith) nodes list lists (omega arith) refl list_in (omega (arith, h.size)) p_in h.are_rings;
          alone = λ y y_in out.
              let others : get_or next y 0 ≡ y = h.alone y y_in (is_linked_not y lists (λ there. InSome_not y (pushed list x lists) out (InSome-pushed y x list lists there))) in
              let not_x : y ≡ x → ⊥ = λ e. InSome_not y (pushed list x lists) out (subst (λ k. InSome k (pushed list x lists)) (sym e) (InSome-pushed_same x list lists list_in)) in
              swapped.2 y (λ e. absurd (omega (arith, ap (λ k. get_or next k 0) e ∙ before_end))) not_x ∙ others;
        }

-- rings of one number each hold empty lists
AreRings-empty : (nodes : ℕ) (next : List ℕ) (at count : ℕ) → ((i : ℕ) → i < length next → get_or next i 0 ≡ i) → at + count ≤ length next → AreRings nodes next at (replicate count [])
unfolding AreRings Leads
AreRings-empty nodes next at zero own room = tt
AreRings-empty nodes next at (suc count) own room = (own at (omega arith), AreRings-empty nodes next (suc at) count own (omega arith))

pub Hold-empty : (nodes count : ℕ) (next : List ℕ) → length next ≡ nodes + count → ((i : ℕ) → i < length next → get_or next i 0 ≡ i) → Hold nodes next (replicate count [])
Hold-empty nodes count next size own = record {
  size = size ∙ ap (λ k. nodes + k) (sym (length-replicate count _));
  injective = λ i j i_in j_in same. sym (own i i_in) ∙ same ∙ own j j_in;
  are_rings = AreRings-empty nodes next nodes count own (omega (arith, size));
  alone = λ x x_in out. own x (omega (arith, size));
}

-- rings that hold these lists have them as their value, and are sound
pub AreSound-held : (nodes count : ℕ) (next : List ℕ) (lists : List (List ℕ)) → nodes < 4294967296 → count < 4294967296 → length lists ≡ count → Hold nodes next lists
    → (rings count nodes next nodes ≡ lists) × AreSound nodes count next
AreSound-held nodes count next lists nodes_fit count_fit size h =
    let held : rings count nodes next nodes ≡ lists = ap (λ k. rings k nodes next nodes) (sym size) ∙ Hold-rings nodes next lists h in (
      held,
      record {
        hold = subst (λ l. Hold nodes next l) (sym held) h;
        count = ap length held ∙ size;
        nodes_fit = nodes_fit;
        lists_fit = count_fit;
      },
    )

module _ (nodes count : ℕ) (next after : List ℕ) (p x : ℕ) (sound : AreSound nodes count next) (p_in : p < length next) (x_in : x < nodes) (exchanged : after ≡ swap next p x) (injective : IsInjective after) where
  pub AreSound-unlinked : get_or next p 0 ≡ x → is_linked x (rings count nodes next nodes) ≡ true
      → (rings count nodes after nodes ≡ unlinked x (rings count nodes next nodes)) × AreSound nodes count after
  AreSound-unlinked before_x linked =
      let lists = rings count nodes next nodes in
      AreSound-held nodes count after (unlinked x lists) sound.nodes_fit sound.lists_fit (length-map lists _ ∙ sound.count)
      (subst (λ l. Hold nodes l (unlinked x lists)) (sym exchanged)
      (Hold-unlinked nodes next lists sound.hold p x p_in x_in (subst IsInjective exchanged injective) before_x linked))

  pub AreSound-pushed : (list : ℕ) → list < count → get_or next p 0 ≡ nodes + list → is_linked x (rings count nodes next nodes) ≡ false
      → (rings count nodes after nodes ≡ pushed list x (rings count nodes next nodes)) × AreSound nodes count after
  AreSound-pushed list list_in before_end no_list =
      let lists = rings count nodes next nodes in
      AreSound-held nodes count after (pushed list x lists) sound.nodes_fit sound.lists_fit (length-set lists list _ ∙ sound.count)
      (subst (λ l. Hold nodes l (pushed list x lists)) (sym exchanged)
      (Hold-pushed nodes next lists sound.hold p x p_in x_in (subst IsInjective exchanged injective) list (omega (arith, sound.count)) before_end no_list))

-- rings of one number each
pub AreSound-empty : (nodes count : ℕ) (next : List ℕ) → nodes < 4294967296 → count < 4294967296 → length next ≡ nodes + count → ((i : ℕ) → i < length next → get_or next i 0 ≡ i)
    → (rings count nodes next nodes ≡ replicate count []) × AreSound nodes count next
AreSound-empty nodes count next nodes_fit count_fit size own =
    AreSound-held nodes count next (replicate count []) nodes_fit count_fit (length-replicate count _) (Hold-empty nodes count next size own)
