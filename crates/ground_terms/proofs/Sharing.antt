-- Equal nodes are the same, and have one number.
use Rattle.std.proofs.Common.{◌≡◌, ℕ, Bool, true, false, ◌&&◌, refl, sym, subst, ◌∙◌, List, [], ◌∷◌, ◌++◌, Some, length, ◌≤◌, inl, inr, cond, ap, rules, arith, slice_get, Contains}
use Rattle.std.specs.Prelude.{nat_eq}
use Rattle.std.specs.Option.{option_map}
use Rattle.std.specs.List.{list_any}
use Rattle.std.proofs.lemmas.Bool.{eqb-true, and_parts}
use Rattle.std.proofs.lemmas.Map.Views.{list_any-from_Contains}
use Rattle.std.proofs.lemmas.Option.{slice_get_within, get_or_from_slice_get}
use Rattle.indexmap.specs.IndexSet.{insert_key}
use Rattle.form_formula.proofs.Placement.{slice_get_pushed}
use Rattle.ground_terms.specs.Nodes.{is_one, trees_of, tree_from, IsPlaced, ArePlaced, AreOnce, IsAdded}
use Rattle.ground_terms.proofs.TreeLemmas.{tree_of-at, tree_from-front}
use Rattle.ground_terms.proofs.Placement.{placed_pushed}
use Rattle.ground_terms.specs.declared.node.TermNode.{TermNode}
use Rattle.ground_terms.specs.declared.node.TermNode.TheVariants.{Constant, Skolem, Field, Empty, Cons}
use Rattle.ground_terms.specs.contracts.node.TermNodePartialEq.TheImpl as node_eq
use Rattle.ground_terms.specs.contracts.node.TermNodeEq.TheImpl.Laws as laws

same_two : (f : ℕ → ℕ → TermNode) (a b c d : ℕ) → (nat_eq a c && nat_eq b d) ≡ true → f a b ≡ f c d
same_two f a b c d e =
    let p = and_parts (nat_eq a c) (nat_eq b d) e in
    let x = eqb-true a c p.0 in
    let y = eqb-true b d p.1 in cc

same_three : (f : ℕ → ℕ → ℕ → TermNode) (a b c x y z : ℕ) → (nat_eq a x && (nat_eq b y && nat_eq c z)) ≡ true → f a b c ≡ f x y z
same_three f a b c x y z e =
    let p = and_parts (nat_eq a x) (nat_eq b y && nat_eq c z) e in
    let q = same_two (λ b c. f a b c) b c y z p.1 in
    let h = eqb-true a x p.0 in cc

-- nodes that are compared as equal are the same
pub same_node : (m n : TermNode) → (node_eq.ghosts).eq m n ≡ true → m ≡ n
same_node (Constant a) (Constant b) e = ap (λ a. Constant a) (eqb-true a b e)
same_node (Constant a) n e = cc
same_node (Skolem a b c) (Skolem x y z) e = same_three (λ a b c. Skolem a b c) a b c x y z e
same_node (Skolem a b c) n e = cc
same_node (Field a b) (Field c d) e = same_two (λ a b. Field a b) a b c d e
same_node (Field a b) n e = cc
same_node Empty Empty e = refl
same_node Empty n e = cc
same_node (Cons a b) (Cons c d) e = same_two (λ a b. Cons a b) a b c d e
same_node (Cons a b) n e = cc

-- an insertion adds one node or none
pub more_by_insert : (old : List TermNode) (node : TermNode) → (more : List TermNode) × (insert_key (node_eq.ghosts).eq old node ≡ old ++ more) × (length more ≤ 1)
more_by_insert old node =
    elim (list_any ((node_eq.ghosts).eq node) old) as (λ b. (more : List TermNode) × (cond b old (old ++ node ∷ []) ≡ old ++ more) × (length more ≤ 1)) [
      | true ↦ ([], search rules, omega arith)
      | false ↦ (node ∷ [], refl, omega arith)
    ]

pub placed_insert : (old : List TermNode) (node : TermNode) → ArePlaced old → IsPlaced old node → ArePlaced (insert_key (node_eq.ghosts).eq old node)
placed_insert old node all here =
    elim (list_any ((node_eq.ghosts).eq node) old) as (λ b. ArePlaced (cond b old (old ++ node ∷ []))) [
      | true ↦ all
      | false ↦ placed_pushed old node all here
    ]

at_Contains : (nodes : List TermNode) (i : ℕ) (n : TermNode) → slice_get nodes i ≡ Some n → Contains nodes n
at_Contains nodes i n e = (i, omega (arith, slice_get_within nodes i n e), get_or_from_slice_get nodes i n n e)

once_pushed : (old : List TermNode) (node : TermNode) → AreOnce old → (Contains old node → ⊥) → AreOnce (old ++ node ∷ [])
once_pushed old node once lacks i j n a b =
    elim (slice_get_pushed old node i n a) [
      | inl p ↦ elim (slice_get_pushed old node j n b) [
        | inl q ↦ once i j n p q
        | inr q ↦ let P : TermNode → Type 0 = λ n. Contains old n in absurd (lacks (subst P (sym q.1) (at_Contains old i n p)))
      ]
      | inr p ↦ elim (slice_get_pushed old node j n b) [
        | inl q ↦ let P : TermNode → Type 0 = λ n. Contains old n in absurd (lacks (subst P (sym p.1) (at_Contains old j n q)))
        | inr q ↦ p.0 ∙ sym q.0
      ]
    ]

pub once_insert : (old : List TermNode) (node : TermNode) → AreOnce old → AreOnce (insert_key (node_eq.ghosts).eq old node)
once_insert old node once = choose (list_any ((node_eq.ghosts).eq node) old) refl
  where
    choose : (b : Bool) → list_any ((node_eq.ghosts).eq node) old ≡ b → AreOnce (cond b old (old ++ node ∷ []))
    choose true e = once
    choose false e =
        once_pushed old node once (λ has. let no : true ≡ false = sym (list_any-from_Contains laws.laws-law node old has) ∙ e in cc)

-- the nodes after an insertion, where the number is that of an equal node
pub added_by : (old : List TermNode) (node : TermNode) (new : List TermNode) (id : ℕ) (k : TermNode)
    → ArePlaced old → IsPlaced old node
    → new ≡ insert_key (node_eq.ghosts).eq old node → slice_get new id ≡ Some k → (node_eq.ghosts).eq node k ≡ true → IsAdded old node new id
added_by old node new id k all here e at same =
    let P : TermNode → Type 0 = λ n. slice_get new id ≡ Some n in
    let there : slice_get new id ≡ Some node = subst P (sym (same_node node k same)) at in
    let more = more_by_insert old node in
    let whole : new ≡ old ++ more.0 = e ∙ more.1 in
    let placed : ArePlaced new = let Q : List TermNode → Type 0 = λ nodes. ArePlaced nodes in subst Q (sym e) (placed_insert old node all here) in
    record {
      there = there;
      kept = record { more = more.0; whole = whole };
      means = tree_of-at new id node placed there ∙ (ap (λ xs. tree_from (trees_of xs) node) whole ∙ tree_from-front old more.0 node here);
      kind = ap (λ o. option_map is_one o) there;
    }
