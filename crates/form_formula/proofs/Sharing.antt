-- Equal nodes are the same.
use Rattle.std.proofs.Common.{◌≡◌, ℕ, ℤ, Bool, true, false, ◌&&◌, refl, sym, subst, ◌∙◌, List, [], ◌∷◌, ◌++◌, Some, length, take, ◌≤◌, length-append, cond, ap, rules, arith, slice_get}
use Rattle.std.specs.Prelude.{nat_eq}
use Rattle.std.specs.Option.{option_map}
use Rattle.std.specs.Ordering.{int_eq}
use Rattle.std.specs.List.{list_any}
use Rattle.std.specs.Cmp.Lexicographic.{pointwise}
use Rattle.std.proofs.lemmas.Bool.{eqb-true, and_parts, false_from_ne_true}
use Rattle.std.proofs.lemmas.Map.Views.{list_any-from_Contains}
use Rattle.indexmap.proofs.CallerLemmas.{Contains-list_any}
use Rattle.indexmap.specs.IndexSet.{insert_key}
use Rattle.std.proofs.Math.Seq.{take-append_seam}
use Rattle.form_formula.specs.Nodes.{tree_of, is_term, kind_at, trees_of, tree_from, IsPlaced, ArePlaced}
use Rattle.form_formula.proofs.TreeLemmas.{tree_of-front, tree_of-at, tree_from-front}
use Rattle.form_formula.specs.Added.{IsAdded}
use Rattle.form_formula.proofs.Placement.{placed_pushed, kind_front}
use Rattle.form_formula.specs.declared.node.Node.{Node}
use Rattle.form_formula.specs.declared.node.Node.TheVariants.{Bound, Num, Str, App, Yes, No, Eq, Less, Has, Flag, Present, Not, And, Or, Exists, Forall}
use Rattle.form_formula.specs.contracts.node.NodePartialEq.TheImpl as node_eq
use Rattle.form_formula.specs.contracts.node.NodeEq.TheImpl.Laws as laws
use Rattle.std.proofs.lemmas.Bool.Decides.{Decides-int_eq}

same_two : (f : ℕ → ℕ → Node) (a b c d : ℕ) → (nat_eq a c && nat_eq b d) ≡ true → f a b ≡ f c d
same_two f a b c d e =
    let p = and_parts (nat_eq a c) (nat_eq b d) e in
    let x = eqb-true a c p.0 in
    let y = eqb-true b d p.1 in cc

same_three : (f : ℕ → ℕ → ℕ → Node) (a b c x y z : ℕ) → (nat_eq a x && (nat_eq b y && nat_eq c z)) ≡ true → f a b c ≡ f x y z
same_three f a b c x y z e =
    let p = and_parts (nat_eq a x) (nat_eq b y && nat_eq c z) e in
    let q = same_two (λ b c. f a b c) b c y z p.1 in
    let h = eqb-true a x p.0 in cc

same_int : (a b : ℤ) → int_eq a b ≡ true → a ≡ b
same_int a b e = search (rules, Decides-int_eq)

same_text : (a b : List ℕ) → pointwise nat_eq a b ≡ true → a ≡ b
same_text a b e = search rules

-- nodes that are compared as equal are the same
pub same_node : (m n : Node) → (node_eq.ghosts).eq m n ≡ true → m ≡ n
same_node (Bound a b) (Bound c d) e = same_two (λ a b. Bound a b) a b c d e
same_node (Bound a b) n e = cc
same_node (Num a) (Num b) e = ap (λ n. Num n) (same_int a b e)
same_node (Num a) n e = cc
same_node (Str a) (Str b) e = ap (λ t. Str t) (same_text a b e)
same_node (Str a) n e = cc
same_node (App a b) (App c d) e = same_two (λ a b. App a b) a b c d e
same_node (App a b) n e = cc
same_node Yes Yes e = refl
same_node Yes n e = cc
same_node No No e = refl
same_node No n e = cc
same_node (Eq a b) (Eq c d) e = same_two (λ a b. Eq a b) a b c d e
same_node (Eq a b) n e = cc
same_node (Less a b) (Less c d) e = same_two (λ a b. Less a b) a b c d e
same_node (Less a b) n e = cc
same_node (Has a b c) (Has x y z) e = same_three (λ a b c. Has a b c) a b c x y z e
same_node (Has a b c) n e = cc
same_node (Flag a b) (Flag c d) e = same_two (λ a b. Flag a b) a b c d e
same_node (Flag a b) n e = cc
same_node (Present a b) (Present c d) e = same_two (λ a b. Present a b) a b c d e
same_node (Present a b) n e = cc
same_node (Not a) (Not b) e = ap (λ a. Not a) (eqb-true a b e)
same_node (Not a) n e = cc
same_node (And a b) (And c d) e = same_two (λ a b. And a b) a b c d e
same_node (And a b) n e = cc
same_node (Or a b) (Or c d) e = same_two (λ a b. Or a b) a b c d e
same_node (Or a b) n e = cc
same_node (Exists a b) (Exists c d) e = same_two (λ a b. Exists a b) a b c d e
same_node (Exists a b) n e = cc
same_node (Forall a b) (Forall c d) e = same_two (λ a b. Forall a b) a b c d e
same_node (Forall a b) n e = cc

-- an insertion adds one node or none
pub more_by_insert : (old : List Node) (node : Node) → (more : List Node) × (insert_key (node_eq.ghosts).eq old node ≡ old ++ more) × (length more ≤ 1)
more_by_insert old node =
    elim (list_any ((node_eq.ghosts).eq node) old) as (λ b. (more : List Node) × (cond b old (old ++ node ∷ []) ≡ old ++ more) × (length more ≤ 1)) [
      | true ↦ ([], search rules, omega arith)
      | false ↦ (node ∷ [], refl, omega arith)
    ]

pub placed_insert : (old : List Node) (node : Node) → ArePlaced old → IsPlaced old node → ArePlaced (insert_key (node_eq.ghosts).eq old node)
placed_insert old node all here =
    elim (list_any ((node_eq.ghosts).eq node) old) as (λ b. ArePlaced (cond b old (old ++ node ∷ []))) [
      | true ↦ all
      | false ↦ placed_pushed old node all here
    ]

-- the nodes after an insertion, where the number is that of an equal node
pub added_by : (old : List Node) (node : Node) (new : List Node) (id : ℕ) (k : Node)
    → ArePlaced old → IsPlaced old node
    → new ≡ insert_key (node_eq.ghosts).eq old node → slice_get new id ≡ Some k → (node_eq.ghosts).eq node k ≡ true → IsAdded old node new id
added_by old node new id k all here e at same =
    let P : Node → Type 0 = λ n. slice_get new id ≡ Some n in
    let answer : Bool = list_any ((node_eq.ghosts).eq node) old in
    let there : slice_get new id ≡ Some node = subst P (sym (same_node node k same)) at in
    let more = more_by_insert old node in
    let whole : new ≡ old ++ more.0 = e ∙ more.1 in
    let placed : ArePlaced new = let Q : List Node → Type 0 = λ nodes. ArePlaced nodes in subst Q (sym e) (placed_insert old node all here) in
    record {
      there = there;
      shared = λ has. e ∙ ap (λ b. cond b old (old ++ node ∷ [])) (list_any-from_Contains laws.laws-law node old has);
      fresh = λ lacks. e ∙ ap (λ b. cond b old (old ++ node ∷ [])) (false_from_ne_true answer (λ h. lacks (Contains-list_any (node_eq.ghosts).eq same_node old node h)));
      kept = ap (λ xs. take (length old) xs) whole ∙ take-append_seam old more.0;
      one_more = omega (arith, ap length whole, length-append old more.0, more.2);
      means = tree_of-at new id node placed there ∙ (ap (λ xs. tree_from (trees_of xs) node) whole ∙ tree_from-front old more.0 node here);
      kind = ap (λ o. option_map is_term o) there;
      kept_kinds = λ k b h. ap (λ xs. kind_at xs k) whole ∙ kind_front old more.0 k b h;
      kept_trees = λ k within. ap (λ xs. tree_of xs k) whole ∙ tree_of-front old more.0 k within;
    }
