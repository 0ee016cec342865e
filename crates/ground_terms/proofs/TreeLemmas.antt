-- What numbers stand for in longer lists of nodes.
use Rattle.std.proofs.Common.{◌≡◌, ℕ, suc, zero, ◌<◌, true, false, refl, sym, ◌∙◌, List, [], ◌∷◌, ◌++◌, Some, length, take, drop, get_or, ap, rules, arith, length-append, append_assoc}
use Rattle.std.specs.Prelude.{slice_get, fold}
use Rattle.std.proofs.lemmas.List.Sums.{fold-append}
use Rattle.std.proofs.lemmas.List.{get_or_append_left}
use Rattle.std.proofs.lemmas.Option.{same_Some}
use Rattle.std.proofs.Math.Seq.{get_or-append_seam}
use Rattle.form_terms.specs.GroundTerms.{skolem, field, no_terms}
use Rattle.ground_terms.specs.declared.node.TermNode.{TermNode}
use Rattle.ground_terms.specs.declared.node.TermNode.TheVariants.{Constant, Skolem, Field, Empty, Cons}
use Rattle.ground_terms.specs.Nodes.{TermTree, one, some, term_part, list_part, tree_from, trees_of, tree_of, IsPlaced, ArePlaced}
use Rattle.ground_terms.proofs.Placement.{kind_within, length-take_within}

-- nodes only add trees
grown : (ts : List TermTree) (ys : List TermNode) → (more : List TermTree) × (fold (λ trees node. trees ++ tree_from trees node ∷ []) ts ys ≡ ts ++ more) × (length more ≡ length ys)
grown ts [] = ([], search rules, refl)
grown ts (y ∷ ys) =
    let later = grown (ts ++ tree_from ts y ∷ []) ys in
    (tree_from ts y ∷ later.0, later.1 ∙ append_assoc ts (tree_from ts y ∷ []) later.0, omega (arith, later.2))

pub more_trees : (xs ys : List TermNode) → (more : List TermTree) × (trees_of (xs ++ ys) ≡ trees_of xs ++ more) × (length more ≡ length ys)
unfolding trees_of
more_trees xs ys =
    let later = grown (trees_of xs) ys in
    (later.0, fold-append (λ trees node. trees ++ tree_from trees node ∷ []) [] xs ys ∙ later.1, later.2)

pub length-trees_of : (xs : List TermNode) → length (trees_of xs) ≡ length xs
unfolding trees_of
length-trees_of xs = let all = grown [] xs in ap length all.1 ∙ all.2

-- a node that goes last
pub trees_of-push : (xs : List TermNode) (n : TermNode) → trees_of (xs ++ n ∷ []) ≡ trees_of xs ++ tree_from (trees_of xs) n ∷ []
unfolding trees_of
trees_of-push xs n = fold-append (λ trees node. trees ++ tree_from trees node ∷ []) [] xs (n ∷ [])

-- a number stands in a longer list for what it stood for
pub tree_of-front : (xs ys : List TermNode) (id : ℕ) → id < length xs → tree_of (xs ++ ys) id ≡ tree_of xs id
tree_of-front xs ys id within =
    let later = more_trees xs ys in
    let short : id < length (trees_of xs) = omega (arith, length-trees_of xs) in
    ap (λ ts. get_or ts id (some no_terms)) later.1 ∙ get_or_append_left (trees_of xs) later.0 (some no_terms) id short

-- and so does a node whose parts are there
pub tree_from-front : (xs ys : List TermNode) (n : TermNode) → IsPlaced xs n → tree_from (trees_of (xs ++ ys)) n ≡ tree_from (trees_of xs) n
tree_from-front xs ys (Constant sort) h = refl
tree_from-front xs ys (Skolem n sort ts) h = ap (λ t. one (skolem n sort (list_part t))) (tree_of-front xs ys ts (kind_within xs ts false h))
tree_from-front xs ys (Field f t) h = ap (λ t. one (field f (term_part t))) (tree_of-front xs ys t (kind_within xs t true h))
tree_from-front xs ys Empty h = refl
tree_from-front xs ys (Cons t ts) h =
    let p = tree_of-front xs ys t (kind_within xs t true h.0) in
    let q = tree_of-front xs ys ts (kind_within xs ts false h.1) in cc

-- the number of a node stands for what the node names
split_at : (nodes : List TermNode) (id : ℕ) (n : TermNode) → slice_get nodes id ≡ Some n → nodes ≡ take id nodes ++ n ∷ drop (suc id) nodes
split_at [] id n e = cc
split_at (m ∷ nodes) zero n e = ap (λ x. x ∷ nodes) (same_Some m n e)
split_at (m ∷ nodes) (suc id) n e = ap (λ xs. m ∷ xs) (split_at nodes id n e)

pub tree_of-at : (nodes : List TermNode) (id : ℕ) (n : TermNode) → ArePlaced nodes → slice_get nodes id ≡ Some n → tree_of nodes id ≡ tree_from (trees_of nodes) n
tree_of-at nodes id n all e =
    let front : List TermNode = take id nodes in
    let rest : List TermNode = drop (suc id) nodes in
    let whole : nodes ≡ (front ++ n ∷ []) ++ rest = split_at nodes id n e ∙ sym (append_assoc front (n ∷ []) rest) in
    let apart : nodes ≡ front ++ n ∷ rest = split_at nodes id n e in
    let size : length front ≡ id = length-take_within nodes id n e in
    let last : tree_of (front ++ n ∷ []) id ≡ tree_from (trees_of front) n =
    ap (λ ts. get_or ts id (some no_terms)) (trees_of-push front n)
    ∙ (ap (λ i. get_or (trees_of front ++ tree_from (trees_of front) n ∷ []) i (some no_terms)) (sym (length-trees_of front ∙ size))
    ∙ get_or-append_seam (trees_of front) (tree_from (trees_of front) n) [] (some no_terms)) in
    let within : id < length (front ++ n ∷ []) = omega (arith, length-append front (n ∷ [])) in
    ap (λ xs. tree_of xs id) whole ∙ (tree_of-front (front ++ n ∷ []) rest id within
    ∙ (last ∙ (sym (tree_from-front front (n ∷ rest) n (all id n e)) ∙ ap (λ xs. tree_from (trees_of xs) n) (sym apart))))
