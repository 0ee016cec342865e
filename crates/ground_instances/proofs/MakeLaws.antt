-- Gates of parts, from the gates of what they are made of.
use Rattle.std.proofs.Common.{◌≡◌, ℕ, ◌+◌, ◌<◌, Bool, true, false, not, ◌&&◌, ◌||◌, cond, refl, sym, ◌∙◌, List, [], ◌∷◌, ◌++◌, Option, Some, None, length, get_or, take, ap}
use Rattle.std.specs.List.{list_all}
use Rattle.form_formula.specs.declared.node.Node.{Node}
use Rattle.form_formula.specs.declared.node.Node.TheVariants as node
use Rattle.form_formula.specs.declared.structure.Signature.{Signature}
use Rattle.form_formula.specs.Nodes.{formula_part, tree_from, trees_of}
use Rattle.form_formula.specs.Trees.{Formula}
use Rattle.form_terms.specs.GroundTerms.{GroundTerm, skolem, and_last}
use Rattle.form_terms.specs.Parts.{quantifiers}
use Rattle.ground_terms.specs.declared.node.TermNode.{TermNode}
use Rattle.ground_terms.specs.declared.node.TermNode.TheVariants.{Skolem}
use Rattle.ground_terms.specs.Nodes.{Extends, IsAdded, IsOne, term_part, term_of, list_of as list_at}
use Rattle.ground_terms.specs.Standing.{AreOnes, terms_at}
use Rattle.ground_terms.proofs.Standing.{terms_kept, term_kept, map-append, map_next}
use Rattle.ground_instances.specs.declared.shapes.Shape.{Shape}
use Rattle.ground_instances.specs.declared.input.Input.{Input as AnInput}
use Rattle.ground_instances.specs.declared.input.Input.TheVariants.{There}
use Rattle.ground_instances.specs.declared.work.Work.{Work}
use Rattle.ground_instances.specs.Boards.{Grows, Means}
use Rattle.ground_instances.specs.GroundAtoms.{GroundAtom, holds_at}
use Rattle.ground_instances.specs.Inputs.{HasInput, input_value}
use Rattle.ground_instances.specs.Instances.{from_list, part_test, one_test, each_test, signed_test, IsReady, IsGate, IsJoined, IsThere}
use Rattle.ground_instances.specs.Lists.{IsListOf}
use Rattle.ground_instances.specs.Readings.{reading}
use Rattle.ground_instances.proofs.BoardLaws.{grows_both, means_same}
use Rattle.ground_instances.proofs.InstanceLaws.{from_list-list_of, from_list-last, test_kept, ready_later, may_later, may_same, may_there, joined}

abbrev Test : Type 0
Test = (GroundTerm → Bool) → (GroundAtom → Bool) → Bool

pub ones_append : (nodes : List TermNode) (xs ys : List ℕ) → AreOnes nodes xs → AreOnes nodes ys → AreOnes nodes (xs ++ ys)
ones_append nodes [] ys p q = q
ones_append nodes (x ∷ xs) ys p q = (p.0, ones_append nodes xs ys p.1 q)

list_all-append : {A : Type 0} (p : A → Bool) (xs ys : List A) → list_all p (xs ++ ys) ≡ (list_all p xs && list_all p ys)
list_all-append p [] ys = refl
list_all-append p (x ∷ xs) ys = ap (λ b. p x && b) (list_all-append p xs ys) ∙ assoc (p x) (list_all p xs) (list_all p ys)
  where
    assoc : (a b c : Bool) → (a && (b && c)) ≡ ((a && b) && c)
    assoc true b c = refl
    assoc false b c = refl

and_true : (a : Bool) → (a && true) ≡ a
and_true true = refl
and_true false = refl

module _ (g : Signature) (nodes : List Node) (shapes : List Shape) (listed : List ℕ) where
  abbrev G : Work → Work → Test → Option ℕ → Type 0
  G old new test found = IsGate g nodes shapes listed old new test found

  -- a gate that was made at once
  pub one_made : (w n : Work) (test : Test) (gate : ℕ) → IsReady g nodes shapes listed w → Grows w.board n.board → n.memo.made.entries ≡ w.memo.made.entries → n.missing.items ≡ w.missing.items → Means nodes n.board test gate
      → G w n test (Some gate)
  one_made w n test gate ready grows m e means = record { ready = ready_later g nodes shapes listed w n grows m e ready; grows = grows; means = means }

  -- the first of two gates is still there
  pub first_there : (m1 m2 : Work) (p q : Test) (w : Work) (left right : Option ℕ) → G w m1 p left → G m1 m2 q right → IsThere m2.board left
  first_there m1 m2 p q w left right l r = may_there g nodes shapes listed m2.board p left (may_later g nodes shapes listed m1.board m2.board p left r.grows l.means)

  pub found_there : (w m : Work) (p : Test) (o : Option ℕ) → G w m p o → IsThere m.board o
  found_there w m p o h = may_there g nodes shapes listed m.board p o h.means

  -- a connective, whose right part came first
  pub two_gates : (op : Bool → Bool → Bool) (w m1 m2 n : Work) (variables arguments : List ℕ) (number number' : ℕ) (a b : Formula) (left right found : Option ℕ) → IsReady g nodes shapes listed w
      → AreOnes w.board.terms variables → AreOnes w.board.terms arguments → number' ≡ number + quantifiers a
      → G w m1 (part_test g w.board.terms listed number' variables arguments b) right → G m1 m2 (part_test g m1.board.terms listed number variables arguments a) left
      → IsJoined m2.board n.board op left right found → n.memo.made.entries ≡ m2.memo.made.entries → n.missing.items ≡ m2.missing.items
      → G w n (λ i h. op (part_test g w.board.terms listed number variables arguments a i h) (part_test g w.board.terms listed (number + quantifiers a) variables arguments b i h)) found
  two_gates op w m1 m2 n variables arguments number number' a b left right found ready v u e r l j m is =
      let p : Test = part_test g w.board.terms listed number variables arguments a in
      let q : Test = part_test g w.board.terms listed (number + quantifiers a) variables arguments b in
      let p' : Test = part_test g m1.board.terms listed number variables arguments a in
      let q' : Test = part_test g w.board.terms listed number' variables arguments b in
      let left_same : (i : GroundTerm → Bool) (h : GroundAtom → Bool) → p' i h ≡ p i h =
      λ i h. test_kept g w.board.terms m1.board.terms listed number variables arguments a r.grows.terms ready.ones v u i h in
      let right_same : (i : GroundTerm → Bool) (h : GroundAtom → Bool) → q' i h ≡ q i h =
      λ i h. ap (λ k. part_test g w.board.terms listed k variables arguments b i h) e in
      joined g nodes shapes listed op p q (λ i h. op (p i h) (q i h)) w m2 n left right found (grows_both w.board m1.board m2.board r.grows l.grows) l.ready
      (may_same g nodes shapes listed m2.board p' p left left_same l.means)
      (may_later g nodes shapes listed m1.board m2.board q right l.grows (may_same g nodes shapes listed m1.board q' q right right_same r.means)) j m is (λ i h. refl)

  -- terms at one more number
  terms_more : (xs ys : List TermNode) (ids : List ℕ) (t : ℕ) (u : GroundTerm) → Extends xs ys → AreOnes xs ids → term_of ys t ≡ u → terms_at ys (ids ++ t ∷ []) ≡ terms_at xs ids ++ u ∷ []
  terms_more xs ys ids t u e ones is =
      map-append (term_of ys) ids (t ∷ []) ∙ (ap (λ ts. ts ++ term_of ys t ∷ []) (terms_kept xs ys ids e ones) ∙ ap (λ v. terms_at xs ids ++ v ∷ []) is)

  -- the term of an `exists`
  pub skolem_is : (xs ys zs : List TermNode) (arguments : List ℕ) (list number sort t : ℕ) → IsListOf (terms_at xs arguments) xs ys list → IsAdded ys (Skolem number sort list) zs t
      → term_of zs t ≡ skolem number sort (from_list (terms_at xs arguments))
  skolem_is xs ys zs arguments list number sort t l added =
      ap term_part added.means ∙ ap (skolem number sort) (sym (from_list-list_of (list_at ys list)) ∙ ap from_list l.are)

  pub exists_gate : (w m1 m2 m3 n : Work) (variables more arguments : List ℕ) (number number' t there : ℕ) (u : GroundTerm) (a : Formula) (body found : Option ℕ) → IsReady g nodes shapes listed w
      → AreOnes w.board.terms variables → AreOnes w.board.terms arguments → number' ≡ number + 1 → more ≡ variables ++ t ∷ [] → Grows w.board m1.board → IsOne m1.board.terms t → term_of m1.board.terms t ≡ u
      → G m1 m2 (part_test g m1.board.terms listed number' more arguments a) body → Grows m2.board m3.board
      → Means nodes m3.board (λ i h. cond true (input_value nodes m2.board.terms i h (There t)) (not (input_value nodes m2.board.terms i h (There t)))) there
      → m3.memo.made.entries ≡ m2.memo.made.entries → m3.missing.items ≡ m2.missing.items
      → IsJoined m3.board n.board (λ b c. b && c) (Some there) body found → n.memo.made.entries ≡ m3.memo.made.entries → n.missing.items ≡ m3.missing.items
      → G w n (λ i h. i u && reading g (terms_at w.board.terms listed) i h (number + 1) (terms_at w.board.terms variables ++ u ∷ []) (from_list (terms_at w.board.terms arguments)) a) found
  exists_gate w m1 m2 m3 n variables more arguments number number' t there u a body found ready v r e long first one is b grows means m k j m' k' =
      let p : Test = λ i h. i u in
      let q : Test = λ i h. reading g (terms_at w.board.terms listed) i h (number + 1) (terms_at w.board.terms variables ++ u ∷ []) (from_list (terms_at w.board.terms arguments)) a in
      let q' : Test = part_test g m1.board.terms listed number' more arguments a in
      let same : (i : GroundTerm → Bool) (h : GroundAtom → Bool) → q' i h ≡ q i h = λ i h.
      ap (λ ts. reading g ts i h number' (terms_at m1.board.terms more) (from_list (terms_at m1.board.terms arguments)) a) (terms_kept w.board.terms m1.board.terms listed first.terms ready.ones)
      ∙ (ap (λ k. reading g (terms_at w.board.terms listed) i h k (terms_at m1.board.terms more) (from_list (terms_at m1.board.terms arguments)) a) e
      ∙ (ap (λ ts. reading g (terms_at w.board.terms listed) i h (number + 1) ts (from_list (terms_at m1.board.terms arguments)) a)
      (ap (λ ids. terms_at m1.board.terms ids) long ∙ terms_more w.board.terms m1.board.terms variables t u first.terms v is)
      ∙ ap (λ ts. reading g (terms_at w.board.terms listed) i h (number + 1) (terms_at w.board.terms variables ++ u ∷ []) (from_list ts) a) (terms_kept w.board.terms m1.board.terms arguments first.terms r))) in
      let own : (i : GroundTerm → Bool) (h : GroundAtom → Bool) → i (term_of m2.board.terms t) ≡ i u = λ i h. ap i (term_kept m1.board.terms m2.board.terms t b.grows.terms one ∙ is) in
      joined g nodes shapes listed (λ b c. b && c) p q (λ i h. p i h && q i h) w m3 n (Some there) body found
      (grows_both w.board m1.board m3.board first (grows_both m1.board m2.board m3.board b.grows grows)) (ready_later g nodes shapes listed m2 m3 grows m k b.ready)
      (means_same nodes m3.board (λ i h. cond true (input_value nodes m2.board.terms i h (There t)) (not (input_value nodes m2.board.terms i h (There t)))) p there own means)
      (may_later g nodes shapes listed m2.board m3.board q body grows (may_same g nodes shapes listed m2.board q' q body same b.means)) j m' k' (λ i h. refl)

  -- the body of a `forall` at one term
  pub one_gate : (w m2 m3 n : Work) (variables arguments more others : List ℕ) (number t absent : ℕ) (a : Formula) (body found : Option ℕ) → IsReady g nodes shapes listed w → AreOnes w.board.terms variables → AreOnes w.board.terms arguments
      → IsOne w.board.terms t → more ≡ variables ++ t ∷ [] → others ≡ arguments ++ t ∷ [] → G w m2 (part_test g w.board.terms listed number more others a) body → Grows m2.board m3.board
      → Means nodes m3.board (λ i h. cond false (input_value nodes m2.board.terms i h (There t)) (not (input_value nodes m2.board.terms i h (There t)))) absent
      → m3.memo.made.entries ≡ m2.memo.made.entries → m3.missing.items ≡ m2.missing.items
      → IsJoined m3.board n.board (λ b c. b || c) (Some absent) body found → n.memo.made.entries ≡ m3.memo.made.entries → n.missing.items ≡ m3.missing.items
      → G w n (one_test g w.board.terms listed number variables arguments a (term_of w.board.terms t)) found
  one_gate w m2 m3 n variables arguments more others number t absent a body found ready v r one long long' b grows means m k j m' k' =
      let u : GroundTerm = term_of w.board.terms t in
      let p : Test = λ i h. not (i u) in
      let q : Test = λ i h. reading g (terms_at w.board.terms listed) i h number (terms_at w.board.terms variables ++ u ∷ []) (and_last (from_list (terms_at w.board.terms arguments)) u) a in
      let q' : Test = part_test g w.board.terms listed number more others a in
      let same : (i : GroundTerm → Bool) (h : GroundAtom → Bool) → q' i h ≡ q i h = λ i h.
      ap (λ ts. reading g (terms_at w.board.terms listed) i h number ts (from_list (terms_at w.board.terms others)) a) (ap (λ ids. terms_at w.board.terms ids) long ∙ map-append (term_of w.board.terms) variables (t ∷ []))
      ∙ ap (λ l. reading g (terms_at w.board.terms listed) i h number (terms_at w.board.terms variables ++ u ∷ []) l a)
      (ap (λ ids. from_list (terms_at w.board.terms ids)) long' ∙ (ap from_list (map-append (term_of w.board.terms) arguments (t ∷ [])) ∙ from_list-last (terms_at w.board.terms arguments) u)) in
      let own : (i : GroundTerm → Bool) (h : GroundAtom → Bool) → not (i (term_of m2.board.terms t)) ≡ not (i u) = λ i h. ap (λ x. not (i x)) (term_kept w.board.terms m2.board.terms t b.grows.terms one) in
      joined g nodes shapes listed (λ b c. b || c) p q (λ i h. p i h || q i h) w m3 n (Some absent) body found (grows_both w.board m2.board m3.board b.grows grows) (ready_later g nodes shapes listed m2 m3 grows m k b.ready)
      (means_same nodes m3.board (λ i h. cond false (input_value nodes m2.board.terms i h (There t)) (not (input_value nodes m2.board.terms i h (There t)))) p absent own means)
      (may_later g nodes shapes listed m2.board m3.board q body grows (may_same g nodes shapes listed m2.board q' q body same b.means)) j m' k' (λ i h. refl)

  -- one term more
  pub each_more : (w m1 m2 n : Work) (variables arguments choices : List ℕ) (number k : ℕ) (a : Formula) (whole one found : Option ℕ) → IsReady g nodes shapes listed w → AreOnes w.board.terms variables → AreOnes w.board.terms arguments
      → IsOne w.board.terms (get_or choices k 0) → k < length choices → G w m1 (each_test g w.board.terms listed number variables arguments a (take k choices)) whole
      → G m1 m2 (one_test g m1.board.terms listed number variables arguments a (term_of m1.board.terms (get_or choices k 0))) one
      → IsJoined m2.board n.board (λ b c. b && c) whole one found → n.memo.made.entries ≡ m2.memo.made.entries → n.missing.items ≡ m2.missing.items
      → G w n (each_test g w.board.terms listed number variables arguments a (take (k + 1) choices)) found
  each_more w m1 m2 n variables arguments choices number k a whole one found ready v r here lt l b j m is =
      let t : ℕ = get_or choices k 0 in
      let p : Test = each_test g w.board.terms listed number variables arguments a (take k choices) in
      let q : Test = one_test g w.board.terms listed number variables arguments a (term_of w.board.terms t) in
      let q' : Test = one_test g m1.board.terms listed number variables arguments a (term_of m1.board.terms t) in
      let same : (i : GroundTerm → Bool) (h : GroundAtom → Bool) → q' i h ≡ q i h = λ i h.
      ap (λ u. one_test g m1.board.terms listed number variables arguments a u i h) (term_kept w.board.terms m1.board.terms t l.grows.terms here)
      ∙ ap (λ b. not (i (term_of w.board.terms t)) || b)
      (ap (λ ts. reading g ts i h number (terms_at m1.board.terms variables ++ term_of w.board.terms t ∷ []) (and_last (from_list (terms_at m1.board.terms arguments)) (term_of w.board.terms t)) a) (terms_kept w.board.terms m1.board.terms listed l.grows.terms ready.ones)
      ∙ (ap (λ ts. reading g (terms_at w.board.terms listed) i h number (ts ++ term_of w.board.terms t ∷ []) (and_last (from_list (terms_at m1.board.terms arguments)) (term_of w.board.terms t)) a) (terms_kept w.board.terms m1.board.terms variables l.grows.terms v)
      ∙ ap (λ ts. reading g (terms_at w.board.terms listed) i h number (terms_at w.board.terms variables ++ term_of w.board.terms t ∷ []) (and_last (from_list ts) (term_of w.board.terms t)) a) (terms_kept w.board.terms m1.board.terms arguments l.grows.terms r))) in
      let more : (i : GroundTerm → Bool) (h : GroundAtom → Bool) → (p i h && q i h) ≡ each_test g w.board.terms listed number variables arguments a (take (k + 1) choices) i h = λ i h.
      let test : GroundTerm → Bool = λ u. one_test g w.board.terms listed number variables arguments a u i h in
      ap (λ b. p i h && b) (sym (and_true (q i h)))
      ∙ (sym (list_all-append test (terms_at w.board.terms (take k choices)) (term_of w.board.terms t ∷ [])) ∙ ap (λ ts. list_all test ts) (sym (map_next (term_of w.board.terms) choices k 0 lt))) in
      joined g nodes shapes listed (λ b c. b && c) p q (each_test g w.board.terms listed number variables arguments a (take (k + 1) choices)) w m2 n whole one found (grows_both w.board m1.board m2.board l.grows b.grows) b.ready
      (may_later g nodes shapes listed m1.board m2.board p whole b.grows l.means) (may_same g nodes shapes listed m2.board q' q one same b.means) j m is more

  -- an atom, or its negation
  pub atom_made : (w m n : Work) (plus : Bool) (variables : List ℕ) (f : Formula) (i : AnInput) (gate : ℕ) → IsReady g nodes shapes listed w → HasInput nodes w.board.terms m.board.terms (terms_at w.board.terms variables) f (Some i)
      → Grows w.board n.board → n.memo.made.entries ≡ w.memo.made.entries → n.missing.items ≡ w.missing.items
      → Means nodes n.board (λ is_there holds. cond plus (input_value nodes m.board.terms is_there holds i) (not (input_value nodes m.board.terms is_there holds i))) gate
      → G w n (signed_test plus w.board.terms variables f) (Some gate)
  atom_made w m n plus variables f i gate ready has grows memo missing means =
      one_made w n (signed_test plus w.board.terms variables f) gate ready grows memo missing
      (means_same nodes n.board (λ is_there holds. cond plus (input_value nodes m.board.terms is_there holds i) (not (input_value nodes m.board.terms is_there holds i))) (signed_test plus w.board.terms variables f) gate
      (λ is_there holds. ap (λ b. cond plus b (not b)) (has.are is_there holds)) means)

  no_atom : (plus b : Bool) → false ≡ b → not plus ≡ cond plus b (not b)
  no_atom true b e = e
  no_atom false b e = ap not e

  pub other_made : (w m n : Work) (plus : Bool) (variables : List ℕ) (f : Formula) (gate : ℕ) → IsReady g nodes shapes listed w → HasInput nodes w.board.terms m.board.terms (terms_at w.board.terms variables) f None
      → Grows w.board n.board → n.memo.made.entries ≡ w.memo.made.entries → n.missing.items ≡ w.missing.items → Means nodes n.board (λ is_there holds. not plus) gate → G w n (signed_test plus w.board.terms variables f) (Some gate)
  other_made w m n plus variables f gate ready has grows memo missing means =
      one_made w n (signed_test plus w.board.terms variables f) gate ready grows memo missing
      (means_same nodes n.board (λ is_there holds. not plus) (signed_test plus w.board.terms variables f) gate (λ is_there holds. no_atom plus (holds_at holds (terms_at w.board.terms variables) f) (has.are is_there holds)) means)

  -- what is no connective, no quantifier and not always true
  pub other_node : (terms : List TermNode) (variables arguments : List ℕ) (number : ℕ) (n : Node) → (n ≡ node.Yes → ⊥) → ((a : ℕ) → n ≡ node.Not a → ⊥) → ((a b : ℕ) → n ≡ node.And a b → ⊥) → ((a b : ℕ) → n ≡ node.Or a b → ⊥)
      → ((sort a : ℕ) → n ≡ node.Exists sort a → ⊥) → ((sort a : ℕ) → n ≡ node.Forall sort a → ⊥) → (i : GroundTerm → Bool) (h : GroundAtom → Bool)
      → signed_test true terms variables (formula_part (tree_from (trees_of nodes) n)) i h ≡ part_test g terms listed number variables arguments (formula_part (tree_from (trees_of nodes) n)) i h
  other_node terms variables arguments number (node.Bound sort depth) a b d e f k i h = refl
  other_node terms variables arguments number (node.Num n) a b d e f k i h = refl
  other_node terms variables arguments number (node.Str t) a b d e f k i h = refl
  other_node terms variables arguments number (node.App f' t) a b d e f k i h = refl
  other_node terms variables arguments number node.Yes a b d e f k i h = absurd (a refl)
  other_node terms variables arguments number node.No a b d e f k i h = refl
  other_node terms variables arguments number (node.Eq s t) a b d e f k i h = refl
  other_node terms variables arguments number (node.Less s t) a b d e f k i h = refl
  other_node terms variables arguments number (node.Has r s t) a b d e f k i h = refl
  other_node terms variables arguments number (node.Flag f' t) a b d e f k i h = refl
  other_node terms variables arguments number (node.Present f' t) a b d e f k i h = refl
  other_node terms variables arguments number (node.Not x) a b d e f k i h = absurd (b x refl)
  other_node terms variables arguments number (node.And x y) a b d e f k i h = absurd (d x y refl)
  other_node terms variables arguments number (node.Or x y) a b d e f k i h = absurd (e x y refl)
  other_node terms variables arguments number (node.Exists sort x) a b d e f k i h = absurd (f sort x refl)
  other_node terms variables arguments number (node.Forall sort x) a b d e f k i h = absurd (k sort x refl)
