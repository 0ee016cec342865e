-- The formulas of forms, from those of their parts.
use Rattle.std.proofs.Common.{◌≡◌, ℕ, ◌+◌, ◌≤◌, Bool, true, false, not, refl, sym, ◌∙◌, List, [], ◌∷◌, ◌++◌, ap, arith}
use Rattle.std.specs.Prelude.{Result, Err, ◌||◌, if◌then◌else◌, fold}
use Rattle.text_tree.specs.declared.exprs.CmpOp.{CmpOp}
use Rattle.type_schema.specs.declared.trees.TExpr.{TExpr}
use Rattle.type_schema.specs.declared.trees.TExpr.TheVariants as ex
use Rattle.type_schema.specs.declared.trees.TSet.{TSet}
use Rattle.type_schema.specs.declared.trees.TSet.TheVariants as st
use Rattle.type_schema.specs.Trees.{Expr, SetExpr}
use Rattle.type_schema.specs.Schema.{Schema}
use Rattle.type_schema.specs.Views.{expr_of, set_of}
use Rattle.form_formula.specs.Trees.{Term, Formula, no, both, either}
use Rattle.form_formula.specs.Trees as tree
use Rattle.duty_meaning.specs.Sizes.{size}
use Rattle.duty_meaning.specs.Cases.{Condition, Cases, continued, at_ends, of_term, at_terms, of_option, condition_of, is_truth, chosen, atom, constant, and_if, same_condition, same_term, has_term, end_has, are_equal}
use Rattle.duty_meaning.specs.Formulas.{Who, record_at, Written, Scene, of_model, cases_of, is_in}
use Rattle.duty_writer.specs.declared.make_err.MakeErr.{MakeErr}
use Rattle.duty_writer.specs.declared.make_err.MakeErr.TheVariants.{OutOfMemory}
use Rattle.duty_writer.specs.declared.writer.Writer.{Writer}
use Rattle.duty_writer.specs.Made.{IsMade, MakesFor, Makes, IsPart}
use Rattle.duty_writer.proofs.Paying.{made_stop}
use Rattle.duty_writer.proofs.Joining.{part_stands, stands_later, size-and_if}
use Rattle.duty_builder.specs.declared.start.Start.{Start}
use Rattle.duty_builder.specs.declared.values.End.{End, Truth', Among', Some'}
use Rattle.duty_builder.specs.declared.values.End.{Term as end_term, Held as end_held, None as end_none}
use Rattle.duty_builder.specs.Values.{end_data, rest_cost, mapped_formula, flat_formula}
use Rattle.duty_builder.proofs.Forms.{Eq_is, Iff_is, Less_is, Member_is, Not_is, And_is, Or_is, IfE_is, Sum_set, Less_set, Path_set, MapS_set, FlatS_set, IfS_set, MatchS_set}
use Rattle.duty_builder.proofs.Walks.{ap2, ask_done}

-- what is asked of a value without choices
pub end_ends : (c : Start) (above : ℕ) (g : Cases → Formula) (x : End) → at_ends above g (end_data c x) ≡ g (end_data c x)
end_ends c above g (end_term t) = refl
end_ends c above g (end_held m f t) = refl
end_ends c above g (Truth' p scene e) = refl
end_ends c above g (Among' p scene m set) = refl
end_ends c above g end_none = refl
end_ends c above g (Some' p x) = refl

-- want of memory has no cause
pub memory_stop : (old new : Writer) (f : Formula) (r : Result ℕ MakeErr) (d : MakeErr) → r ≡ Err d → d ≡ OutOfMemory → Makes old r new f
memory_stop old new f r d is memory = made_stop 0 (size f) old new f r d OutOfMemory is memory (omega arith) tt

pub memory_stop_for : (cost : ℕ) (old new : Writer) (f : Formula) (r : Result ℕ MakeErr) (d : MakeErr) → r ≡ Err d → d ≡ OutOfMemory → MakesFor cost old r new f
memory_stop_for cost old new f r d is memory = made_stop 0 cost old new f r d OutOfMemory is memory (omega arith) tt

-- a part that is too large
pub left_le : (sign : Bool) (f g : Formula) → size f ≤ size (and_if sign f g)
left_le sign f g = omega (arith, size-and_if sign f g)

pub both_le : (sign : Bool) (f g : Formula) → size f + size g ≤ size (and_if sign f g)
both_le sign f g = omega (arith, size-and_if sign f g)

-- the first part where the second is made
pub part_later : (old mid new : Writer) (n k : ℕ) (f g : Formula) (a b : ℕ) → IsMade n old mid f a → IsMade k mid new g b → IsPart new a
part_later old mid new n k f g a b first second = part_stands new a f (stands_later mid new a f second.mode second.kept first.stands)

pub part_made : (old new : Writer) (n : ℕ) (f : Formula) (a : ℕ) → IsMade n old new f a → IsPart new a
part_made old new n f a made = part_stands new a f made.stands

module _ (s : Schema) (written : Written) (env : Scene) where
  abbrev value : TExpr → Cases
  value x = cases_of s written env (expr_of x)

  abbrev asks : (Cases → Formula) → (Cases → Cases) → ℕ → Cases → Formula
  asks g go above v = at_ends above g (continued go v)

  pub walk_if : (above : ℕ) (g : Cases → Formula) (go : Cases → Cases) (whole c' c a' a b' b : TExpr) → whole ≡ ex.IfE c a b → c' ≡ c → a' ≡ a → b' ≡ b
      → either (both (condition_of s (value c') true above) (at_ends above g (continued go (value a')))) (both (condition_of s (value c') false above) (at_ends above g (continued go (value b'))))
      ≡ at_ends above g (continued go (value whole))
  walk_if above g go whole c' c a' a b' b is p q r =
      ap2 (λ (x y : TExpr). either (both (condition_of s (value x) true above) (at_ends above g (continued go (value y)))) (both (condition_of s (value x) false above) (at_ends above g (continued go (value b'))))) p q
      ∙ (ap (λ (y : TExpr). either (both (condition_of s (value c) true above) (at_ends above g (continued go (value a)))) (both (condition_of s (value c) false above) (at_ends above g (continued go (value y))))) r
      ∙ ap (λ x. at_ends above g (continued go (cases_of s written env x))) (sym (ap expr_of is ∙ IfE_is c a b)))

  module _ (sign : Bool) (above : ℕ) where
    abbrev holds_of : Expr → Formula
    holds_of x = condition_of s (cases_of s written env x) sign above

    pub eq_is : (whole a' a b' b : TExpr) (op : CmpOp) → whole ≡ ex.Eq a b op → a' ≡ a → b' ≡ b
        → at_ends above (of_term s no (λ t. at_terms s above (λ u. atom sign (tree.equal t u)) (value b'))) (continued (λ x. x) (value a')) ≡ holds_of (expr_of whole)
    eq_is whole a' a b' b op is p q =
        ask_done above (of_term s no (λ t. at_terms s above (λ u. atom sign (tree.equal t u)) (value b'))) (value a')
        ∙ (ap2 (λ (x y : TExpr). at_ends above (of_term s no (λ t. at_terms s above (λ u. atom sign (tree.equal t u)) (value y))) (value x)) p q
        ∙ ap holds_of (sym (ap expr_of is ∙ Eq_is a b op)))

    pub less_is : (whole a' a b' b : TExpr) (op : CmpOp) → whole ≡ ex.Less a b op → a' ≡ a → b' ≡ b
        → at_ends above (of_term s no (λ t. at_terms s above (λ u. atom sign (tree.less t u)) (value b'))) (continued (λ x. x) (value a')) ≡ holds_of (expr_of whole)
    less_is whole a' a b' b op is p q =
        ask_done above (of_term s no (λ t. at_terms s above (λ u. atom sign (tree.less t u)) (value b'))) (value a')
        ∙ (ap2 (λ (x y : TExpr). at_ends above (of_term s no (λ t. at_terms s above (λ u. atom sign (tree.less t u)) (value y))) (value x)) p q
        ∙ ap holds_of (sym (ap expr_of is ∙ Less_is a b op)))

    pub iff_is : (whole a' a b' b : TExpr) (op : CmpOp) → whole ≡ ex.Iff a b op → a' ≡ a → b' ≡ b
        → same_condition (condition_of s (value a')) (condition_of s (value b')) sign above ≡ holds_of (expr_of whole)
    iff_is whole a' a b' b op is p q =
        ap2 (λ (x y : TExpr). same_condition (condition_of s (value x)) (condition_of s (value y)) sign above) p q ∙ ap holds_of (sym (ap expr_of is ∙ Iff_is a b op))

    pub within_is : (whole x' x : TExpr) (m : ℕ) (set' set : TSet) → whole ≡ ex.Member x m set → x' ≡ x → set' ≡ set
        → at_ends above (of_term s no (λ t. is_in s written env (set_of set') (record_at m t) sign above)) (continued (λ x. x) (value x')) ≡ holds_of (expr_of whole)
    within_is whole x' x m set' set is p q =
        ask_done above (of_term s no (λ t. is_in s written env (set_of set') (record_at m t) sign above)) (value x')
        ∙ (ap2 (λ (i : TExpr) (j : TSet). at_ends above (of_term s no (λ t. is_in s written env (set_of j) (record_at m t) sign above)) (value i)) p q
        ∙ ap holds_of (sym (ap expr_of is ∙ Member_is x m set)))

    pub not_is : (whole a' a : TExpr) → whole ≡ ex.Not a → a' ≡ a → condition_of s (value a') (not sign) above ≡ holds_of (expr_of whole)
    not_is whole a' a is p = ap (λ (x : TExpr). condition_of s (value x) (not sign) above) p ∙ ap holds_of (sym (ap expr_of is ∙ Not_is a))

    pub and_is : (whole a' a b' b : TExpr) → whole ≡ ex.And a b → a' ≡ a → b' ≡ b
        → and_if sign (condition_of s (value a') sign above) (condition_of s (value b') sign above) ≡ holds_of (expr_of whole)
    and_is whole a' a b' b is p q =
        ap2 (λ (x y : TExpr). and_if sign (condition_of s (value x) sign above) (condition_of s (value y) sign above)) p q ∙ ap holds_of (sym (ap expr_of is ∙ And_is a b))

    pub or_is : (whole a' a b' b : TExpr) → whole ≡ ex.Or a b → a' ≡ a → b' ≡ b
        → and_if (not sign) (condition_of s (value a') sign above) (condition_of s (value b') sign above) ≡ holds_of (expr_of whole)
    or_is whole a' a b' b is p q =
        ap2 (λ (x y : TExpr). and_if (not sign) (condition_of s (value x) sign above) (condition_of s (value y) sign above)) p q ∙ ap holds_of (sym (ap expr_of is ∙ Or_is a b))

    module _ (who : Who) where
      abbrev member_of : SetExpr → Formula
      member_of x = is_in s written env x who sign above

      pub sum_is : (whole a' a b' b : TSet) → whole ≡ st.Sum a b → a' ≡ a → b' ≡ b
          → and_if (not sign) (is_in s written env (set_of a') who sign above) (is_in s written env (set_of b') who sign above) ≡ member_of (set_of whole)
      sum_is whole a' a b' b is p q =
          ap2 (λ (x y : TSet). and_if (not sign) (is_in s written env (set_of x) who sign above) (is_in s written env (set_of y) who sign above)) p q
          ∙ ap member_of (sym (ap set_of is ∙ Sum_set a b))

      pub minus_is : (whole a' a b' b : TSet) → whole ≡ st.Less a b → a' ≡ a → b' ≡ b
          → and_if sign (is_in s written env (set_of a') who sign above) (is_in s written env (set_of b') who (not sign) above) ≡ member_of (set_of whole)
      minus_is whole a' a b' b is p q =
          ap2 (λ (x y : TSet). and_if sign (is_in s written env (set_of x) who sign above) (is_in s written env (set_of y) who (not sign) above)) p q
          ∙ ap member_of (sym (ap set_of is ∙ Less_set a b))

      pub path_is : (whole : TSet) (e : TExpr) (m : ℕ) (t : Term) → whole ≡ st.Path m e → ((k : Term → Condition) (sign : Bool) (above : ℕ) → of_model m who k sign above ≡ k t sign above)
          → at_ends above (end_has s t sign above) (continued (λ x. x) (value e)) ≡ member_of (set_of whole)
      path_is whole e m t is asked =
          ask_done above (end_has s t sign above) (value e)
          ∙ (sym (asked (has_term s (value e)) sign above) ∙ ap member_of (sym (ap set_of is ∙ Path_set m e)))

      pub path_other : (whole : TSet) (e : TExpr) (m : ℕ) → whole ≡ st.Path m e → ((k : Term → Condition) (sign : Bool) (above : ℕ) → of_model m who k sign above ≡ constant (not sign))
          → constant (not sign) ≡ member_of (set_of whole)
      path_other whole e m is asked = sym (asked (has_term s (value e)) sign above) ∙ ap member_of (sym (ap set_of is ∙ Path_set m e))

      pub if_is : (whole a' a b' b : TSet) (c' c : TExpr) → whole ≡ st.IfS c a b → a' ≡ a → b' ≡ b → c' ≡ c
          → either (both (condition_of s (value c') true above) (is_in s written env (set_of a') who sign above))
          (both (condition_of s (value c') false above) (is_in s written env (set_of b') who sign above)) ≡ member_of (set_of whole)
      if_is whole a' a b' b c' c is p q r =
          ap2 (λ (x y : TSet). either (both (condition_of s (value c') true above) (is_in s written env (set_of x) who sign above))
          (both (condition_of s (value c') false above) (is_in s written env (set_of y) who sign above))) p q
          ∙ (ap (λ (e : TExpr). either (both (condition_of s (value e) true above) (is_in s written env (set_of a) who sign above))
          (both (condition_of s (value e) false above) (is_in s written env (set_of b) who sign above))) r
          ∙ ap member_of (sym (ap set_of is ∙ IfS_set c a b)))

      pub match_is : (whole a' a c' c : TSet) (e' e : TExpr) (name : List ℕ) → whole ≡ st.MatchS e a name c → a' ≡ a → c' ≡ c → e' ≡ e
          → at_ends above (of_option s (chosen above) (is_in s written env (set_of a') who sign above) (λ x. is_in s written (env ++ x ∷ []) (set_of c') who sign above)) (continued (λ x. x) (value e'))
          ≡ member_of (set_of whole)
      match_is whole a' a c' c e' e name is p q r =
          ask_done above (of_option s (chosen above) (is_in s written env (set_of a') who sign above) (λ x. is_in s written (env ++ x ∷ []) (set_of c') who sign above)) (value e')
          ∙ (ap2 (λ (i j : TSet). at_ends above (of_option s (chosen above) (is_in s written env (set_of i) who sign above) (λ x. is_in s written (env ++ x ∷ []) (set_of j) who sign above)) (value e')) p q
          ∙ (ap (λ (i : TExpr). at_ends above (of_option s (chosen above) (is_in s written env (set_of a) who sign above) (λ x. is_in s written (env ++ x ∷ []) (set_of c) who sign above)) (value i)) r
          ∙ ap member_of (sym (ap set_of is ∙ MatchS_set e a name c))))

      pub mapped_is : (whole set' set : TSet) (n : ℕ) (name : List ℕ) (m : ℕ) (e' e : TExpr) → whole ≡ st.MapS set n name m e → set' ≡ set → e' ≡ e
          → mapped_formula s written env (set_of set') n m (expr_of e') who sign above ≡ member_of (set_of whole)
      mapped_is whole set' set n name m e' e is p q =
          ap (λ (x : TSet). mapped_formula s written env (set_of x) n m (expr_of e') who sign above) p
          ∙ (ap (λ (x : TExpr). mapped_formula s written env (set_of set) n m (expr_of x) who sign above) q
          ∙ ap member_of (sym (ap set_of is ∙ MapS_set set n name m e)))

      pub flat_is : (whole set' set body' body : TSet) (n : ℕ) (name : List ℕ) → whole ≡ st.FlatS set n name body → set' ≡ set → body' ≡ body
          → flat_formula s written env (set_of set') n (set_of body') who sign above ≡ member_of (set_of whole)
      flat_is whole set' set body' body n name is p q =
          ap2 (λ (x y : TSet). flat_formula s written env (set_of x) n (set_of y) who sign above) p q ∙ ap member_of (sym (ap set_of is ∙ FlatS_set set n name body))

-- equality of two values, of one kind and of another
pub equal_truths : (s : Schema) (v w : Cases) (sign : Bool) (above : ℕ) (b : Bool) → b ≡ (is_truth s v || is_truth s w) → b ≡ true
    → same_condition (condition_of s v) (condition_of s w) sign above ≡ are_equal s v w sign above
equal_truths s v w sign above b is true_ =
    ap (λ b. (if b then same_condition (condition_of s v) (condition_of s w) else same_term s v w) sign above) (sym true_ ∙ is)

pub equal_terms : (s : Schema) (v w : Cases) (sign : Bool) (above : ℕ) (b : Bool) → b ≡ (is_truth s v || is_truth s w) → b ≡ false
    → at_ends above (of_term s no (λ t. at_terms s above (λ u. atom sign (tree.equal t u)) w)) (continued (λ x. x) v) ≡ are_equal s v w sign above
equal_terms s v w sign above b is false_ =
    ask_done above (of_term s no (λ t. at_terms s above (λ u. atom sign (tree.equal t u)) w)) v
    ∙ ap (λ b. (if b then same_condition (condition_of s v) (condition_of s w) else same_term s v w) sign above) (sym false_ ∙ is)

-- what joining more formulas costs
pub size-rest : (sign : Bool) (f : Formula) (fs : List Formula) → size (fold (and_if sign) f fs) ≡ size f + rest_cost fs
size-rest sign f [] = omega arith
size-rest sign f (g ∷ fs) = omega (arith, size-rest sign (and_if sign f g) fs, size-and_if sign f g)
