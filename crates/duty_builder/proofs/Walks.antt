-- How values are walked end by end.
use Rattle.std.proofs.Common.{◌≡◌, ℕ, Bool, true, false, refl, sym, ◌∙◌, List, [], ◌∷◌, ◌++◌, ap, subst}
use Rattle.std.specs.Prelude.{Result, IfOk, if◌then◌else◌}
use Rattle.type_schema.specs.declared.trees.TExpr.{TExpr}
use Rattle.type_schema.specs.declared.trees.TExpr.TheVariants as ex
use Rattle.type_schema.specs.Trees as plain
use Rattle.type_schema.specs.Schema.{Schema}
use Rattle.type_schema.specs.Views.{expr_of}
use Rattle.form_formula.specs.Trees.{Formula}
use Rattle.duty_meaning.specs.Cases.{Condition, Cases, at_term, held, truth, among, none, some, choice, over_ends, continued, at_ends, of_term, of_option, condition_of, is_truth, some_of}
use Rattle.duty_meaning.specs.Formulas.{Written, Scene, cases_of, field_cases}
use Rattle.duty_writer.specs.declared.make_err.MakeErr.{MakeErr}
use Rattle.duty_writer.specs.declared.writer.Writer.{Writer}
use Rattle.duty_writer.specs.Made.{Makes}
use Rattle.duty_builder.proofs.Forms.{Get_is, MatchE_is, SomeLit_is}

pub ok_same : {A E : Type 0} (r : Result A E) (x y : A) → x ≡ y → IfOk r (λ b. b ≡ x) → IfOk r (λ b. b ≡ y)
ok_same {A = A} r x y same h = let P : A → Type 0 = λ v. IfOk r (λ b. b ≡ v) in subst P same h

pub makes_same : (old : Writer) (r : Result ℕ MakeErr) (new : Writer) (f g : Formula) → f ≡ g → Makes old r new f → Makes old r new g
makes_same old r new f g same h = let P : Formula → Type 0 = λ x. Makes old r new x in subst P same h

pub ap2 : {A B C : Type 0} (f : A → B → C) {a a' : A} {b b' : B} → a ≡ a' → b ≡ b' → f a b ≡ f a' b'
ap2 f {a = a} {a' = a'} {b = b} {b' = b'} p q = ap (λ x. f x b) p ∙ ap (f a') q

-- what goes over the ends of a value that goes on at each end goes over the ends there
pub fuse : {A : Type 0} (choose : Condition → A → A → A) (end : Cases → A) (g : Cases → Cases) (v : Cases)
    → over_ends choose end (continued g v) ≡ over_ends choose (λ x. over_ends choose end (g x)) v
fuse choose end g (at_term t) = refl
fuse choose end g (held m f t) = refl
fuse choose end g (truth c) = refl
fuse choose end g (among members) = refl
fuse choose end g none = refl
fuse choose end g (some v) = refl
fuse choose end g (choice c a b) = ap2 (choose c) (fuse choose end g a) (fuse choose end g b)

-- a value that goes on at no end
pub rests : (v : Cases) → continued (λ x. x) v ≡ v
rests (at_term t) = refl
rests (held m f t) = refl
rests (truth c) = refl
rests (among members) = refl
rests none = refl
rests (some v) = refl
rests (choice c a b) = ap2 (choice c) (rests a) (rests b)

module _ (s : Schema) (written : Written) (env : Scene) where
  -- what goes on after a form goes on at the ends of its part
  pub walk_get : (written' : Written) (go : Cases → Cases) (whole inner a : TExpr) (m f : ℕ) → whole ≡ ex.Get a m f → inner ≡ a → written ≡ written'
      → continued (λ v. continued go (of_term s none (field_cases s written' m f) v)) (cases_of s written env (expr_of inner))
      ≡ continued go (cases_of s written env (expr_of whole))
  walk_get written' go whole inner a m f is same reads =
      ap2 (λ (w : Written) (i : TExpr). continued (λ v. continued go (of_term s none (field_cases s w m f) v)) (cases_of s written env (expr_of i))) (sym reads) same
      ∙ (sym (fuse choice go (of_term s none (field_cases s written m f)) (cases_of s written env (expr_of a)))
      ∙ ap (λ x. continued go (cases_of s written env x)) (sym (ap expr_of is ∙ Get_is a m f)))

  pub walk_match : (go : Cases → Cases) (whole x' x a' a c' c : TExpr) (name : List ℕ) → whole ≡ ex.MatchE x a name c → x' ≡ x → a' ≡ a → c' ≡ c
      → continued (λ v. continued go (of_option s choice (cases_of s written env (expr_of a')) (λ y. cases_of s written (env ++ y ∷ []) (expr_of c')) v)) (cases_of s written env (expr_of x'))
      ≡ continued go (cases_of s written env (expr_of whole))
  walk_match go whole x' x a' a c' c name is p q r =
      ap2 (λ (i j : TExpr). continued (λ v. continued go (of_option s choice (cases_of s written env (expr_of j)) (λ y. cases_of s written (env ++ y ∷ []) (expr_of c')) v)) (cases_of s written env (expr_of i))) p q
      ∙ (ap (λ (i : TExpr). continued (λ v. continued go (of_option s choice (cases_of s written env (expr_of a)) (λ y. cases_of s written (env ++ y ∷ []) (expr_of i)) v)) (cases_of s written env (expr_of x))) r
      ∙ (sym (fuse choice go (of_option s choice (cases_of s written env (expr_of a)) (λ y. cases_of s written (env ++ y ∷ []) (expr_of c))) (cases_of s written env (expr_of x)))
      ∙ ap (λ x. continued go (cases_of s written env x)) (sym (ap expr_of is ∙ MatchE_is x a name c))))

-- where no more steps are to be done
pub ask_done : (above : ℕ) (go : Cases → Formula) (v : Cases) → at_ends above go (continued (λ x. x) v) ≡ at_ends above go v
ask_done above go v = ap (at_ends above go) (rests v)

module _ (s : Schema) (written : Written) (env : Scene) where
  pub walk_some : (whole inner a : TExpr) → whole ≡ ex.SomeLit a → inner ≡ a → some_of s (cases_of s written env (expr_of inner)) ≡ cases_of s written env (expr_of whole)
  walk_some whole inner a is same = ap (λ (i : TExpr). some_of s (cases_of s written env (expr_of i))) same ∙ ap (cases_of s written env) (sym (ap expr_of is ∙ SomeLit_is a))

-- an option that holds a truth value, and one that holds another value
pub wrap_truth : (s : Schema) (v : Cases) (b : Bool) → b ≡ is_truth s v → b ≡ true → some_of s v ≡ some (truth (condition_of s v))
wrap_truth s v b is true_ = ap (λ b. if b then some (truth (condition_of s v)) else continued some v) (sym is ∙ true_)

pub wrap_other : (s : Schema) (v : Cases) (go : Cases → Cases) (b : Bool) → b ≡ is_truth s v → b ≡ false → continued go (some_of s v) ≡ continued (λ x. go (some x)) v
wrap_other s v go b is false_ = ap (λ b. continued go (if b then some (truth (condition_of s v)) else continued some v)) (sym is ∙ false_) ∙ fuse choice go some v

-- the first end of a value in an option
module _ (s : Schema) (go : Cases → Cases) (whole : Condition) where
  abbrev pub justified : Cases → Cases
  justified x = go (if is_truth s x then some (truth whole) else some x)

  first_true : (v : Cases) → is_truth s v ≡ true → is_truth s (continued justified v) ≡ is_truth s (go (some (truth whole)))
  first_true (at_term t) h = ap (λ b. is_truth s (go (if b then some (truth whole) else some (at_term t)))) h
  first_true (held m f t) h = ap (λ b. is_truth s (go (if b then some (truth whole) else some (held m f t)))) h
  first_true (truth c) h = refl
  first_true (among members) h = ap (λ b. is_truth s (go (if b then some (truth whole) else some (among members)))) h
  first_true none h = ap (λ b. is_truth s (go (if b then some (truth whole) else some none))) h
  first_true (some v) h = ap (λ b. is_truth s (go (if b then some (truth whole) else some (some v)))) h
  first_true (choice c a b) h = first_true a h

  first_false : (v : Cases) → is_truth s v ≡ false → is_truth s (continued justified v) ≡ is_truth s (continued go (continued some v))
  first_false (at_term t) h = refl
  first_false (held m f t) h = ap (λ b. is_truth s (go (if b then some (truth whole) else some (held m f t)))) h
  first_false (truth c) h = ap (λ b. is_truth s (go (if b then some (truth whole) else some (truth c)))) h
  first_false (among members) h = refl
  first_false none h = refl
  first_false (some v) h = refl
  first_false (choice c a b) h = first_false a h

  pub first_just : (v : Cases) → whole ≡ condition_of s v → is_truth s (continued justified v) ≡ is_truth s (continued go (some_of s v))
  first_just v is = by_truth (is_truth s v) refl
    where
      by_truth : (b : Bool) → is_truth s v ≡ b → is_truth s (continued justified v) ≡ is_truth s (continued go (some_of s v))
      by_truth true h =
          first_true v h ∙ (ap (λ c. is_truth s (go (some (truth c)))) is
          ∙ ap (λ b. is_truth s (continued go (if b then some (truth (condition_of s v)) else continued some v))) (sym h))
      by_truth false h =
          first_false v h ∙ ap (λ b. is_truth s (continued go (if b then some (truth (condition_of s v)) else continued some v))) (sym h)

-- a truth value is a condition as a whole
module _ (s : Schema) (written : Written) (env : Scene) where
  abbrev pub IsWhole : plain.Expr → Type 0
  IsWhole x = truth (condition_of s (cases_of s written env x)) ≡ cases_of s written env x

  pub whole_form : (whole : TExpr) (x : plain.Expr) → expr_of whole ≡ x → IsWhole x → truth (condition_of s (cases_of s written env (expr_of whole))) ≡ cases_of s written env (expr_of whole)
  whole_form whole x is h = subst IsWhole (sym is) h
