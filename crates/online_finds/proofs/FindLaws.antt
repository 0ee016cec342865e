-- The models in parts, and in the whole.
use Rattle.std.proofs.Common.{◌≡◌, ℕ, refl, ap, ◌∙◌, List, ◌++◌}
use Rattle.type_schema.specs.declared.trees.TExpr.{TExpr}
use Rattle.type_schema.specs.declared.trees.TSet.{TSet}
use Rattle.online_meaning.specs.Finds.{finds_of, set_finds_of}
use Rattle.type_schema.specs.Views.{expr_of, set_of}
use Rattle.online_finds.proofs.Joined.{joined}

abbrev in_expr : TExpr → List ℕ
in_expr e = finds_of (expr_of e)

abbrev in_set : TSet → List ℕ
in_set e = set_finds_of (set_of e)

pub two_exprs : (e a b x y : TExpr) (old mid new : List ℕ) → in_expr e ≡ in_expr a ++ in_expr b → x ≡ a → y ≡ b
    → mid ≡ old ++ in_expr x → new ≡ mid ++ in_expr y → new ≡ old ++ in_expr e
two_exprs e a b x y old mid new w i j p q =
    joined old mid new (in_expr e) (in_expr a) (in_expr b) w (p ∙ ap (λ x. old ++ in_expr x) i) (q ∙ ap (λ y. mid ++ in_expr y) j)

pub expr_set : (e a x : TExpr) (b y : TSet) (old mid new : List ℕ) → in_expr e ≡ in_expr a ++ in_set b → x ≡ a → y ≡ b
    → mid ≡ old ++ in_expr x → new ≡ mid ++ in_set y → new ≡ old ++ in_expr e
expr_set e a x b y old mid new w i j p q =
    joined old mid new (in_expr e) (in_expr a) (in_set b) w (p ∙ ap (λ x. old ++ in_expr x) i) (q ∙ ap (λ y. mid ++ in_set y) j)

pub three_exprs : (e a b c x y z : TExpr) (old one mid new : List ℕ) → in_expr e ≡ (in_expr a ++ in_expr b) ++ in_expr c → x ≡ a → y ≡ b → z ≡ c
    → one ≡ old ++ in_expr x → mid ≡ one ++ in_expr y → new ≡ mid ++ in_expr z → new ≡ old ++ in_expr e
three_exprs e a b c x y z old one mid new w i j k p q r =
    joined old mid new (in_expr e) (in_expr a ++ in_expr b) (in_expr c) w
    (joined old one mid (in_expr a ++ in_expr b) (in_expr a) (in_expr b) refl (p ∙ ap (λ x. old ++ in_expr x) i) (q ∙ ap (λ y. one ++ in_expr y) j))
    (r ∙ ap (λ z. mid ++ in_expr z) k)
