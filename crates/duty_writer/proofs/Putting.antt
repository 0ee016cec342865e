-- Terms and formulas that go into an arena.
use Rattle.std.proofs.Common.{◌≡◌, ℕ, Bool, true, false, refl, sym, ◌∙◌, List, Some, ap, subst}
use Rattle.std.specs.Prelude.{Result, Ok, Err, IfOk}
use Rattle.form_formula.specs.declared.node.Node.{Node}
use Rattle.form_formula.specs.declared.node.Node.TheVariants.{App}
use Rattle.form_formula.specs.Trees.{Term, Formula, app}
use Rattle.form_formula.specs.Nodes.{trees_of, tree_from, term_part, formula_part, is_term, term_of, formula_of}
use Rattle.duty_meaning.specs.Cases.{atom}
use Rattle.form_formula.specs.Added.{IsAdded}
use Rattle.form_formula.proofs.Placement.{kind_within}
use Rattle.duty_writer.specs.Made.{Keeps, IsPut, IsSet}

pub ok_map : {A E : Type 0} {P Q : A → Type 0} → (r : Result A E) → ((x : A) → P x → Q x) → IfOk r P → IfOk r Q
ok_map (Ok x) f h = f x h
ok_map (Err e) f h = tt

pub keeps_all : (nodes : List Node) → Keeps nodes nodes
keeps_all nodes = λ id kind h. (h, refl)

pub keeps_both : (a b c : List Node) → Keeps a b → Keeps b c → Keeps a c
keeps_both a b c first second = λ id kind h. let p = first id kind h in let q = second id kind p.0 in (q.0, q.1 ∙ p.1)

pub keeps_added : (old : List Node) (node : Node) (new : List Node) (id : ℕ) → IsAdded old node new id → Keeps old new
keeps_added old node new id h = λ k kind there. (h.kept_kinds k kind there, h.kept_trees k (kind_within old k kind there))

pub put_added : (old : List Node) (node : Node) (new : List Node) (t : Term) (id : ℕ) → term_part (tree_from (trees_of old) node) ≡ t → is_term node ≡ true
    → IsAdded old node new id → IsPut old new t id
put_added old node new t id means term h =
    record { is = h.kind ∙ ap (λ b. Some b) term; means = ap term_part h.means ∙ means; kept = keeps_added old node new id h }

pub set_added : (old : List Node) (node : Node) (new : List Node) (f : Formula) (id : ℕ) → formula_part (tree_from (trees_of old) node) ≡ f → is_term node ≡ false
    → IsAdded old node new id → IsSet old new f id
set_added old node new f id means term h =
    record { stands = (h.kind ∙ ap (λ b. Some b) term, ap formula_part h.means ∙ means); kept = keeps_added old node new id h }

pub put_ok : {E : Type 0} (old : List Node) (node : Node) (new : List Node) (t t' : Term) (r : Result ℕ E) → t' ≡ t
    → term_part (tree_from (trees_of old) node) ≡ t → is_term node ≡ true
    → IfOk r (IsAdded old node new) → IfOk r (IsPut old new t')
put_ok old node new t t' r same means term h = ok_map r (λ id. put_added old node new t' id (means ∙ sym same) term) h

pub set_ok : {E : Type 0} (old : List Node) (node : Node) (new : List Node) (f : Formula) (r : Result ℕ E)
    → formula_part (tree_from (trees_of old) node) ≡ f → is_term node ≡ false
    → IfOk r (IsAdded old node new) → IfOk r (IsSet old new f)
set_ok old node new f r means term h = ok_map r (λ id. set_added old node new f id means term) h

pub put_later : {E : Type 0} (a b c : List Node) (t : Term) (r : Result ℕ E) → Keeps a b → IfOk r (IsPut b c t) → IfOk r (IsPut a c t)
put_later a b c t r first h = ok_map r (λ id there. record { is = there.is; means = there.means; kept = keeps_both a b c first there.kept }) h

pub ok_put : {E : Type 0} (a b : List Node) (t u : Term) (r : Result ℕ E) → t ≡ u → IfOk r (IsPut a b t) → IfOk r (IsPut a b u)
ok_put a b t u r is h = let P : Term → Type 0 = λ x. IfOk r (IsPut a b x) in subst P is h

pub set_later : {E : Type 0} (a b c : List Node) (f : Formula) (r : Result ℕ E) → Keeps a b → IfOk r (IsSet b c f) → IfOk r (IsSet a c f)
set_later a b c f r first h = ok_map r (λ id there. record { stands = there.stands; kept = keeps_both a b c first there.kept }) h

pub ap2 : {A B C : Type 0} (f : A → B → C) {a a' : A} {b b' : B} → a ≡ a' → b ≡ b' → f a b ≡ f a' b'
ap2 f {a = a} {a' = a'} {b = b} {b' = b'} p q = ap (λ x. f x b) p ∙ ap (f a') q

-- two terms that go in one after the other
pub two_put : (a b c : List Node) (t u : Term) (s r : ℕ) → IsPut a b t s → IsPut b c u r → (term_of c s ≡ t) × (term_of c r ≡ u) × Keeps a c
two_put a b c t u s r first second =
    (ap term_part ((second.kept s true first.is).1) ∙ first.means, second.means, keeps_both a b c first.kept second.kept)

-- an atom over terms that are there, and its sign
pub atom_put : {E : Type 0} (a b c d : List Node) (node : Node) (f : Formula) (sign : Bool) (id : ℕ) (r : Result ℕ E) → Keeps a b
    → formula_part (tree_from (trees_of b) node) ≡ f → is_term node ≡ false → IsAdded b node c id
    → IfOk r (IsSet c d (atom sign (formula_of c id))) → IfOk r (IsSet a d (atom sign f))
atom_put a b c d node f sign id r first means term h last =
    let same : formula_of c id ≡ f = ap formula_part h.means ∙ means in
    let P : Formula → Type 0 = λ x. IfOk r (IsSet c d (atom sign x)) in
    set_later a c d (atom sign f) r (keeps_both a b c first (keeps_added b node c id h)) (subst P same last)

-- one more function at a term that is there
pub put_applied : (a b c : List Node) (t u : Term) (f id new : ℕ) → app f t ≡ u → IsPut a b t id → IsAdded b (App f id) c new → IsPut a c u new
put_applied a b c t u f id new is first h =
    let there = put_added b (App f id) c u new (ap (app f) first.means ∙ is) refl h in
    record { is = there.is; means = there.means; kept = keeps_both a b c first.kept there.kept }
