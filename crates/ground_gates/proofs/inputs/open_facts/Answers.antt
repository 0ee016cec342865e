use Rattle.std.proofs.Common.{◌≡◌, ◌<◌, ◌+◌, ◌||◌, ◌&&◌, ◌++◌, ◌∷◌, [], ℕ, Bool, List, true, false, not, inl, inr, refl, sym, ◌∙◌, ap, subst, length, get_or, take, Contains, Vec, Global}
use Rattle.std.specs.List.{list_all}
use Rattle.std.proofs.lemmas.List.{take_more}
use Rattle.std.proofs.lemmas.List.Elements.{Contains-get_or, Contains-push_cases}
use Rattle.std.proofs.lemmas.List.Folds.{list_all-append}
use Rattle.form_terms.proofs.Kept.{list_any-from}
use Rattle.form_terms.proofs.Lists.{Contains-none}
use Rattle.ground_gates.specs.declared.gate.Literal.{Literal}
use Rattle.ground_gates.specs.Clauses.{meets_clause}
use Rattle.ground_gates.specs.Gates.{literal_value}
use Rattle.ground_gates.specs.Literals.{is_false}
use Rattle.ground_gates.proofs.inputs.open_facts.Goals.{then-not-is_denied+in_ok-push, else-not-is_denied}
use Rattle.ground_gates.proofs.inputs.open_facts.Goals as goal

and_one : (a y : Bool) → (a && (y && true)) ≡ (a && y)
and_one true true = refl
and_one true false = refl
and_one false y = refl

beside : (m a b y : Bool) → (m || a) ≡ (m || b) → (m || (a && y)) ≡ (m || (b && y))
beside true a b y e = refl
beside false a b y e = ap (λ c. c && y) e

without : (m a b y : Bool) → (m || a) ≡ (m || b) → (y ≡ false → m ≡ true) → (m || (a && y)) ≡ (m || b)
without true a b y e h = refl
without false true b true e h = e
without false false b true e h = e
without false a b false e h = let no : false ≡ true = h refl in cc

module _ (ls : List Literal) (facts others : List ℕ) (k : ℕ) (lt : k < length facts)
    (h : (w : ℕ → Bool) → (meets_clause w ls || list_all w (take k facts)) ≡ (meets_clause w ls || list_all w others)) where
  abbrev x : ℕ
  x = get_or facts k 0

  taken : (w : ℕ → Bool) → list_all w (take (k + 1) facts) ≡ (list_all w (take k facts) && w x)
  taken w = ap (list_all w) (take_more facts k 0 lt) ∙ (list_all-append w (take k facts) (x ∷ []) ∙ and_one (list_all w (take k facts)) (w x))

  one_more : (w : ℕ → Bool) → (meets_clause w ls || list_all w (take (k + 1) facts)) ≡ (meets_clause w ls || list_all w (others ++ x ∷ []))
  one_more w =
      let m : Bool = meets_clause w ls in
      ap (λ b. m || b) (taken w)
      ∙ (beside m (list_all w (take k facts)) (list_all w others) (w x) (h w) ∙ ap (λ b. m || b) (sym (list_all-append w others (x ∷ []) ∙ and_one (list_all w others) (w x))))

  one_less : Contains ls (is_false x) → (w : ℕ → Bool) → (meets_clause w ls || list_all w (take (k + 1) facts)) ≡ (meets_clause w ls || list_all w others)
  one_less denied w =
      let m : Bool = meets_clause w ls in
      ap (λ b. m || b) (taken w)
      ∙ without m (list_all w (take k facts)) (list_all w others) (w x) (h w) (λ off. list_any-from (literal_value w) ls (is_false x) denied (ap not off))

pub loop-fact-init : goal.loop-fact-init
loop-fact-init c =
    let P : List ℕ → Type 0 = λ xs. ((w : ℕ → Bool) → (meets_clause w c.args.literals.now || true) ≡ (meets_clause w c.args.literals.now || list_all w xs)) × ((x : ℕ) → Contains xs x → Contains c.args.facts.now x) in
    subst P (sym c.new-others.ensures.items) (λ w. refl, λ x here. Contains-none x here)

pub loop-fact-preserved : goal.loop-fact-preserved
loop-fact-preserved c =
    let facts = c.args.facts.now in
    let others = c.loop-fact.others.items in
    let k = c.loop-fact.fact-index in
    let ls = c.args.literals.now in
    let P : Vec ℕ Global → Type 0 = λ v. ((w : ℕ → Bool) → (meets_clause w ls || list_all w (take (k + 1) facts)) ≡ (meets_clause w ls || list_all w v.items)) × ((x : ℕ) → Contains v.items x → Contains facts x) in
    let Q : List ℕ → Type 0 = λ xs. ((w : ℕ → Bool) → (meets_clause w ls || list_all w (take (k + 1) facts)) ≡ (meets_clause w ls || list_all w xs)) × ((x : ℕ) → Contains xs x → Contains facts x) in
    elim c.if-not-is_denied.branch [
      | then-not-is_denied+in_ok-push b ↦
          subst P (sym b.others-is)
          (subst Q (sym b.in_ok-push.ensures.items) (
            one_more ls facts others k c.loop-fact-test.true c.loop-fact.invariant.0,
            λ x here.
                elim (Contains-push_cases others (get_or facts k 0) x here) [
                  | inl before ↦ c.loop-fact.invariant.1 x before
                  | inr same ↦ let R : ℕ → Type 0 = λ x. Contains facts x in subst R same (Contains-get_or facts k 0 c.loop-fact-test.true)
                ],
          ))
      | else-not-is_denied b ↦
          subst P (sym b.others-is) (one_less ls facts others k c.loop-fact-test.true c.loop-fact.invariant.0 (c.is_denied.ensures b.if-not-is_denied.false), c.loop-fact.invariant.1)
    ]
