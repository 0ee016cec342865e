use Rattle.std.proofs.Common.{◌≡◌, ℕ, ◌+◌, ◌<◌, ◌++◌, List, [], ◌∷◌, length, take, drop, get_or, sym, ap, ◌∙◌, arith}
use Rattle.std.proofs.lemmas.Bool.{false≢true}
use Rattle.std.proofs.lemmas.List.{take_more, take-append-drop, append_assoc, length-append, length-take}
use Rattle.solve_theory.specs.LitBuf.{LitList}
use Rattle.solve_theory.proofs.Models.{HasModel-front, IsCore-front}
use Rattle.solve_theory.proofs.probing.probe.Goals as goal

-- the literals that the theory had and all further ones are those asserted so far, one more, and the rest
split_at_literal : {X : Type 0} (xs ys : List X) (i : ℕ) (d : X) → i < length ys → ((xs ++ take i ys) ++ get_or ys i d ∷ []) ++ drop (i + 1) ys ≡ xs ++ ys
split_at_literal xs ys i d h =
    let joined = take-append-drop (i + 1) ys in
    let more = take_more ys i d h in
    simp append_assoc (ap (λ t. xs ++ t) (sym (append_assoc (take i ys) (get_or ys i d ∷ []) (drop (i + 1) ys)) ∙ ap (λ t. t ++ drop (i + 1) ys) (sym more) ∙ joined))

pub conflict-requires-clause-room : goal.conflict-requires-clause-room
conflict-requires-clause-room g c =
    let T = g.T.Theory in
    let e = c.assert.ensures.list ∙ ap (λ t. t ++ c.literal-item.result ∷ []) c.loop-literal.invariant.list in
    let n = simp (length-append, length-take) at (ap length e) in
    let room : c.loop-literal.core.capacity ≡ c.args.core.now.capacity = ap (λ (b : LitList ℕ). b.capacity) c.loop-literal.invariant.core in
    omega (arith, n)

-- the theory's literals as the loop asserted them, and the rest, are all that were asked about
all_literals : (g : _) (c : goal.After-undo g) → g.T.Theory.literals c.assert.new.self ++ drop (c.loop-literal.literal-index + 1) c.args.literals.now ≡ g.T.Theory.literals c.args.theory.now ++ c.args.literals.now
all_literals g c =
    rw (c.assert.ensures.list, c.loop-literal.invariant.list, c.literal-item.is)
    (split_at_literal (g.T.Theory.literals c.args.theory.now) c.args.literals.now c.loop-literal.literal-index c.literal-item.result c.loop-literal-test.true)

pub returns-then-not-assert-clause-verdict : goal.returns-then-not-assert-clause-verdict
returns-then-not-assert-clause-verdict g c =
    let T = g.T.Theory in
    let rest = drop (c.loop-literal.literal-index + 1) c.args.literals.now in (
      λ e. absurd (false≢true e),
      λ h. c.if-not-assert.ensures.verdict.1
          (rw (c.assert.ensures.models, c.loop-literal.invariant.models)
          (HasModel-front (T.models c.args.theory.now) T.meets (T.literals c.assert.new.self) rest (rw (all_literals g c) h))),
    )

pub returns-then-not-assert-clause-core : goal.returns-then-not-assert-clause-core
returns-then-not-assert-clause-core g c =
    let T = g.T.Theory in
    let rest = drop (c.loop-literal.literal-index + 1) c.args.literals.now in
    rw (← all_literals g c, ← c.loop-literal.invariant.models, ← c.assert.ensures.models)
    (IsCore-front (T.models c.assert.new.self) T.meets (T.literals c.assert.new.self) rest c.conflict.new.out.items
    (rw (← c.conflict.ensures.list, ← c.conflict.ensures.models) c.conflict.ensures.core))
