use Rattle.std.proofs.Common.{◌≡◌, ◌<◌, ◌≤◌, arith, length, length-append, [], ◌∷◌, get_or, Some, ℕ, List, ap, sym, subst, ◌∙◌}
use Rattle.std.specs.Prelude.{slice_get}
use Rattle.std.proofs.lemmas.Option.{slice_get-get_or}
use Rattle.form_formula.specs.declared.node.Node.{Node}
use Rattle.form_formula.specs.declared.node.Node.TheVariants.{Yes}
use Rattle.form_formula.specs.declared.normal_form.Forms.{Forms}
use Rattle.form_formula.specs.Nodes.{IsBelow, IsFormula}
use Rattle.form_formula.specs.Marks.{PassesOn, wanted_at}
use Rattle.form_formula.specs.Forms.{AreForms, AreFormsOf}
use Rattle.form_formula.proofs.Placement.{parts_below, parts_placed}
use Rattle.form_formula.proofs.FormLemmas.{extends_trans, parts_there, forms_push, passed_on_more, longer}
use Rattle.form_formula.proofs.normal_form.forms_for.Goals as goal

pub convert-requires : goal.convert-requires
convert-requires c =
    let id : ℕ = c.len-in-loop-wanted.result in
    let nodes : List Node = c.loop-wanted.arena in
    let node : Node = get_or nodes id Yes in
    let forms : List Forms = c.as_slice.result.now in
    let at : id ≡ length forms = omega (arith, c.len-in-loop-wanted.ensures, c.as_slice.ensures.len) in
    let index : length forms ≡ c.loop-wanted.wanted-index = ap length c.as_slice.ensures.value ∙ c.loop-wanted.invariant.2 in
    let kept : length c.args.arena.now ≤ length nodes = longer _ _ c.loop-wanted.invariant.0 in
    let within : id < length nodes = omega (arith, c.requires.within) in
    let there : slice_get nodes id ≡ Some node = slice_get-get_or nodes id Yes within in
    let placed = parts_placed nodes id node c.len.ensures.placed there in
    let B : ℕ → Type 0 = λ k. IsBelow k node in
    let below : IsBelow (length forms) node = subst B at (parts_below nodes id node c.len.ensures.placed there) in
    let A : List Forms → Type 0 = λ forms. AreForms nodes c.args.marks.now forms in
    let earlier : AreForms nodes c.args.marks.now forms = subst A (sym c.as_slice.ensures.value) c.loop-wanted.invariant.3 in
    let M : ℕ → Type 0 = λ k. PassesOn c.args.marks.now node (wanted_at c.args.marks.now k) in
    let passed : PassesOn c.args.marks.now node (wanted_at c.args.marks.now c.loop-wanted.wanted-index) =
    subst M (at ∙ index)
    (passed_on_more c.args.arena.now nodes c.args.marks.now c.loop-wanted.invariant.0 c.requires.within c.requires.passed_on id node (omega arith) (omega arith) there) in (
      there,
      (
        c.len.ensures.placed,
        (
          placed,
          (
            below,
            (
              (λ sign e. parts_there nodes c.args.marks.now forms node (wanted_at c.args.marks.now c.loop-wanted.wanted-index) sign earlier passed placed below e),
              omega (arith, c.requires.room, c.requires.within),
            ),
          ),
        ),
      ),
    )

pub loop-wanted-preserved : goal.loop-wanted-preserved
loop-wanted-preserved c =
    let nodes : List Node = c.loop-wanted.arena in
    let forms : List Forms = c.loop-wanted.forms.items in
    let kept : length c.args.arena.now ≤ length nodes = longer _ _ c.loop-wanted.invariant.0 in
    let at : c.len-in-loop-wanted.result ≡ length forms = omega (arith, c.len-in-loop-wanted.ensures, c.as_slice.ensures.len, ap length c.as_slice.ensures.value) in
    let A : List Forms → Type 0 = λ forms. AreForms c.convert.new.arena c.args.marks.now forms in
    let K : ℕ → Type 0 = λ k. IsFormula nodes k → AreFormsOf c.convert.new.arena (wanted_at c.args.marks.now c.loop-wanted.wanted-index) k c.in_ok-next.next in
    let W : ℕ → Type 0 = λ k. IsFormula nodes (length forms) → AreFormsOf c.convert.new.arena (wanted_at c.args.marks.now k) (length forms) c.in_ok-next.next in
    let last = subst W (sym c.loop-wanted.invariant.2) (subst K at c.in_ok-next.ensures.forms) in (
      extends_trans c.args.arena.now nodes c.convert.new.arena c.loop-wanted.invariant.0 c.convert.ensures.kept,
      omega (arith, c.convert.ensures.two_more, c.loop-wanted.invariant.1),
      omega (arith, ap length c.in_ok-push.ensures.items, length-append forms (c.in_ok-next.next ∷ []), c.loop-wanted.invariant.2),
      subst A (sym c.in_ok-push.ensures.items)
          (forms_push nodes c.convert.new.arena c.args.marks.now forms c.in_ok-next.next c.convert.ensures.kept (omega (arith, c.requires.within)) c.loop-wanted.invariant.3 last),
    )
