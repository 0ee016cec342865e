use Rattle.std.proofs.Common.{◌≡◌, ◌∙◌, ◌≤◌, ℕ, List, Bool, false, subst, sym, ap, arith, rules, length, drop}
use Rattle.std.specs.Prelude.{replicate}
use Rattle.std.specs.List.{flat_map}
use Rattle.form_terms.specs.Parts.{parts_of}
use Rattle.ground_terms.specs.Codes.{AreMarked, code_sorts}
use Rattle.ground_terms.specs.Needed.{AreSpread, AreNeededAfter}
use Rattle.ground_terms.proofs.Thinned.{marked_thinned}
use Rattle.ground_terms.proofs.NeededRounds.{after_marking, after_spreading, settled, none_marked_at, written_back, same_marks}
use Rattle.ground_terms.proofs.needed.needed_sorts.Goals as goal

pub rounds-init : goal.rounds-init
rounds-init c = λ f h.
    let sig = c.args.signature.now in
    let items : c.in_ok-marks.marks.items ≡ replicate sig.sorts false = search rules in
    let new : List Bool = c.mark_parts.new.marks in
    let size : length new ≡ c.in_ok-marks.marks.len = omega (arith, c.mark_parts.ensures.size, ap length c.as_mut_slice.ensures.value, c.in_ok-marks.marks.ok) in
    let P : List Bool → Type 0 = λ ms. AreNeededAfter sig f 0 ms in
    let Q : List Bool → Type 0 = λ old. AreMarked (flat_map (code_sorts sig c.args.arena.now) c.args.parts.now) old new in
    subst P (sym (written_back c.in_ok-marks.marks.len new (drop (length new) c.in_ok-marks.marks.items) size))
    (after_marking sig f new (λ sort. none_marked_at sig.sorts sort)
    (marked_thinned sig c.args.arena.now (parts_of f) c.args.parts.now h (replicate sig.sorts false) new (subst Q (c.as_mut_slice.ensures.value ∙ items) c.mark_parts.ensures)))

pub rounds-preserved : goal.rounds-preserved
rounds-preserved c = λ f h.
    let s : AreSpread c.args.signature.now.funs c.rounds.marks.items c.rounds.marks.items c.in_ok-next.next.items = search rules in
    after_spreading c.args.signature.now f c.rounds.round c.rounds.marks.items c.in_ok-next.next.items (c.rounds.invariant f h) s

pub returns-then-eq : goal.returns-then-eq
returns-then-eq c = λ f h.
    let same : c.in_ok-next.next.items ≡ c.rounds.marks.items = same_marks _ _ (sym c.eq.ensures ∙ c.if-eq.true) in
    let s : AreSpread c.args.signature.now.funs c.rounds.marks.items c.rounds.marks.items c.in_ok-next.next.items = search rules in
    let P : List Bool → Type 0 = λ next. AreSpread c.args.signature.now.funs c.rounds.marks.items c.rounds.marks.items next in
    let le : c.rounds.round ≤ c.args.signature.now.sorts = omega arith in
    settled c.args.signature.now f c.rounds.round c.args.signature.now.sorts c.rounds.marks.items le (c.rounds.invariant f h) (subst P same s)

pub returns : goal.returns
returns c = λ f h.
    let P : ℕ → Type 0 = λ n. AreNeededAfter c.args.signature.now f n c.rounds.marks.items in
    let end : c.rounds.round ≡ c.args.signature.now.sorts = omega arith in
    subst P end (c.rounds.invariant f h)
