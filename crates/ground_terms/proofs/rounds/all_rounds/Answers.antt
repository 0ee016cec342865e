use Rattle.std.proofs.Common.{◌≡◌, ◌∙◌, ◌++◌, List, ℕ, [], subst, sym, arith}
use Rattle.std.specs.List.{flat_map}
use Rattle.std.specs.Cmp.Lexicographic.{same_text}
use Rattle.ground_terms.specs.declared.node.TermNode.{TermNode}
use Rattle.ground_terms.specs.Applying.{fields_of, code_skolems, round_terms}
use Rattle.ground_terms.specs.Standing.{terms_at, AreOnes, AreTermsAt, AreListed}
use Rattle.ground_terms.proofs.Standing.{ones_kept}
use Rattle.ground_terms.proofs.AllRounds.{round_begun, round_on, round_settled}
use Rattle.ground_terms.proofs.rounds.all_rounds.Goals as goal

pub rounds-init : goal.rounds-init
rounds-init c = round_begun c.args.signature.now c.args.start.functions.now c.args.start.parts.now c.args.start.plain.now c.args.first.items c.args.terms.now c.requires.first

pub next_round-requires : goal.next_round-requires
next_round-requires c =
    let P : List ℕ → Type 0 = λ ids. AreOnes c.rounds.terms ids in
    record { plain = ones_kept c.args.terms.now c.rounds.terms c.args.start.plain.now c.rounds.invariant.kept c.requires.plain; current = subst P (sym c.as_slice.ensures.value) c.rounds.invariant.stand.ones }

pub rounds-preserved : goal.rounds-preserved
rounds-preserved c =
    let g = c.args.signature.now in
    let fs : List ℕ = c.args.start.functions.now in
    let ps = c.args.start.parts.now in
    let plain : List ℕ = c.args.start.plain.now in
    let b : List TermNode = c.rounds.terms in
    let d : List TermNode = c.next_round.new.terms in
    let N : List ℕ → Type 0 =
    λ current. AreListed (terms_at b plain ++ (flat_map (fields_of g (terms_at b current)) fs ++ flat_map (code_skolems g (terms_at b current)) ps)) b d [] c.in_ok-next.next.items in
    round_on g fs ps plain c.args.first.items c.args.terms.now b d c.rounds.round c.rounds.current.items c.in_ok-next.next.items c.requires.plain c.rounds.invariant
    (subst N c.as_slice.ensures.value c.in_ok-next.ensures)

pub returns-then-eq : goal.returns-then-eq
returns-then-eq c =
    let g = c.args.signature.now in
    let fs : List ℕ = c.args.start.functions.now in
    let ps = c.args.start.parts.now in
    let plain : List ℕ = c.args.start.plain.now in
    let b : List TermNode = c.rounds.terms in
    let d : List TermNode = c.next_round.new.terms in
    let N : List ℕ → Type 0 =
    λ current. AreListed (terms_at b plain ++ (flat_map (fields_of g (terms_at b current)) fs ++ flat_map (code_skolems g (terms_at b current)) ps)) b d [] c.in_ok-next.next.items in
    let same : c.in_ok-next.next.items ≡ c.rounds.current.items = same_text _ _ (sym c.if-eq.true ∙ c.eq.ensures) in
    let step = subst N c.as_slice.ensures.value c.in_ok-next.ensures in
    round_settled g fs ps plain c.args.first.items c.args.terms.now b d c.rounds.round c.args.rounds c.rounds.current.items c.in_ok-next.next.items (omega arith) c.rounds.invariant
    (round_on g fs ps plain c.args.first.items c.args.terms.now b d c.rounds.round c.rounds.current.items c.in_ok-next.next.items c.requires.plain c.rounds.invariant step)
    step.kept same

pub returns : goal.returns
returns c =
    let g = c.args.signature.now in
    let P : ℕ → Type 0 =
    λ n. AreTermsAt c.rounds.terms c.rounds.current.items
    (round_terms g c.args.start.functions.now c.args.start.parts.now (terms_at c.args.terms.now c.args.start.plain.now) (terms_at c.args.terms.now c.args.first.items) n) in
    let end : c.rounds.round ≡ c.args.rounds = omega arith in
    subst P end c.rounds.invariant.stand
