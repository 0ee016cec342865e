-- Pairs of numbered terms.
use Rattle.std.proofs.Common.{ℕ, zero, suc, ◌<◌, List, [], ◌∷◌, arith, length, get_or}
use Rattle.ground_terms.specs.declared.node.TermNode.{TermNode}
use Rattle.ground_terms.specs.Nodes.{IsOne}
use Rattle.ground_problem.specs.Words.{ArePairs}
use Rattle.ground_problem.specs.declared.words.PairNode.{PairNode}

pub holder_at : (terms : List TermNode) (ps : List PairNode) (k : ℕ) (d : PairNode) → ArePairs terms ps → k < length ps → IsOne terms (get_or ps k d).holder
holder_at terms [] k d h within = absurd (omega arith)
holder_at terms (p ∷ ps) zero d h within = h.0.0
holder_at terms (p ∷ ps) (suc k) d h within = holder_at terms ps k d h.1 (omega arith)

pub member_at : (terms : List TermNode) (ps : List PairNode) (k : ℕ) (d : PairNode) → ArePairs terms ps → k < length ps → IsOne terms (get_or ps k d).member
member_at terms [] k d h within = absurd (omega arith)
member_at terms (p ∷ ps) zero d h within = h.0.1
member_at terms (p ∷ ps) (suc k) d h within = member_at terms ps k d h.1 (omega arith)
