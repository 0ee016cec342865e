use Rattle.std.proofs.Common.{◌++◌, ap, sym, ◌∙◌, append_assoc, List, ℕ, Bor}
use Rattle.app_files.proofs.Joined.{concat-next}
use Rattle.app_files.proofs.pieces.push_pieces.Goals as goal

pub loop-piece-preserved : goal.loop-piece-preserved
loop-piece-preserved c =
    rw (c.in_ok-extend_from_slice.ensures.items, c.loop-piece.invariant)
    (append_assoc c.args.out.now.items _ _
    ∙ ap (λ (z : List ℕ). c.args.out.now.items ++ z) (sym (concat-next (λ (piece : Bor (List ℕ)). piece.now) c.args.pieces.now c.loop-piece.piece-index _ c.loop-piece-test.true)))
