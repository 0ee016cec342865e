-- What a path leaves for later, by its last literal.
use Rattle.std.proofs.Common.{◌≡◌, not, List, [], ◌∷◌, ◌++◌, true, false, refl, sym, ◌∙◌, ap}
use Rattle.std.proofs.lemmas.List.{append-nil, append_assoc}
use Rattle.certify_clauses.specs.declared.literal.Literal.{Literal}
use Rattle.certify_clauses.specs.Paths.{opposite, pending, pending_behind, pending_one}

pending_behind-push : (front ls : List Literal) (l : Literal) → pending_behind front (ls ++ l ∷ []) ≡ pending_one (front ++ ls) l ++ pending_behind front ls
pending_behind-push front [] l = ap (λ f. pending_one f l) (sym (append-nil front)) ∙ sym (append-nil (pending_one (front ++ []) l))
pending_behind-push front (x ∷ xs) l =
    ap (λ t. t ++ pending_one front x) (pending_behind-push (front ++ x ∷ []) xs l)
    ∙ ap (λ f. (pending_one f l ++ pending_behind (front ++ x ∷ []) xs) ++ pending_one front x) (append_assoc front (x ∷ []) xs)
    ∙ append_assoc (pending_one (front ++ x ∷ xs) l) (pending_behind (front ++ x ∷ []) xs) (pending_one front x)

-- a literal at the end leaves its opposite for later, where it is positive
pub pending-push : (ls : List Literal) (l : Literal) → pending (ls ++ l ∷ []) ≡ pending_one ls l ++ pending ls
pending-push ls l = pending_behind-push [] ls l

pub pending-positive : (ls : List Literal) (l : Literal) → l.plus ≡ true → pending (ls ++ l ∷ []) ≡ (ls ++ opposite l ∷ []) ∷ pending ls
pending-positive ls l e = pending-push ls l ∙ (rw e refl)

pub pending-negative : (ls : List Literal) (l : Literal) → l.plus ≡ false → pending (ls ++ l ∷ []) ≡ pending ls
pending-negative ls l e = pending-push ls l ∙ (rw e refl)

-- the last literal was positive and is turned into its opposite
pub turned : (ls new : List Literal) (l : Literal) → l.plus ≡ true → new ≡ ls ++ opposite l ∷ [] → pending (ls ++ l ∷ []) ≡ new ∷ pending new
turned ls new l e f =
    let rest : pending new ≡ pending ls = ap pending f ∙ pending-negative ls (opposite l) (ap not e) in
    pending-positive ls l e ∙ (rw (rest, f) refl)
