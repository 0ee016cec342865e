-- The rest of a buffer.
use Rattle.std.proofs.Common.{◌≡◌, ◌≢◌, ℕ, ◌+◌, ◌-◌, ◌<◌, ◌≤◌, List, [], ◌∷◌, ◌++◌, length, take, Option, None, Some, refl, sym, ap, subst, ◌∙◌, arith, append-nil, append_assoc, length-append}
use Rattle.std.specs.Prelude.{slice_range}
use Rattle.std.specs.Io.KnownBytes.{Consumes}
use Rattle.std.proofs.lemmas.List.Elements.{All-nil, All-append, All-same}
use Rattle.door_lines.specs.Lines.{LineBufState, IsInLine, IsRest, SameLimits, held}
use Rattle.door_lines.specs.Turns.{HasTaken, SameCounts}
use Rattle.door_lines.proofs.Ranges.{empty_range, kept_range, size_range, split_range}

pub in_line_more : (xs ys : List ℕ) → IsInLine xs → IsInLine ys → IsInLine (xs ++ ys)
in_line_more xs ys = All-append (λ b. b ≢ 10) xs ys

pub in_line_same : (xs ys : List ℕ) → xs ≡ ys → IsInLine ys → IsInLine xs
in_line_same xs ys = All-same (λ b. b ≢ 10) xs ys

-- where what is held has no newline, the rest has none
pub rest_in_line : (buf : LineBufState) (rest : List ℕ) → IsRest buf rest → IsInLine (held buf) → IsInLine rest
rest_in_line buf rest r in_line = in_line_same rest (r.gone ++ held buf) r.glued (in_line_more r.gone (held buf) r.in_line in_line)

-- nothing was let go, and this is held
pub fresh_rest : (buf : LineBufState) (rest : List ℕ) → buf.dropped ≡ 0 → held buf ≡ rest → IsRest buf rest
fresh_rest buf rest none same = record { gone = []; glued = sym same; size = sym none; in_line = All-nil (λ b. b ≢ 10) }

-- the same, held at another place
pub moved_rest : (old new : LineBufState) → held new ≡ held old → new.dropped ≡ old.dropped → (rest : List ℕ) → IsRest old rest → IsRest new rest
moved_rest old new same none rest r = record {
  gone = r.gone;
  glued = r.glued ∙ ap (λ l. r.gone ++ l) (sym same);
  size = r.size ∙ sym none;
  in_line = r.in_line;
}

-- all that was held is let go
pub let_go_rest : (old new : LineBufState) → old.from ≡ 0 → old.to ≡ length old.room → IsInLine (held old) → new.to ≡ 0 → new.dropped ≡ old.dropped + old.to
    → (rest : List ℕ) → IsRest old rest → IsRest new rest
let_go_rest old new front full in_line empty more rest r = record {
  gone = r.gone ++ held old;
  glued = r.glued ∙ sym (append-nil (r.gone ++ held old)) ∙ ap (λ l. (r.gone ++ held old) ++ l) (sym (empty_range new.room new.from new.to (omega arith)));
  size = (let s = size_range old.room old.from old.to (omega arith) (omega arith) in omega (arith, length-append r.gone (held old), s, r.size, more, front));
  in_line = in_line_more r.gone (held old) r.in_line in_line;
}

pub consumes_none : (a : Option (List ℕ)) → Consumes a a []
consumes_none None = tt
consumes_none (Some xs) = refl

pub consumes_kept : (a b : Option (List ℕ)) → b ≡ a → Consumes a b []
consumes_kept a b e = subst (λ z. Consumes a z []) (sym e) (consumes_none a)

pub consumes_then : (a b c : Option (List ℕ)) (xs ys : List ℕ) → Consumes a b xs → Consumes b c ys → Consumes a c (xs ++ ys)
consumes_then None b c xs ys p q = tt
consumes_then (Some x) None c xs ys p q = absurd p
consumes_then (Some x) (Some y) None xs ys p q = absurd q
consumes_then (Some x) (Some y) (Some z) xs ys p q = p ∙ ap (λ l. xs ++ l) q ∙ sym (append_assoc xs ys z)

-- so many bytes came behind those that are held
pub filled : (left behind : Option (List ℕ)) (old new : LineBufState) (n : ℕ) → old.from ≤ old.to → take old.to new.room ≡ take old.to old.room
    → new.from ≡ old.from → new.to ≡ old.to + n → new.to ≤ length new.room → new.dropped ≡ old.dropped → new.taken ≡ old.taken + n → SameLimits old new
    → Consumes left behind (slice_range new.room old.to (old.to + n)) → HasTaken left behind old new
filled left behind old new n ordered kept from to within dropped taken limits consumed =
    let came = slice_range new.room old.to (old.to + n) in
    let front : slice_range new.room old.from old.to ≡ held old = kept_range old.room new.room old.from old.to ordered kept in
    let more : held new ≡ held old ++ came =
    ap (λ k. slice_range new.room k new.to) from ∙ ap (slice_range new.room old.from) to
    ∙ split_range new.room old.from old.to (old.to + n) ordered (omega arith) ∙ ap (λ l. l ++ came) front in
    record {
      came = came;
      consumed = consumed;
      counted = (let s = size_range new.room old.to (old.to + n) (omega arith) (omega (arith, within, to)) in omega (arith, s, taken));
      limits = limits;
      rest = λ rest r. record {
        gone = r.gone;
        glued = ap (λ l. l ++ came) r.glued ∙ append_assoc r.gone (held old) came ∙ ap (λ l. r.gone ++ l) (sym more);
        size = r.size ∙ sym dropped;
        in_line = r.in_line;
      };
    }

-- no byte came
pub stood : (left behind : Option (List ℕ)) (old new : LineBufState) → behind ≡ left → held new ≡ held old → new.dropped ≡ old.dropped → new.taken ≡ old.taken → SameLimits old new
    → HasTaken left behind old new
stood left behind old new told same dropped taken limits = record {
  came = [];
  consumed = consumes_kept left behind told;
  counted = (omega (arith, taken));
  limits = limits;
  rest = λ rest r. subst (IsRest new) (sym (append-nil rest)) (moved_rest old new same dropped rest r);
}

pub untouched : (left : Option (List ℕ)) (buf : LineBufState) → HasTaken left left buf buf
untouched left buf = stood left left buf buf refl refl refl refl (record { line_limit = refl; budget = refl })

-- what is held in the front of the room stays where the front does
pub held_stood : (old new : LineBufState) → old.from ≤ old.to → take old.to new.room ≡ take old.to old.room → new.from ≡ old.from → new.to ≡ old.to → held new ≡ held old
held_stood old new ordered kept from to =
    ap (λ k. slice_range new.room k new.to) from ∙ ap (slice_range new.room old.from) to ∙ kept_range old.room new.room old.from old.to ordered kept

pub same_limits : (a b c : LineBufState) → SameLimits a b → SameLimits b c → SameLimits a c
same_limits a b c p q = record { line_limit = q.line_limit ∙ p.line_limit; budget = q.budget ∙ p.budget }

-- room was made, and then bytes came
pub made_then : (left behind : Option (List ℕ)) (a b c : LineBufState) → ((rest : List ℕ) → IsRest a rest → IsRest b rest) → SameCounts a b → HasTaken left behind b c → HasTaken left behind a c
made_then left behind a b c moved same t = record {
  came = t.came;
  consumed = t.consumed;
  counted = t.counted ∙ ap (λ n. n + length t.came) same.taken;
  limits = same_limits a b c same.limits t.limits;
  rest = λ rest r. t.rest rest (moved rest r);
}

pub taken_then : (u v w : Option (List ℕ)) (a b c : LineBufState) → HasTaken u v a b → HasTaken v w b c → HasTaken u w a c
taken_then u v w a b c s t = record {
  came = s.came ++ t.came;
  consumed = consumes_then u v w s.came t.came s.consumed t.consumed;
  counted = (omega (arith, s.counted, t.counted, length-append s.came t.came));
  limits = same_limits a b c s.limits t.limits;
  rest = λ rest r. subst (IsRest c) (append_assoc rest s.came t.came) (t.rest (rest ++ s.came) (s.rest rest r));
}
