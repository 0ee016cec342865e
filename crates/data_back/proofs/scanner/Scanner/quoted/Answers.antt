use Rattle.std.proofs.Common.{rules, ◌≡◌, ◌∙◌, sym, ap, Vec, Global, ℕ}
use Rattle.std.specs.Prelude.{Some, None}
use Rattle.std.proofs.lemmas.Result.{err_from_is_err_and}
use Rattle.data_back.specs.Reading.{quote, word_at, character_at}
use Rattle.data_back.proofs.ScanTurns.{at-quote, at-other, at-one, stopped}
use Rattle.data_back.proofs.scanner.Scanner.quoted.Goals as goal

pub returns-then-takes : goal.returns-then-takes
returns-then-takes c =
    let l = c.loop-turn in
    let e : word_at quote l.self ≡ Some (tt, c.takes.new.self) = search rules in
    sym l.invariant ∙ at-quote l.bytes.items l._turn _ l.self c.loop-turn-test.true c.takes.new.self e

pub returns-in_err-byte : goal.returns-in_err-byte
returns-in_err-byte c =
    let l = c.loop-turn in
    let e : word_at quote l.self ≡ None = search rules in
    let same : c.takes.new.self ≡ l.self = search rules in
    let p = err_from_is_err_and c.from_residual.result c.from_residual.ensures.1 in
    let was = rw c.in_err-byte.was at c.character.ensures in
    rw (p.1, p.2) (stopped (λ (x : ℕ). x) (λ (bytes : Vec ℕ Global). bytes.items) _ _ _ _ _ was
    (λ none. sym l.invariant ∙ at-other l.bytes.items l._turn _ l.self c.loop-turn-test.true e (ap character_at (sym same) ∙ none)))

pub loop-turn-preserved : goal.loop-turn-preserved
loop-turn-preserved c =
    let l = c.loop-turn in
    let e : word_at quote l.self ≡ None = search rules in
    let same : c.takes.new.self ≡ l.self = search rules in
    let read : character_at l.self ≡ Some (c.in_ok-byte.byte, c.character.new.self) = ap character_at (sym same) ∙ c.in_ok-byte.ensures in
    rw c.in_ok-push.ensures (sym (at-one l.bytes.items l._turn _ l.self c.loop-turn-test.true c.in_ok-byte.byte c.character.new.self e read) ∙ l.invariant)
