-- A list of pieces is refused for the first cause that stands in it, and the reader answers so.
use Rattle.std.proofs.Common.{◌≡◌, ◌⊎◌, inl, inr, ℕ, ◌≤◌, ◌<◌, ◌+◌, arith, List, [], ◌∷◌, ◌++◌, length, length-append, true, refl, ap, sym, ◌∙◌, subst, append_assoc, append-nil}
use Rattle.text_ast.specs.Pieces.{Piece}
use Rattle.text_tree.specs.Forms.{Cause, NotGrammar, TooDeep, TooManyTokens, TooManyStatics, TooManyModels, TooManyFields, TooManyCommands, loosened}
use Rattle.text_tree.specs.Levels.{SpellsPart, BeginsPart, IsTooDeep}
use Rattle.door_requests.specs.Grammar.{G, rule}
use Rattle.text_ast.specs.Limits.{most_levels}
use Rattle.door_requests.specs.Texts.{IsSpelled, IsSpelledAt, IsBegunAt, IsBegun, first_of}
use Rattle.text_grammar.specs.Reading.{Answer, Got, Stuck, read, read_part}
use Rattle.text_grammar.specs.Answers.{whole}
use Rattle.door_requests.specs.Answers.{answer, IsNotGrammar, Means}
use Rattle.text_grammar.proofs.Lists.{compare}
use Rattle.text_grammar.proofs.Tables.{fine}
use Rattle.text_grammar.proofs.FormShapes.{shape}
use Rattle.text_grammar.proofs.LevelsAgree.{form_agrees, shape_at}
use Rattle.door_requests.proofs.GrammarFits.{fits, goes_on}
use Rattle.text_grammar.proofs.Agrees.{Blocked}
use Rattle.text_grammar.proofs.WholeLists.{limited, limited_sound}
use Rattle.door_requests.proofs.WholeLists.{answers}
use Rattle.text_grammar.specs.Causes.{GoesFirst}
use Rattle.door_requests.specs.Causes.{IsEnd, IsLimitAt, Stands, IsRefused}
use Rattle.text_grammar.proofs.Caught.{Caught}
use Rattle.text_grammar.proofs.WithinCaught.{same_back, no_shorter}
use Rattle.text_grammar.proofs.Raised.{spells_raised, begins_raised, breaks_raised, part_spells, part_begins, part_deep}
use Rattle.text_grammar.proofs.FormCaught.{counts_parts, counts_sound, form_catches}

-- the form is of a grammar whose choices the next token decides
pub record Decided {A : Type 0} (f : G A) : Type 0 where
  pub is_fine : fine first_of goes_on f ≡ true
  pub is_limited : limited f ≡ true
  pub counts : counts_parts f ≡ true

begun_raised : {A : Type 0} (f : G A) (n m : ℕ) → n ≤ m → (ls : List Piece) → IsBegunAt n f ls → IsBegunAt m f ls
begun_raised f n m le ls h =
    begins_raised (SpellsPart rule n) (SpellsPart rule m) (part_spells rule first_of goes_on fits n m le) (BeginsPart rule first_of n) (BeginsPart rule first_of m)
    (part_begins rule first_of goes_on fits n m le) f ls h

spelled_raised : {A : Type 0} (f : G A) (n m : ℕ) → n ≤ m → (x : A) (ls : List Piece) → IsSpelledAt n f x ls → IsSpelledAt m f x ls
spelled_raised f n m le x ls h = spells_raised (SpellsPart rule n) (SpellsPart rule m) (part_spells rule first_of goes_on fits n m le) (loosened f) x ls h

begun_closed : {A : Type 0} (f : G A) → Decided f → (a b : List Piece) → IsBegun f (a ++ b) → IsBegun f a
begun_closed f d a b (m, h) =
    (m, (shape first_of goes_on (SpellsPart rule m) (BeginsPart rule first_of m) (shape_at rule first_of goes_on fits m) f d.is_fine).closed a b h)

spelled_begun : {A : Type 0} (f : G A) → Decided f → (x : A) (ls : List Piece) → IsSpelledAt most_levels f x ls → IsBegun f ls
spelled_begun f d x ls h =
    (most_levels, (shape first_of goes_on (SpellsPart rule most_levels) (BeginsPart rule first_of most_levels) (shape_at rule first_of goes_on fits most_levels) f d.is_fine).begun x ls h)

spelled_freely : {A : Type 0} (f : G A) → Decided f → (x : A) (ls : List Piece) → IsSpelled f x ls → IsSpelledAt most_levels f x ls
spelled_freely f d x ls h = (form_agrees rule first_of goes_on fits most_levels most_levels (omega arith) f d.is_fine (limited_sound f d.is_limited)).free x ls h

-- ---- limits

-- the pieces up to the broken limit begin the form, and the reader is stopped there
record Broken {A : Type 0} (f : G A) (c : Cause) (ls rest : List Piece) : Type 0 where
  front : List Piece
  last : Piece
  more : List Piece
  glued : ls ≡ front ++ rest
  stands : rest ≡ last ∷ more
  begun : IsBegun f (front ++ last ∷ [])
  caught : Caught (answer f ls) c rest

caught_whole : {A : Type 0} (ans : Answer A) (c : Cause) (rest : List Piece) → Caught ans c rest → Caught (whole ans) c rest
caught_whole ans c rest k = record { cause = k.cause; stop = k.stop; is = ap whole k.is; first = k.first }

limit_caught : {A : Type 0} (f : G A) → Decided f → (c : Cause) (ls rest : List Piece) → IsLimitAt c f ls rest → Broken f c ls rest
unfolding answer
limit_caught f d c ls rest (m, o) =
    let most : ℕ = m + most_levels in
    let up : m ≤ most = omega arith in
    let enough : most_levels ≤ most = omega arith in
    let k = form_catches rule first_of goes_on fits most_levels most enough f d.is_fine (limited_sound f d.is_limited) (counts_sound f d.counts) in
    let breaks = breaks_raised (SpellsPart rule most_levels) (SpellsPart rule m) (SpellsPart rule most) (part_spells rule first_of goes_on fits m most up)
    (BeginsPart rule first_of m) (BeginsPart rule first_of most) (part_begins rule first_of goes_on fits m most up)
    (IsTooDeep rule first_of m most_levels) (IsTooDeep rule first_of most most_levels) (part_deep rule first_of goes_on fits most_levels m most up)
    c f (o.front ++ o.last ∷ []) o.breaks in
    let whole_is : ls ≡ o.front ++ o.last ∷ o.more = o.glued ∙ ap (λ z. o.front ++ z) o.stands in
    let here = k.caught c o.front o.last o.more breaks in
    record {
      front = o.front;
      last = o.last;
      more = o.more;
      glued = o.glued;
      stands = o.stands;
      begun = (most, k.begins c (o.front ++ o.last ∷ []) breaks);
      caught = subst (λ z. Caught (answer f z) c rest) (sym whole_is) (subst (λ z. Caught (answer f (o.front ++ o.last ∷ o.more)) c z) (sym o.stands)
          (caught_whole (read first_of (read_part rule first_of most_levels) f (o.front ++ o.last ∷ o.more)) c (o.last ∷ o.more) here));
    }

-- ---- the end of what begins

end_blocked : {A : Type 0} (f : G A) (ls rest : List Piece) (e : IsEnd f ls rest) → Blocked (IsBegun f) e.front rest
end_blocked f ls [] e = tt
end_blocked f ls (l ∷ rest) e = e.next l rest refl

-- what begins is no longer than what ends
begun_before : {A : Type 0} (f : G A) → Decided f → (ls rest begun more : List Piece) → IsEnd f ls rest → ls ≡ begun ++ more → IsBegun f begun → length rest ≤ length more
begun_before f d ls rest begun more e is be =
    let le = no_shorter (IsBegun f) (begun_closed f d) begun more e.front rest (sym is ∙ e.glued) be (end_blocked f ls rest e) in
    omega (arith, le, ap length is, ap length e.glued, length-append begun more, length-append e.front rest)

one_end : {A : Type 0} (f : G A) → Decided f → (ls rest other : List Piece) → IsEnd f ls rest → IsEnd f ls other → other ≡ rest
one_end f d ls rest other e k =
    let one = begun_before f d ls rest k.front other e k.glued k.begun in
    let two = begun_before f d ls other e.front rest k e.glued e.begun in
    same_back k.front other e.front rest (sym k.glued ∙ e.glued) (omega (arith, one, two))

end_before : {A : Type 0} (f : G A) → Decided f → (c : Cause) (ls rest other : List Piece) → IsEnd f ls rest → Broken f c ls other → length rest < length other
end_before f d c ls rest other e b =
    let is : ls ≡ (b.front ++ b.last ∷ []) ++ b.more = b.glued ∙ ap (λ z. b.front ++ z) b.stands ∙ sym (append_assoc b.front (b.last ∷ []) b.more) in
    let le = begun_before f d ls rest (b.front ++ b.last ∷ []) b.more e is b.begun in
    omega (arith, le, ap length b.stands)

spelled_no_end : {A : Type 0} (f : G A) → Decided f → (x : A) (ls rest : List Piece) → IsSpelled f x ls → IsEnd f ls rest → ⊥
spelled_no_end f d x ls [] s e =
    let all : ls ≡ e.front = e.glued ∙ append-nil e.front in
    e.ends refl most_levels x (subst (IsSpelledAt most_levels f x) all (spelled_freely f d x ls s))
spelled_no_end f d x ls (l ∷ rest) s e =
    let le = begun_before f d ls (l ∷ rest) ls [] e (sym (append-nil ls)) (spelled_begun f d x ls (spelled_freely f d x ls s)) in
    omega (arith, le)

no_more : (a rest : List Piece) → rest ≡ a ++ rest → a ≡ []
no_more [] rest e = refl
no_more (x ∷ a) rest e = absurd (omega (arith, ap length e, length-append a rest))

-- two fronts before the same rest are one
same_front : (a b rest : List Piece) → a ++ rest ≡ b ++ rest → a ≡ b
same_front a b rest e =
    elim (compare a rest b rest e) [
      | inl g ↦ sym (g.longer ∙ ap (λ z. a ++ z) (no_more g.more rest g.rest) ∙ append-nil a)
      | inr g ↦ g.longer ∙ ap (λ z. b ++ z) (no_more g.more rest g.rest) ∙ append-nil b
    ]

-- ---- what stands where the reader stops

end_stands : {A : Type 0} (f : G A) (ls rest : List Piece) → ((m : ℕ) → most_levels ≤ m → IsNotGrammar m f ls rest) → IsEnd f ls rest
end_stands f ls rest all =
    let least = all most_levels (omega arith) in
    record {
      front = least.front;
      glued = least.glued;
      begun = (most_levels, least.begun);
      ends = λ e n x h.
          let up = all (n + most_levels) (omega arith) in
          up.ends e x (subst (IsSpelledAt (n + most_levels) f x) (same_front least.front up.front rest (sym least.glued ∙ up.glued)) (spelled_raised f n (n + most_levels) (omega arith) x least.front h));
      next = λ l more e h.
          let up = all (h.0 + most_levels) (omega arith) in
          up.next l more e (subst (λ z. IsBegunAt (h.0 + most_levels) f (z ++ l ∷ [])) (same_front least.front up.front rest (sym least.glued ∙ up.glued))
          (begun_raised f h.0 (h.0 + most_levels) (omega arith) (least.front ++ l ∷ []) h.1));
    }

stuck_stands : {A : Type 0} (f : G A) (ls : List Piece) (c : Cause) (rest : List Piece) → ((m : ℕ) → most_levels ≤ m → Means m f ls (Stuck c rest)) → Stands c f ls rest
stuck_stands f ls NotGrammar rest all = end_stands f ls rest all
stuck_stands f ls TooDeep rest all = (most_levels, all most_levels (omega arith))
stuck_stands f ls TooManyTokens rest all = (most_levels, all most_levels (omega arith))
stuck_stands f ls TooManyStatics rest all = (most_levels, all most_levels (omega arith))
stuck_stands f ls TooManyModels rest all = (most_levels, all most_levels (omega arith))
stuck_stands f ls TooManyFields rest all = (most_levels, all most_levels (omega arith))
stuck_stands f ls TooManyCommands rest all = (most_levels, all most_levels (omega arith))

answer_means : {A : Type 0} (f : G A) → Decided f → (m : ℕ) → most_levels ≤ m → (ls : List Piece) → Means m f ls (answer f ls)
answer_means f d m le ls = (answers f d.is_fine d.is_limited).means m le ls

answer_stands : {A : Type 0} (f : G A) → Decided f → (ls : List Piece) (c : Cause) (rest : List Piece) → answer f ls ≡ Stuck c rest → Stands c f ls rest
answer_stands f d ls c rest e = stuck_stands f ls c rest (λ m le. subst (Means m f ls) e (answer_means f d m le ls))

-- ---- the first cause

after_limit : {A : Type 0} (f : G A) → Decided f → (ls rest : List Piece) → IsEnd f ls rest → (c : Cause) (other : List Piece) → IsLimitAt c f ls other
    → Caught {A = A} (Stuck c other) NotGrammar rest
after_limit f d ls rest e c other s =
    record { cause = c; stop = other; is = refl; first = inl (end_before f d c ls rest other e (limit_caught f d c ls other s)) }

-- the end goes after every other cause
end_caught : {A : Type 0} (f : G A) → Decided f → (ls rest : List Piece) → IsEnd f ls rest → (ans : Answer A) → answer f ls ≡ ans → Caught ans NotGrammar rest
end_caught f d ls rest e (Got x other) is = absurd (spelled_no_end f d x ls rest (subst (Means most_levels f ls) is (answer_means f d most_levels (omega arith) ls)) e)
end_caught f d ls rest e (Stuck NotGrammar other) is =
    record { cause = NotGrammar; stop = other; is = refl; first = inr (one_end f d ls rest other e (answer_stands f d ls NotGrammar other is), inr refl) }
end_caught f d ls rest e (Stuck TooDeep other) is = after_limit f d ls rest e TooDeep other (answer_stands f d ls TooDeep other is)
end_caught f d ls rest e (Stuck TooManyTokens other) is = after_limit f d ls rest e TooManyTokens other (answer_stands f d ls TooManyTokens other is)
end_caught f d ls rest e (Stuck TooManyStatics other) is = after_limit f d ls rest e TooManyStatics other (answer_stands f d ls TooManyStatics other is)
end_caught f d ls rest e (Stuck TooManyModels other) is = after_limit f d ls rest e TooManyModels other (answer_stands f d ls TooManyModels other is)
end_caught f d ls rest e (Stuck TooManyFields other) is = after_limit f d ls rest e TooManyFields other (answer_stands f d ls TooManyFields other is)
end_caught f d ls rest e (Stuck TooManyCommands other) is = after_limit f d ls rest e TooManyCommands other (answer_stands f d ls TooManyCommands other is)

stands_caught : {A : Type 0} (f : G A) → Decided f → (c : Cause) (ls rest : List Piece) → Stands c f ls rest → Caught (answer f ls) c rest
stands_caught f d NotGrammar ls rest s = end_caught f d ls rest s (answer f ls) refl
stands_caught f d TooDeep ls rest s = (limit_caught f d TooDeep ls rest s).caught
stands_caught f d TooManyTokens ls rest s = (limit_caught f d TooManyTokens ls rest s).caught
stands_caught f d TooManyStatics ls rest s = (limit_caught f d TooManyStatics ls rest s).caught
stands_caught f d TooManyModels ls rest s = (limit_caught f d TooManyModels ls rest s).caught
stands_caught f d TooManyFields ls rest s = (limit_caught f d TooManyFields ls rest s).caught
stands_caught f d TooManyCommands ls rest s = (limit_caught f d TooManyCommands ls rest s).caught

stuck_same : {A : Type 0} {c d : Cause} {rest other : List Piece} → (let one : Answer A = Stuck c rest in one ≡ Stuck d other) → (d ≡ c) × (other ≡ rest)
stuck_same {A} {c} {d} {rest} {other} e = (let one : d ≡ c = cc in one, let two : other ≡ rest = cc in two)

stuck_first : {A : Type 0} (f : G A) → Decided f → (c d : Cause) (ls rest other : List Piece) → answer f ls ≡ Stuck c rest → Stands d f ls other → GoesFirst c rest d other
stuck_first f decided c d ls rest other is s =
    let k = stands_caught f decided d ls other s in
    let same = stuck_same (sym is ∙ k.is) in
    subst (λ z. GoesFirst z rest d other) same.0 (subst (λ z. GoesFirst k.cause z d other) same.1 k.first)

stuck_refused : {A : Type 0} (f : G A) → Decided f → (c : Cause) (ls rest : List Piece) → answer f ls ≡ Stuck c rest → IsRefused f c ls rest
stuck_refused f decided c ls rest is = record {
  stands = answer_stands f decided ls c rest is;
  first = λ d other s. stuck_first f decided c d ls rest other is s;
}

-- of two causes that go before each other
first_same : (c d : Cause) (rest other : List Piece) → GoesFirst c rest d other → GoesFirst d other c rest → (c ≡ d) × (rest ≡ other)
first_same c d rest other (inl h) (inl k) = absurd (omega (arith, h, k))
first_same c d rest other (inl h) (inr k) = absurd (omega (arith, h, ap length k.0))
first_same c d rest other (inr h) (inl k) = absurd (omega (arith, k, ap length h.0))
first_same c d rest other (inr (same, inl h)) (inr (back, inl k)) = absurd (omega (arith, h, k))
first_same c d rest other (inr (same, inl h)) (inr (back, inr k)) = (sym k, same)
first_same c d rest other (inr (same, inr h)) (inr k) = (h, same)

got_stuck : {A : Type 0} {x : A} {c : Cause} {rest other : List Piece} → Got x rest ≡ Stuck c other → ⊥
got_stuck {A} {x} {c} {rest} {other} e = cc

got_same : {A : Type 0} {x y : A} {rest other : List Piece} → Got x rest ≡ Got y other → x ≡ y
got_same {A} {x} {y} {rest} {other} e = cc

got_rest : {A : Type 0} {x y : A} {rest other : List Piece} → Got x rest ≡ Got y other → rest ≡ other
got_rest {A} {x} {y} {rest} {other} e = cc

got_spelled : {A : Type 0} (f : G A) → Decided f → (x : A) (ls rest : List Piece) → answer f ls ≡ Got x rest → IsSpelled f x ls
got_spelled f d x ls rest is = subst (Means most_levels f ls) is (answer_means f d most_levels (omega arith) ls)

either_answer : {A : Type 0} (f : G A) → Decided f → (ls : List Piece) (ans : Answer A) → answer f ls ≡ ans
    → ((x : A) × IsSpelled f x ls) ⊎ ((c : Cause) × (rest : List Piece) × IsRefused f c ls rest)
either_answer f d ls (Got x rest) is = inl (x, got_spelled f d x ls rest is)
either_answer f d ls (Stuck c rest) is = inr (c, rest, stuck_refused f d c ls rest is)

-- ---- all of it

pub record OneAnswer {A : Type 0} (f : G A) : Type 0 where
  pub some : (ls : List Piece) → ((x : A) × IsSpelled f x ls) ⊎ ((c : Cause) × (rest : List Piece) × IsRefused f c ls rest)
  pub one : (x y : A) (ls : List Piece) → IsSpelled f x ls → IsSpelled f y ls → x ≡ y
  pub tree : (x : A) (c : Cause) (ls rest : List Piece) → IsSpelled f x ls → ¬ (Stands c f ls rest)
  pub refusal : (c d : Cause) (ls rest other : List Piece) → IsRefused f c ls rest → IsRefused f d ls other → (c ≡ d) × (rest ≡ other)
  pub got : (x : A) (ls rest : List Piece) → answer f ls ≡ Got x rest → (rest ≡ []) × IsSpelled f x ls
  pub stuck : (c : Cause) (ls rest : List Piece) → answer f ls ≡ Stuck c rest → IsRefused f c ls rest

pub one_answer : {A : Type 0} (f : G A) → Decided f → OneAnswer f
one_answer f decided = record {
  some = λ ls. either_answer f decided ls (answer f ls) refl;
  one = λ x y ls h k.
      let a = answers f decided.is_fine decided.is_limited in
      got_same (sym (a.read x ls h) ∙ a.read y ls k);
  tree = λ x c ls rest h s.
      let k = stands_caught f decided c ls rest s in
      got_stuck (sym ((answers f decided.is_fine decided.is_limited).read x ls h) ∙ k.is);
  refusal = λ c d ls rest other r s. first_same c d rest other (r.first d other s.stands) (s.first c rest r.stands);
  got = λ x ls rest is.
      let h = got_spelled f decided x ls rest is in
      (got_rest (sym is ∙ (answers f decided.is_fine decided.is_limited).read x ls h), h);
  stuck = λ c ls rest is. stuck_refused f decided c ls rest is;
}
