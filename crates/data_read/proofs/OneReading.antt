-- A text writes one database, or is refused for one cause.
use Rattle.std.proofs.Common.{◌≡◌, ◌≢◌, ◌∙◌, sym, ◌⊎◌, inl, inr, ℕ, List, refl, ap, subst}
use Rattle.type_schema.specs.Schema.{Schema}
use Rattle.data_meaning.specs.Database.{Database}
use Rattle.data_records.specs.declared.data_err.Limit.{Limit}
use Rattle.data_tree.specs.declared.tables.TableLit.{TableLit}
use Rattle.data_tree.specs.Texts.{IsDataText}
use Rattle.data_tree.specs.Grammar.{data_form}
use Rattle.data_tree.proofs.GrammarAnswers.{data_answer}
use Rattle.data_parse.specs.Refused as parse
use Rattle.data_parse.proofs.OneText.{OneText, one_text}
use Rattle.data_judge.specs.Judged as judge
use Rattle.data_judge.specs.declared.fault.Fault.TheVariants as fault
use Rattle.data_judge.specs.declared.fault.Refusal.{Refusal}
use Rattle.data_judge.specs.declared.fault.Refusal.TheVariants as refusal
use Rattle.data_judge.specs.declared.limits.Limits.{Limits}
use Rattle.data_judge.specs.declared.limits.Limits.TheVariants.{Asked, Waived}
use Rattle.data_judge.proofs.Exists.{Judgement, some-judgement}
use Rattle.data_judge.proofs.One.{one-database, given-not-refused, one-refusal}
use Rattle.text_parse.specs.declared.syntax_err.SyntaxErr.{SyntaxErr}
use Rattle.text_parse.specs.declared.syntax_err.SyntaxErr.TheVariants as syntax
use Rattle.data_read.specs.declared.read_err.ReadErr.{ReadErr}
use Rattle.data_read.specs.declared.read_err.ReadErr.TheVariants as err
use Rattle.data_read.specs.Causes.{of_syntax, of_refusal}
use Rattle.data_read.specs.Reading.{IsRead, AreRefusedFor, IsRefusedAs}

texts : OneText data_form
texts = one_text data_form data_answer

-- a refusal is that of the parser, or that of tables
record OfParser (text : List ℕ) (e : ReadErr) : Type 0 where
  syntax_err : SyntaxErr
  is : e ≡ err.Syntax syntax_err
  refused : parse.IsRefusedAs data_form text syntax_err

record OfTables (limits : Limits) (s : Schema) (text : List ℕ) (e : ReadErr) : Type 0 where
  reason : Refusal
  is : e ≡ of_refusal reason
  known : reason ≢ refusal.OutOfMemory
  refused : AreRefusedFor limits s text reason

module _ (limits : Limits) (s : Schema) (text : List ℕ) where
  abbrev Origin : ReadErr → Type 0
  Origin e = OfParser text e ⊎ OfTables limits s text e

  origin : (e : ReadErr) → IsRefusedAs limits s text e → Origin e
  origin (err.Syntax e) r = inl (record { syntax_err = e; is = refl; refused = r })
  origin (err.Unknown at) r = inr (record { reason = refusal.Broken (fault.Unknown at); is = refl; known = λ e. cc; refused = r })
  origin (err.Absent at) r = inr (record { reason = refusal.Broken (fault.Absent at); is = refl; known = λ e. cc; refused = r })
  origin (err.Twice at) r = inr (record { reason = refusal.Broken (fault.Twice at); is = refl; known = λ e. cc; refused = r })
  origin (err.WrongShape at) r = inr (record { reason = refusal.Broken (fault.WrongShape at); is = refl; known = λ e. cc; refused = r })
  origin (err.BadId at) r = inr (record { reason = refusal.Broken (fault.BadId at); is = refl; known = λ e. cc; refused = r })
  origin (err.Dangling at) r = inr (record { reason = refusal.Dangling at; is = refl; known = λ e. cc; refused = r })
  origin (err.Full what) r = inr (record { reason = refusal.Full what; is = refl; known = λ e. cc; refused = r })
  origin err.OutOfMemory r = absurd r

  pub one-read : (d e : Database) → IsRead limits s text d → IsRead limits s text e → d ≡ e
  one-read d e (ts, t, g) (us, u, h) =
      let same : ts ≡ us = texts.one text ts us t u in
      one-database s us d e (subst (λ z. judge.IsGiven limits s z d) same g).reads.writes h.reads.writes

  not-refused : (d : Database) (e : ReadErr) → IsRead limits s text d → Origin e → ⊥
  not-refused d e (ts, t, g) (inl o) = texts.tree text ts o.syntax_err t o.refused
  not-refused d e (ts, t, g) (inr o) =
      let (us, u, r) = o.refused in
      let same : ts ≡ us = texts.one text ts us t u in
      given-not-refused limits s us d o.reason o.known (subst (λ z. judge.IsGiven limits s z d) same g) r

  pub read-not-refused : (d : Database) (e : ReadErr) → IsRead limits s text d → IsRefusedAs limits s text e → ⊥
  read-not-refused d e is r = not-refused d e is (origin e r)

  same-refusal : (e f : ReadErr) → Origin e → Origin f → e ≡ f
  same-refusal e f (inl o) (inl p) = o.is ∙ ap err.Syntax (texts.refusal text o.syntax_err p.syntax_err o.refused p.refused) ∙ sym p.is
  same-refusal e f (inl o) (inr p) = let (us, u, r) = p.refused in absurd (texts.tree text us o.syntax_err u o.refused)
  same-refusal e f (inr o) (inl p) = let (us, u, r) = o.refused in absurd (texts.tree text us p.syntax_err u p.refused)
  same-refusal e f (inr o) (inr p) =
      let (ts, t, r) = o.refused in
      let (us, u, q) = p.refused in
      let same : ts ≡ us = texts.one text ts us t u in
      o.is ∙ ap of_refusal (one-refusal limits s us o.reason p.reason o.known p.known (subst (λ z. judge.IsRefusedFor limits s z o.reason) same r) q) ∙ sym p.is

  pub one-reason : (e f : ReadErr) → IsRefusedAs limits s text e → IsRefusedAs limits s text f → e ≡ f
  one-reason e f r q = same-refusal e f (origin e r) (origin f q)

  -- ---- what the parts answer

  named-syntax : (e : SyntaxErr) → (e ≢ syntax.OutOfMemory → parse.IsRefusedAs data_form text e) → of_syntax e ≢ err.OutOfMemory → IsRefusedAs limits s text (of_syntax e)
  named-syntax (syntax.NotText at) r some = r (λ e. cc)
  named-syntax (syntax.BadByte at) r some = r (λ e. cc)
  named-syntax (syntax.BadNumber at) r some = r (λ e. cc)
  named-syntax (syntax.Unfinished at) r some = r (λ e. cc)
  named-syntax (syntax.NotGrammar token) r some = r (λ e. cc)
  named-syntax (syntax.TooDeep at) r some = r (λ e. cc)
  named-syntax (syntax.TooManyTokens at) r some = r (λ e. cc)
  named-syntax (syntax.TooMany what at) r some = r (λ e. cc)
  named-syntax syntax.OutOfMemory r some = absurd (some refl)

  pub of-parser : (e : SyntaxErr) (answer : ReadErr) → (e ≢ syntax.OutOfMemory → parse.IsRefusedAs data_form text e) → answer ≡ of_syntax e → answer ≢ err.OutOfMemory
      → IsRefusedAs limits s text answer
  of-parser e answer r is some = subst (IsRefusedAs limits s text) (sym is) (named-syntax e r (λ same. some (is ∙ same)))

  named-refusal : (r : Refusal) → AreRefusedFor limits s text r → of_refusal r ≢ err.OutOfMemory → IsRefusedAs limits s text (of_refusal r)
  named-refusal (refusal.Broken (fault.Unknown at)) r some = r
  named-refusal (refusal.Broken (fault.Absent at)) r some = r
  named-refusal (refusal.Broken (fault.Twice at)) r some = r
  named-refusal (refusal.Broken (fault.WrongShape at)) r some = r
  named-refusal (refusal.Broken (fault.BadId at)) r some = r
  named-refusal (refusal.Dangling at) r some = r
  named-refusal (refusal.Full what) r some = r
  named-refusal refusal.OutOfMemory r some = absurd (some refl)

  pub of-tables : (r : Refusal) (answer : ReadErr) → AreRefusedFor limits s text r → answer ≡ of_refusal r → answer ≢ err.OutOfMemory → IsRefusedAs limits s text answer
  of-tables r answer refused is some = subst (IsRefusedAs limits s text) (sym is) (named-refusal r refused (λ same. some (is ∙ same)))

  -- ---- one of them

  judged : (ts : List TableLit) → IsDataText text ts → Judgement limits s ts → ((d : Database) × IsRead limits s text d) ⊎ ((e : ReadErr) × IsRefusedAs limits s text e)
  judged ts t (inl (d, g)) = inl (d, (ts, t, g))
  judged ts t (inr (r, known, refused)) = inr (of_refusal r, named-refusal r (ts, t, refused) (λ e. known (is-memory r e)))
    where
      is-memory : (r : Refusal) → of_refusal r ≡ err.OutOfMemory → r ≡ refusal.OutOfMemory
      is-memory (refusal.Broken (fault.Unknown at)) e = cc
      is-memory (refusal.Broken (fault.Absent at)) e = cc
      is-memory (refusal.Broken (fault.Twice at)) e = cc
      is-memory (refusal.Broken (fault.WrongShape at)) e = cc
      is-memory (refusal.Broken (fault.BadId at)) e = cc
      is-memory (refusal.Dangling at) e = cc
      is-memory (refusal.Full what) e = cc
      is-memory refusal.OutOfMemory e = refl

  parsed : ((x : List TableLit) × IsDataText text x) ⊎ ((e : SyntaxErr) × parse.IsRefusedAs data_form text e)
      → ((d : Database) × IsRead limits s text d) ⊎ ((e : ReadErr) × IsRefusedAs limits s text e)
  parsed (inl (ts, t)) = judged ts t (some-judgement limits s ts)
  parsed (inr (e, r)) = inr (err.Syntax e, r)

  pub some-reading : ((d : Database) × IsRead limits s text d) ⊎ ((e : ReadErr) × IsRefusedAs limits s text e)
  some-reading = parsed (texts.some text)

-- ---- without the limits

module _ (s : Schema) (text : List ℕ) where
  pub also-kept : (d : Database) → IsRead Asked s text d → IsRead Waived s text d
  also-kept d (ts, t, g) = (ts, t, record { reads = g.reads; within = refl })

  pub above-limits : (what : Limit) → IsRefusedAs Asked s text (err.Full what) → (d : Database) × IsRead Waived s text d
  above-limits what (ts, t, (d, reads, over)) = (d, (ts, t, record { reads = reads; within = refl }))

  pub never-full : (what : Limit) → IsRefusedAs Waived s text (err.Full what) → ⊥
  never-full what (ts, t, (d, reads, over)) = cc
