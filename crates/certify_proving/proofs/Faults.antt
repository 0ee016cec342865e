-- Why no more was written, of a part and of parts.
use Rattle.std.proofs.Common.{◌≡◌, ℕ, ◌+◌, ◌<◌, ◌≤◌, List, [], ◌∷◌, get_or, length, inl, inr, sym, subst, arith}
use Rattle.std.specs.Prelude.{IfErr, OnOk, Option, Result, Ok, Err, Some, slice_get}
use Rattle.std.proofs.lemmas.Bool.{cases_lt}
use Rattle.app_flow.specs.Faults.{Rose}
use Rattle.app_flow.specs.Told.{Appends}
use Rattle.type_schema.specs.Script.{Script}
use Rattle.form_formula.specs.declared.structure.Signature.{Signature}
use Rattle.duty_meaning.specs.Duties.{obligations_of}
use Rattle.duty_meaning.specs.Over.{IsSignatureOf}
use Rattle.duty_meaning.specs.declared.duty.Duty.{Duty}
use Rattle.certify_clauses.specs.Problem.{Problem}
use Rattle.certify_making.specs.Texts.{text_of}
use Rattle.certify_recheck.specs.declared.line.Line.TheVariants.{Heading}
use Rattle.certify_proving.specs.Proved.{IsFault, IsFaultBy}
use Rattle.certify_proving.specs.Parts.{ArePartsWritten, IsFaultOver, IsOpen, IsPartFault, IsPartsFault, IsProblem}
use Rattle.certify_proving.specs.declared.fault.ProveErr.{ProveErr}
use Rattle.certify_proving.specs.declared.fault.ProveErr.TheVariants.{NotRefuted, WriteFault, OutOfMemory}
use Rattle.certify_proving.proofs.Written.{cut_behind, duty_at, left_behind, more_cut, open_behind}

-- what is said of an answer says something else of it
pub ok_so : {T E : Type 0} (r : Result T E) (P Q : Type 0) → (P → Q) → OnOk r P → OnOk r Q
ok_so (Ok x) P Q more h = more h
ok_so (Err e) P Q more h = tt

pub err_so : {T E : Type 0} (r : Result T E) (P Q : E → Type 0) → ((e : E) → P e → Q e) → IfErr r P → IfErr r Q
err_so (Ok x) P Q more h = tt
err_so (Err e) P Q more h = more e h

-- a count that rose later rose
pub rose_later : (a b c : ℕ) → a ≤ b → b ≤ c → Rose b c → Rose a c
rose_later a b c before after (inl rose) = inl (omega (arith, before, rose))
rose_later a b c before after (inr last) =
    elim (cases_lt a c) [
      | inl rose ↦ inl rose
      | inr stood ↦ inr (omega (arith, before, after, last, stood))
    ]

module _ (t : Script) (g : Signature) {O : Type 0} (told : O → Option (List ℕ)) (faults : O → ℕ) where
  -- over clauses that are the obligation's
  pub part_fault : (duty : Duty) (number : ℕ) (c : Problem) → IsProblem t g duty c → (old new : O) (e : ProveErr) → IsFaultOver told faults old new c number duty e
      → IsPartFault t g duty number told faults old new e
  part_fault duty number c is old new (NotRefuted d) (same, has, kept) = (same, record { problem = c; is = is; open_ = has }, kept)
  part_fault duty number c is old new WriteFault (rose, (text, is_part, front)) = (rose, record { problem = c; is = is; text = text; is_part = is_part; front = front })
  part_fault duty number c is old new OutOfMemory kept = kept

  -- behind some parts
  pub parts_fault : (a b c : O) (n number : ℕ) (duty : Duty) → slice_get (obligations_of t) n ≡ Some duty → number ≡ n + 1 → ArePartsWritten t g n (told a) (told b) → faults a ≤ faults b → faults b ≤ faults c
      → (e : ProveErr) → IsPartFault t g duty number told faults b c e → IsPartsFault t g told faults a c e
  parts_fault a b c n number duty at is h before after (NotRefuted d) (same, open_, kept) = record {
    count = n;
    at = subst (λ (x : Duty). slice_get (obligations_of t) n ≡ Some x) (sym same) at;
    open_ = subst (λ (x : Duty). IsOpen t g x) (sym same) open_;
    written = subst (λ (o : O). ArePartsWritten t g n (told a) (told o)) (sym kept) h;
  }
  parts_fault a b c n number duty at is h before after WriteFault (rose, cut) = (rose_later (faults a) (faults b) (faults c) before after rose, more_cut t g (told a) (told b) (told c) n number duty at is h cut)
  parts_fault a b c n number duty at is h before after OutOfMemory kept = (n, subst (λ (o : O). ArePartsWritten t g n (told a) (told o)) (sym kept) h)

  pub fault_at : (a b c : O) (ds : List Duty) (d : Duty) (n number : ℕ) → ds ≡ obligations_of t → n < length ds → number ≡ n + 1 → ArePartsWritten t g n (told a) (told b) → faults a ≤ faults b → faults b ≤ faults c
      → (e : ProveErr) → IsPartFault t g (get_or ds n d) number told faults b c e → IsPartsFault t g told faults a c e
  fault_at a b c ds d n number all lt is h before after e p = parts_fault a b c n number (get_or ds n d) (duty_at t g ds d n all lt) is h before after e p

  -- behind a first line
  pub behind_fault : (a b c : O) (line : List ℕ) → line ≡ text_of (Heading ∷ []) → Appends (told a) (told b) line → faults a ≤ faults b → faults b ≤ faults c
      → (e : ProveErr) → IsPartsFault t g told faults b c e → IsFaultBy t g told faults a c e
  behind_fault a b c line heads first before after (NotRefuted d) h = open_behind t g (told a) (told b) (told c) line heads first d h
  behind_fault a b c line heads first before after WriteFault (rose, cut) = (rose_later (faults a) (faults b) (faults c) before after rose, cut_behind t g (told a) (told b) (told c) line heads first cut)
  behind_fault a b c line heads first before after OutOfMemory (n, h) = (n, left_behind t g (told a) (told b) (told c) line heads first n h)

  -- over a signature of the script
  pub with_signature : IsSignatureOf t.start g → (old new : O) (e : ProveErr) → IsFaultBy t g told faults old new e → IsFault t told faults old new e
  with_signature of old new (NotRefuted d) h = record { signature = g; signature_of = of; so = h }
  with_signature of old new WriteFault h = (h.0, record { signature = g; signature_of = of; so = h.1 })
  with_signature of old new OutOfMemory h = inr (record { signature = g; signature_of = of; so = h })
