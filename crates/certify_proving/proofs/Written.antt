-- A certificate, part by part.
use Rattle.std.proofs.Common.{◌≡◌, ℕ, ◌+◌, ◌<◌, ◌≤◌, List, [], ◌∷◌, ◌++◌, length, take, get_or, inl, inr, refl, sym, ◌∙◌, ap, subst, arith}
use Rattle.std.specs.Prelude.{Option, Some, slice_get}
use Rattle.std.proofs.lemmas.List.{take_all}
use Rattle.std.proofs.lemmas.Option.{slice_get-get_or}
use Rattle.type_schema.specs.Script.{Script}
use Rattle.form_formula.specs.declared.structure.Signature.{Signature}
use Rattle.duty_meaning.specs.Duties.{obligations_of}
use Rattle.duty_meaning.specs.declared.duty.Duty.{Duty}
use Rattle.app_flow.specs.Told.{Appends, AppendsFront}
use Rattle.app_flow.proofs.ToldLemmas.{Appends-none, Appends-then}
use Rattle.certify_clauses.specs.Problem.{Problem}
use Rattle.certify_making.specs.Texts.{IsPartText, text_of}
use Rattle.certify_recheck.specs.Due.{Due, ending, heading, part}
use Rattle.certify_recheck.specs.declared.line.Line.TheVariants.{Heading, End}
use Rattle.certify_scripts.specs.Certificates.{AreProblemsOf, IsCertificate, front_of, parts_from}
use Rattle.certify_scripts.proofs.PartLaws.{parts_push, problems_long, problems_push, take_long}
use Rattle.certify_proving.specs.Begun.{AreParts, IsBegun, IsTextOf}
use Rattle.certify_proving.specs.Parts.{ArePartsCut, ArePartsWritten, AreOpenBehind, IsPartCut, IsPartWritten, IsProblem}
use Rattle.certify_proving.specs.Proved.{IsCutBy, IsLeftBy, IsOpenBy, IsProvedBy}
use Rattle.certify_proving.proofs.Fronts.{front_behind}
use Rattle.certify_proving.proofs.Lines.{behind, ending_text, heading_text, joined, no_text, part_text, passes}

module _ (t : Script) (g : Signature) where
  pub no_parts : AreParts t g 0 []
  no_parts = record { problems = []; are = tt; of = no_text }

  -- one part more
  pub parts_more : (n : ℕ) (text more : List ℕ) (duty : Duty) (c : Problem) → AreParts t g n text → slice_get (obligations_of t) n ≡ Some duty → IsProblem t g duty c → IsPartText c (n + 1) more
      → AreParts t g (n + 1) (text ++ more)
  parts_more n text more duty c h at is p =
      let long = problems_long t g (take n (obligations_of t)) h.problems h.are in
      let short = take_long t g (obligations_of t) n duty at in
      let numbered : 1 + length h.problems ≡ n + 1 = omega (arith, long, short) in
      let pushed : parts_from 1 (h.problems ++ c ∷ []) ≡ parts_from 1 h.problems ++ part c (n + 1) ∷ [] = parts_push 1 h.problems c ∙ ap (λ k. parts_from 1 h.problems ++ part c k ∷ []) numbered in
      record {
        problems = h.problems ++ c ∷ [];
        are = problems_push t g (obligations_of t) h.problems n duty c at h.are is;
        of = subst (λ (ds : List Due). IsTextOf ds (text ++ more)) (sym pushed) (joined (parts_from 1 h.problems) (part c (n + 1) ∷ []) text more h.of (part_text c (n + 1) more p));
      }

  pub begun : (n : ℕ) (text : List ℕ) → AreParts t g n text → IsBegun t g n (text_of (Heading ∷ []) ++ text)
  begun n text h = record {
    problems = h.problems;
    are = h.are;
    of = joined (heading ∷ []) (parts_from 1 h.problems) (text_of (Heading ∷ [])) text heading_text h.of;
  }

  pub certificate : (n : ℕ) (text : List ℕ) → length (obligations_of t) ≤ n → AreParts t g n text → IsCertificate t g ((text_of (Heading ∷ []) ++ text) ++ text_of (End ∷ []))
  unfolding begun
  certificate n text all h =
      let of = joined (front_of h.problems) (ending ∷ []) (text_of (Heading ∷ []) ++ text) (text_of (End ∷ [])) (begun n text h).of ending_text in
      record {
        problems = h.problems;
        are = subst (λ (ds : List Duty). AreProblemsOf t g ds h.problems) (take_all n (obligations_of t) all) h.are;
        to = behind (front_of h.problems ++ ending ∷ []) ((text_of (Heading ∷ []) ++ text) ++ text_of (End ∷ [])) of;
        passes = passes (front_of h.problems ++ ending ∷ []) ((text_of (Heading ∷ []) ++ text) ++ text_of (End ∷ [])) of;
        whole = refl;
      }

  -- ---- what was written of parts

  pub none_written : (a : Option (List ℕ)) → ArePartsWritten t g 0 a a
  none_written a = record { text = []; parts = no_parts; appended = Appends-none a }

  module _ (a b c : Option (List ℕ)) (n number : ℕ) (duty : Duty) (at : slice_get (obligations_of t) n ≡ Some duty) (is : number ≡ n + 1) (h : ArePartsWritten t g n a b) where
    pub more_written : IsPartWritten t g duty number b c → ArePartsWritten t g (n + 1) a c
    more_written p = record {
      text = h.text ++ p.written.text;
      parts = parts_more n h.text p.written.text duty p.problem h.parts at p.is (subst (λ k. IsPartText p.problem k p.written.text) is p.written.is_part);
      appended = Appends-then a b c h.text p.written.text h.appended p.written.appended;
    }

    pub more_cut : IsPartCut t g duty number b c → ArePartsCut t g a c
    more_cut p = record {
      count = n + 1;
      text = h.text ++ p.text;
      parts = parts_more n h.text p.text duty p.problem h.parts at p.is (subst (λ k. IsPartText p.problem k p.text) is p.is_part);
      front = front_behind a b c h.text p.text h.appended p.front;
    }

  -- the obligation at a place of a slice
  pub duty_at : (ds : List Duty) (d : Duty) (n : ℕ) → ds ≡ obligations_of t → n < length ds → slice_get (obligations_of t) n ≡ Some (get_or ds n d)
  duty_at ds d n all lt = subst (λ (xs : List Duty). slice_get xs n ≡ Some (get_or ds n d)) all (slice_get-get_or ds n d lt)

  pub more_at : (a b c : Option (List ℕ)) (ds : List Duty) (d : Duty) (n number : ℕ) → ds ≡ obligations_of t → n < length ds → number ≡ n + 1 → ArePartsWritten t g n a b
      → IsPartWritten t g (get_or ds n d) number b c → ArePartsWritten t g (n + 1) a c
  more_at a b c ds d n number all lt is h p = more_written a b c n number (get_or ds n d) (duty_at ds d n all lt) is h p

  -- ---- and behind a first line

  module _ (a b c : Option (List ℕ)) (line : List ℕ) (heads : line ≡ text_of (Heading ∷ [])) (first : Appends a b line) where
    first_line : Appends a b (text_of (Heading ∷ []))
    first_line = subst (Appends a b) heads first

    pub left_behind : (n : ℕ) → ArePartsWritten t g n b c → IsLeftBy t g n a c
    left_behind n h = record {
      text = text_of (Heading ∷ []) ++ h.text;
      begun = begun n h.text h.parts;
      appended = Appends-then a b c (text_of (Heading ∷ [])) h.text first_line h.appended;
    }

    pub cut_behind : ArePartsCut t g b c → IsCutBy t g a c
    cut_behind h = record {
      text = text_of (Heading ∷ []) ++ h.text;
      of = inl (h.count, begun h.count h.text h.parts);
      front = front_behind a b c (text_of (Heading ∷ [])) h.text first_line h.front;
    }

    pub open_behind : (duty : Duty) → AreOpenBehind t g duty b c → IsOpenBy t g duty a c
    open_behind duty h = record { count = h.count; at = h.at; open_ = h.open_; left = left_behind h.count h.written }

    module _ (n : ℕ) (all : length (obligations_of t) ≤ n) (h : ArePartsWritten t g n b c) (d : Option (List ℕ)) (last : List ℕ) (ends : last ≡ text_of (End ∷ [])) where
      pub proved : Appends c d last → IsProvedBy t g a d
      unfolding left_behind
      proved e = record {
        text = (text_of (Heading ∷ []) ++ h.text) ++ text_of (End ∷ []);
        certificate = certificate n h.text all h.parts;
        appended = Appends-then a c d (text_of (Heading ∷ []) ++ h.text) (text_of (End ∷ [])) (left_behind n h).appended (subst (Appends c d) ends e);
      }

      pub cut_at_end : AppendsFront c d last → IsCutBy t g a d
      unfolding left_behind
      cut_at_end e = record {
        text = (text_of (Heading ∷ []) ++ h.text) ++ text_of (End ∷ []);
        of = inr (certificate n h.text all h.parts);
        front = front_behind a c d (text_of (Heading ∷ []) ++ h.text) (text_of (End ∷ [])) (left_behind n h).appended (subst (AppendsFront c d) ends e);
      }

  -- the first line was cut
  pub cut_first : (a b : Option (List ℕ)) (line : List ℕ) → line ≡ text_of (Heading ∷ []) → AppendsFront a b line → IsCutBy t g a b
  cut_first a b line heads front = record { text = line; of = inl (0, subst (IsBegun t g 0) (sym heads) (begun 0 [] no_parts)); front = front }
