-- Stages, one after another: the first that stops decides, else what the last one passes on; and the calls of outside objects on the way.
use Rattle.std.specs.Prelude.{◌≡◌, ⊤, List, [], ◌∷◌, ◌++◌, Result, Ok, Err}
use Rattle.app_files.specs.declared.refusal.Refusal.{Refusal}
use Rattle.app_files.specs.declared.stop.Stop.{Stop}
use Rattle.app_files.specs.declared.stop.Stop.TheVariants.{Refused, ReadFault, OutOfMemory}

-- what a stage may come to: the value that it passes on, or why nothing goes on, which S says
abbrev pub StageOf : (S A : Type 0) → Type 1
StageOf S A = Result A S → Type 0

abbrev pub Stage : Type 0 → Type 1
Stage A = StageOf Stop A

-- The first stage stops, or it passes a value on and the second goes on from there.
pub data Then {S A B : Type 0} (first : StageOf S A) (second : A → StageOf S B) (end : Result B S) : Type 0 where
  Stops : (stop : S) → first (Err stop) → end ≡ Err stop → Then first second end
  Goes : (x : A) → first (Ok x) → second x end → Then first second end

-- A stage that asks nothing of the outside: it refuses for such a reason, or passes such a value on.
abbrev pub Judges : {A : Type 0} → (Refusal → Type 0) → (A → Type 0) → Stage A
Judges refuses passes (Ok x) = passes x
Judges refuses passes (Err (Refused refusal)) = refuses refusal
Judges refuses passes (Err ReadFault) = ⊥
Judges refuses passes (Err OutOfMemory) = ⊤

-- A stage that refuses nothing and passes this value on.
abbrev pub Passes : {A : Type 0} → A → Stage A
Passes x = Judges (λ r. ⊥) (λ y. y ≡ x)

-- The stage, with its value in the place of a larger one.
abbrev pub Gives : {S A B : Type 0} → (A → B) → StageOf S A → StageOf S B
Gives {S} {A} into stage (Ok y) = (x : A) × (y ≡ into x) × stage (Ok x)
Gives into stage (Err stop) = stage (Err stop)

-- The stage, with why it stops in the place of a larger reason.
abbrev pub Stopping : {S T A : Type 0} → (S → T) → StageOf S A → StageOf T A
Stopping into stage (Ok x) = stage (Ok x)
Stopping {S} into stage (Err stop) = (s : S) × (stop ≡ into s) × stage (Err s)

-- The stage comes to what a call answers, whose value stands for this one.
abbrev pub ComesTo : {S A B : Type 0} → StageOf S A → (B → A) → Result B S → Type 0
ComesTo stage seen (Ok x) = stage (Ok (seen x))
ComesTo stage seen (Err stop) = stage (Err stop)

-- ---- parts of a run, which call outside objects

-- A part of a run: the calls that it makes, in their order, and what it comes to.
abbrev pub PartOf : (S C A : Type 0) → Type 1
PartOf S C A = List C → StageOf S A

abbrev pub Part : (C A : Type 0) → Type 1
Part C A = PartOf Stop C A

-- No call is made.
abbrev pub Inside : {S C A : Type 0} → StageOf S A → PartOf S C A
Inside stage calls end = (calls ≡ []) × stage end

-- One call is made, and what comes of it is judged without another.
abbrev pub Calling : {S C A : Type 0} → C → StageOf S A → PartOf S C A
Calling call stage calls end = (calls ≡ call ∷ []) × stage end

-- The first part stops, or it passes a value on and the second goes on from there. The calls are those of both, in their order.
pub data Next {S C A B : Type 0} (first : PartOf S C A) (second : A → PartOf S C B) (calls : List C) (end : Result B S) : Type 0 where
  Stopped : (stop : S) → first calls (Err stop) → end ≡ Err stop → Next first second calls end
  Went : (x : A) → (before after : List C) → first before (Ok x) → second x after end → calls ≡ before ++ after → Next first second calls end

-- The part, whatever it calls: over objects in memory that are made for it.
abbrev pub InMemory : {S C A : Type 0} → PartOf S C A → StageOf S A
InMemory {S} {C} part end = (calls : List C) × part calls end
