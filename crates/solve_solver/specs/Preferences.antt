-- What a contract sees of `Preferences`, and what its methods make of it.
use Rattle.std.specs.Prelude.{ℕ, ◌+◌, ◌-◌, ◌/◌, ◌^◌, Bool, List, [], ◌∷◌, min, map, nat_lt, if◌then◌else◌, slice_index, slice_set}
use Rattle.solve_solver.specs.declared.literal.PLit.{PLit}
use Rattle.solve_solver.specs.declared.preferences.TheConstants.{LARGEST_STEP, SCALE}

-- the score and the last value of each variable, and by how much a score is bumped
pub record PreferencesView : Type 0 where
  pub scores : List ℕ
  pub values : List Bool
  pub step : ℕ

-- the value that a variable has now is its last
abbrev pub noted : PreferencesView → PLit → PreferencesView
noted p l = record p { values = slice_set p.values l.var l.plus }

-- a number, or the largest of 64 bits where it is beyond
abbrev pub capped : ℕ → ℕ
capped n = min n (2 ^ 64 - 1)

-- a variable's score is bumped by the step
abbrev pub bumped : PreferencesView → ℕ → PreferencesView
bumped p var = record p { scores = slice_set p.scores var (capped (slice_index p.scores var + p.step)) }

-- the scores of a clause's variables are bumped one after another
abbrev pub bumped_all : PreferencesView → List PLit → PreferencesView
bumped_all p [] = p
bumped_all p (l ∷ ls) = bumped_all (bumped p l.var) ls

-- each score is divided
abbrev pub scaled_down : List ℕ → List ℕ
scaled_down scores = map (λ score. score / SCALE) scores

-- the step grows by a sixteenth, and where it is too large then, it and the scores are divided
abbrev pub decayed : PreferencesView → PreferencesView
decayed p =
    let step = capped (p.step + p.step / 16) in
    if nat_lt LARGEST_STEP step then (record p { scores = scaled_down p.scores; step = step / SCALE }) else (record p { step = step })
