-- Raising and aging keep how many scores there are.
use Rattle.std.proofs.Common.{◌≡◌, ◌+◌, ◌/◌, List, [], ◌∷◌, length, true, false, nat_lt, if◌then◌else◌, refl, ◌∙◌, slice_index}
use Rattle.std.proofs.lemmas.List.{length-map}
use Rattle.std.proofs.Math.ListN.{length-set}
use Rattle.solve_solver.specs.declared.literal.PLit.{PLit}
use Rattle.solve_solver.specs.declared.preferences.TheConstants.{LARGEST_STEP, SCALE}
use Rattle.solve_solver.specs.Preferences.{PreferencesView, capped, bumped, bumped_all, scaled_down, decayed}

pub length-bumped_all : (p : PreferencesView) (clause : List PLit) → length (bumped_all p clause).scores ≡ length p.scores
length-bumped_all p [] = refl
length-bumped_all p (l ∷ ls) =
    length-bumped_all (bumped p l.var) ls ∙ length-set p.scores l.var (capped (slice_index p.scores l.var + p.step))

pub length-decayed : (p : PreferencesView) → length (decayed p).scores ≡ length p.scores
length-decayed p =
    let step = capped (p.step + p.step / 16) in
    let older : PreferencesView = record p { scores = scaled_down p.scores; step = step / SCALE } in
    let same : PreferencesView = record p { step = step } in
    elim (nat_lt LARGEST_STEP step) as (λ b. length (if b then older else same).scores ≡ length p.scores) [
      | true ↦ length-map p.scores (λ score. score / SCALE)
      | false ↦ refl
    ]
