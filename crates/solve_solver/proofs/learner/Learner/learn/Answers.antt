use Rattle.std.proofs.Common.{◌≡◌, length, ap, ◌∙◌, rules}
use Rattle.solve_solver.specs.Clauses.{IsWithin}
use Rattle.solve_solver.specs.Learned.{learned_list}
use Rattle.solve_solver.specs.Preferences.{PreferencesView}
use Rattle.solve_solver.proofs.LearnedClauses.{All-among}
use Rattle.solve_solver.proofs.Scores.{length-bumped_all, length-decayed}
use Rattle.solve_solver.proofs.learner.Learner.learn.Goals as goal

pub invariant_of-self : goal.invariant_of-self
invariant_of-self g c =
    let size = λ (p : PreferencesView). length p.scores in
    let scores : length c.decay.new.self.scores ≡ length c.self.inside.preferences.scores =
    ap size c.decay.ensures ∙ length-decayed c.bump_all.new.self ∙ ap size c.bump_all.ensures ∙ length-bumped_all c.self.inside.preferences c.items.result.now in
    record {
      entailed = search rules;
      within = All-among (IsWithin c.self.inside.state.vars) (learned_list c.self.inside.learned) (learned_list c.push-slot.new.self) c.items-2.result.now c.self.invariant.within (rw c.items-2.ensures c.collect.ensures.within) c.push-slot.ensures.among;
      wide = search rules;
      mark_each = search rules;
      reason_each = search rules;
      score_each = scores ∙ c.self.invariant.score_each;
      room_for_all = search rules;
      watch_each = search rules;
    }
