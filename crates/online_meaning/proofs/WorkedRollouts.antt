-- The worked rollout, by evaluation.
use Rattle.std.proofs.Common.{refl}
use Rattle.online_meaning.specs.Worked.{WorkedRollout}

pub worked : WorkedRollout
worked = record {
  at_first = refl;
  one_is_done = refl;
  what_is_read_marks = refl;
  nothing_else_marks = refl;
  marked_goes_last = refl;
  another_is_done = refl;
  made_is_marked = refl;
  first_stays = refl;
  made = refl;
  evaluated = refl;
  through_a_field = refl;
  through_a_find = refl;
  no_find_behind = refl;
  a_find = refl;
}
