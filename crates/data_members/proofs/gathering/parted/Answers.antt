use Rattle.std.proofs.Common.{ap, ◌∙◌}
use Rattle.data_meaning.specs.Meaning.{same_truth}
use Rattle.data_members.specs.Sets.{is_one_of}
use Rattle.data_members.proofs.Founds.{told-filter}
use Rattle.data_members.proofs.Gathers.{same-members}
use Rattle.data_members.proofs.gathering.parted.Goals as goal

pub chosen-requires : goal.chosen-requires
chosen-requires c = rw c.as_slice.ensures.value c.rising_principals-qs.ensures.rising

pub returns : goal.returns
returns c =
    told-filter (λ all. all.items) c.chosen.result (λ p. same_truth c.args.wanted (is_one_of c.as_slice.result.now p)) (λ p. same_truth c.args.wanted (is_one_of c.args.qs.items p)) c.args.ps.now
    (λ p. ap (λ us. same_truth c.args.wanted (is_one_of us p)) c.as_slice.ensures.value
    ∙ ap (same_truth c.args.wanted) (same-members c.rising_principals-qs.result.items c.args.qs.items c.rising_principals-qs.ensures p))
    c.chosen.ensures
