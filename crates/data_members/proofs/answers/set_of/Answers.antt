use Rattle.std.proofs.Common.{ap, sym, ◌∙◌, subst, not}
use Rattle.std.specs.List.Sorted.{IsStrictlySortedBy}
use Rattle.data_members.specs.Has.{has}
use Rattle.data_members.specs.Sets.{principal_cmp}
use Rattle.data_members.proofs.Gathers.{same-members}
use Rattle.data_members.proofs.Orders.{none-rise}
use Rattle.data_members.proofs.answers.set_of.Goals as goal

pub returns-in-Only : goal.returns-in-Only
returns-in-Only c = record {
  same = λ q. same-members c.rising_principals.result.items c.in-Only.ps.items c.rising_principals.ensures q ∙ ap (λ all. has all q) (sym c.in-Only.is);
  some_rise = c.rising_principals.ensures.rising;
  but_rise = subst (IsStrictlySortedBy principal_cmp) (sym c.new.ensures.items) (none-rise principal_cmp);
  names_no_member = λ h. cc;
  names_no_other = λ h. c.new.ensures.items;
}

pub returns-in-AllBut : goal.returns-in-AllBut
returns-in-AllBut c = record {
  same = λ q. ap not (same-members c.rising_principals-in-AllBut.result.items c.in-AllBut.ps.items c.rising_principals-in-AllBut.ensures q) ∙ ap (λ all. has all q) (sym c.in-AllBut.is);
  some_rise = subst (IsStrictlySortedBy principal_cmp) (sym c.new-in-AllBut.ensures.items) (none-rise principal_cmp);
  but_rise = c.rising_principals-in-AllBut.ensures.rising;
  names_no_member = λ h. c.new-in-AllBut.ensures.items;
  names_no_other = λ h. cc;
}
