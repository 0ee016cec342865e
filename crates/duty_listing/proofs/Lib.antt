pub mod DutyLaws
pub mod Joined
pub mod KindLaws
pub mod Seen
pub mod UseLaws
