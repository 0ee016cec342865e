pub mod Items
pub mod ModelColumns
pub mod ModelMeets
pub mod OrderLaws
pub mod SideLaws
pub mod TextLists
