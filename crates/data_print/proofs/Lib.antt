pub mod Cuts
pub mod Mapped
pub mod RecordCuts
pub mod TableCuts
pub mod ValueCuts
