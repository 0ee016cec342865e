pub mod Commands
pub mod Exprs
pub mod Marks
pub mod Models
pub mod Public
pub mod Reprinted
