pub mod Back
pub mod Built
pub mod Failing
pub mod Printed
pub mod Public
pub mod Witness
pub mod Worked
pub mod WorkedTexts
