pub mod Characters
pub mod Spanned
pub mod Known
pub mod Slotted
pub mod Marks
pub mod Judging
pub mod Cells
pub mod Answers
