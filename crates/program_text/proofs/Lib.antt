pub mod FirstLine
pub mod Numbers
pub mod Texts
pub mod Utf8Texts
pub mod Refills
pub mod Fronts
