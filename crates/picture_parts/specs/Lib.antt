-- What is said of the characters that a page shows.
pub mod Markup
