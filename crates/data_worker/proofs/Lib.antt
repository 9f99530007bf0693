pub mod Doing
pub mod KindSends
