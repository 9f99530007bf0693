pub mod Calls
pub mod Seats
pub mod Plain
pub mod PlainSeats
pub mod PlainLists
pub mod PlainNew
pub mod Race
