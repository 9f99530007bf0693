pub mod Lookups
pub mod Tickets
pub mod PlacedBans
pub mod Passing
pub mod Marking
pub mod RaceTickets
pub mod RaceBans
pub mod RaceMarks
