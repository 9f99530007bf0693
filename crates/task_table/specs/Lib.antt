pub mod Answer
pub mod Rows
pub mod Table
pub mod TicketParts
