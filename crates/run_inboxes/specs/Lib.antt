-- The ends of the inboxes of a cluster.
pub mod Pairs
pub mod Rows
pub mod Ends
pub mod Closed
