pub mod Holding
pub mod IdOrder
pub mod Quotas
pub mod Undone
