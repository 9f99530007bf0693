-- How work is shared out among the data workers of a node, and how what they tell is put together.
pub mod Gathered
pub mod Workers
