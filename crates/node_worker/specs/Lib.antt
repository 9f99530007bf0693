-- What a worker was given and gave, what was sent of that, and what a job that ran a worker owes to what it began with.
pub mod Posts
pub mod Turns
pub mod Work
pub mod Job
pub mod Leaving
pub mod ControlPosts
pub mod Control
