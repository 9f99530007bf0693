-- Which cause a run tells, the jobs of threads, and what they left.
pub mod Causes
pub mod Jobs
