pub mod Docs
