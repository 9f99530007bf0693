mod Causes
mod Noted
