mod Causes
mod Ended
mod Threads
