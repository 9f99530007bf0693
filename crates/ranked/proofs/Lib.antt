mod Changed
mod Halves
mod Joined
mod Keys
mod Searched
