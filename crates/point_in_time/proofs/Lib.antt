mod Entries
mod Gone
mod Left
