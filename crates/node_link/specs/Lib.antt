-- What an inbox holds, what clauses say of the ends of an inbox, and what each letter of a run keeps.
pub mod Inbox
pub mod Lawful
pub mod Rule
