-- Laws of lists: of all elements or one; what a writing loop leaves, entries put in and taken out by place.
pub mod All
pub mod Written
pub mod Places
