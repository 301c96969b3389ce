-- What a unit hands out, exactly as the functions give it.
pub mod Handing
pub mod Looks
pub mod Meant
