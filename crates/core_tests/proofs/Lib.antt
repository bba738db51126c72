mod Counted
mod Ring
mod Told
