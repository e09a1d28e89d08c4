mod TooSlow
mod Compared
