mod Admitting
mod Comments
