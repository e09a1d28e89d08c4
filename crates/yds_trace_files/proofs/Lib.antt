mod Reading
mod Examples
