mod Exports
mod Compared
mod Given
