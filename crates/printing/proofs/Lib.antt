mod Escapes
mod Pieces
mod Values
mod Skips
mod Shown
mod Dues
mod Nexts
mod Showing
