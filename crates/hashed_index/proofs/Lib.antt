pub mod Rounds
pub mod Seeks
pub mod Moves
pub mod Edits
