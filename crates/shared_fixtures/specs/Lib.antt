pub mod FilesOf
pub mod LinesWith
