pub mod Buffer
pub mod Bytes
pub mod Writer
pub mod Writers
