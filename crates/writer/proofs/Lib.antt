pub mod Admits
pub mod Filing
