pub mod Roots
mod Shared
