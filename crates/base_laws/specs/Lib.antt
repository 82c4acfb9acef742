pub mod Lists
pub mod Ints
pub mod Fill
