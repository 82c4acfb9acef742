pub mod Asking
pub mod Numbers
