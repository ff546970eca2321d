pub mod Lists
pub mod Numbers
pub mod Sums
pub mod Words
