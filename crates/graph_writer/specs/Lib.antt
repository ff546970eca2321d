pub mod WrittenWords
