pub mod WrittenLists
