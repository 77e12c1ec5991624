pub mod TableLists
