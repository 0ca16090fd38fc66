pub mod GoodUtf8
