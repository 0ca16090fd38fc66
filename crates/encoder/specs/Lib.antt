pub mod WriterCode
