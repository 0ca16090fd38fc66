pub mod IndexCode
