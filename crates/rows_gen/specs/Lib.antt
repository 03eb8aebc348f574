pub mod GeneratedRows
