pub mod ReaderCalls
