pub mod LeftOpen
