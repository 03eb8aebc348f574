pub mod ClosedWindow
