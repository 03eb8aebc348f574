pub mod WindowRefused
pub mod WindowPolls
pub mod WindowPumping
pub mod WindowOpening
pub mod WindowClosing
