pub mod Numbers
pub mod GivenOut
pub mod Waiting
