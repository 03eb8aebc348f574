pub mod Found
pub mod Released
