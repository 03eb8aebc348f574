pub mod SeatPlans
pub mod SeatAnswers
pub mod Seated
