mod FailingCalls
pub mod Written
