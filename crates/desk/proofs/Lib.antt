pub mod Standing
pub mod KindLaws
pub mod Once
pub mod OpenPages
pub mod Passed
pub mod Tests
pub mod Lent
