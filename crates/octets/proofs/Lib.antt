pub mod Ending
pub mod Fit
pub mod Lift
pub mod Loops
pub mod OnePel
pub mod Runs
pub mod Unit
