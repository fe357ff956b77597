pub mod Pels
