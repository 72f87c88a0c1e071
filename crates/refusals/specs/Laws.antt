pub mod Lines
pub mod Descent
pub mod Every
pub mod Numbers
pub mod BadStep
pub mod Places
pub mod Fine
pub mod Steady
