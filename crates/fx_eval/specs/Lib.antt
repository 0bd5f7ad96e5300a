pub mod Setups
pub mod Cuts
pub mod Wholes
pub mod Readers
pub mod Inputs
pub mod Filled
pub mod Flights
pub mod Renders
