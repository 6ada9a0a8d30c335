pub mod CountDown
pub mod GreetingMachine
