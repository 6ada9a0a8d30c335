pub mod Accounts
pub mod Digits
pub mod LoadEnds
pub mod Printed
pub mod Printing
