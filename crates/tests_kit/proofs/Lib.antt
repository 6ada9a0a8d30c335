pub mod WholeSpaces
