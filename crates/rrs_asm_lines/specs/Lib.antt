-- The lines of a source, the parts of a line, and the words of a part.
pub mod Lines
