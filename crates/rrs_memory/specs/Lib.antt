-- Memory: bytes at addresses, what each memory keeps, and the memories of the kit.
-- docs/TRUST.md leads through them.
pub mod Bytes
pub mod AccessLists
pub mod VecBytes
pub mod SliceBytes
pub mod Spaces
pub mod Hexadecimal
pub mod Loading
pub mod LoadTexts
-- The code as seen by these.
pub mod SpaceFields
pub mod SpaceLends
