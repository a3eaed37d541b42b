pub mod Digits
pub mod FourFields
pub mod HexPairs
pub mod OneRead
pub mod RowsOfCallers
pub mod RowsRead
pub mod RowsWithin
