pub mod CountedPages
pub mod Ledger
