pub mod DecimalText
pub mod Decimals
pub mod HexBack
pub mod HexText
pub mod Numbers
