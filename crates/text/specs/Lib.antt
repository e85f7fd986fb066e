pub mod Letters
pub mod Fields
pub mod Places
pub mod Digits
pub mod Cutting
