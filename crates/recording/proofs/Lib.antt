pub mod Apart
pub mod Hexadecimal
pub mod Behind
pub mod Laying
pub mod Ascii
