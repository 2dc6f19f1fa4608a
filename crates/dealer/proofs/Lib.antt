pub mod Laying
pub mod Placing
pub mod Tabling
pub mod Contents
pub mod Checking
