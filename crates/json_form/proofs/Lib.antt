pub mod Lists
pub mod Exact
pub mod Again
pub mod TextForms
