pub mod Same
pub mod Arguments
pub mod Lists
