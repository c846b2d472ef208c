pub mod Agree
pub mod Alone
pub mod Laws
pub mod Notified
pub mod Words
