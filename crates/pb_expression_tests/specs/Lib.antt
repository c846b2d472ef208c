pub mod Numbers
pub mod TwoHosts
