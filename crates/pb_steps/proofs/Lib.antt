pub mod Planned
pub mod Leads
pub mod Used
pub mod Prepared
