pub mod PrintedBook
pub mod PrintableBook
pub mod PrintedSignatures
pub mod PrintedInventory
pub mod PrintableInventory
