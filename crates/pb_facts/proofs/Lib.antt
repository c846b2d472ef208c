mod Entries
mod Puts
mod InSlots
