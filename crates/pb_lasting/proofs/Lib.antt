mod Visits
mod Order
mod Marks
mod Sinces
mod Lasted
