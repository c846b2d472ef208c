mod Back
mod Firsts
mod Told
mod Views
