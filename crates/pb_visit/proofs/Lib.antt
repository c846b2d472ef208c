mod Held
mod Looped
mod OnGround
mod Ends
mod Either
mod Making
mod Leading
