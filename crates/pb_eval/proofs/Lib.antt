pub mod Equality
pub mod Outcomes
pub mod Turns
pub mod MadeTexts
pub mod Counted
pub mod Trees
