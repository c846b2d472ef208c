pub mod FitView
pub mod InferredView
pub mod SpotFound
pub mod Words
