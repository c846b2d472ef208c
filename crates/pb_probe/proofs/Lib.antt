mod Shapes
mod Tellings
