pub mod Bounding
pub mod Fitting
pub mod Known
pub mod Refusing
