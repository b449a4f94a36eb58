pub mod Keeping
pub mod Least
pub mod Lists
pub mod Queues
pub mod Serving
pub mod Urgency
