pub mod Requests
pub mod Turning
pub mod TypeTold
pub mod Answering
