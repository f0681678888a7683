pub mod Replies
pub mod Queues
pub mod Replying
