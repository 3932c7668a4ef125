mod Unread
mod Arguments
