mod Feeds
mod Turns
