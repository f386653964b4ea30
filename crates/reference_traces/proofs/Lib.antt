mod Latest
mod Only
mod Taken
mod Follows
mod Growth
mod Added
