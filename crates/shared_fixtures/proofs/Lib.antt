mod Exchanging
mod Putting
mod Worked
