mod Drawing
mod Files
mod Ranges
mod Whole
