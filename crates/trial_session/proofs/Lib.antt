mod Cutting
mod Going
mod Concluding
