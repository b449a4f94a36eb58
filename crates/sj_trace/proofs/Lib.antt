mod Numbers
mod Taking
mod Telling
mod Joining
mod Progress
mod Differing
mod Writing
