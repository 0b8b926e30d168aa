mod AsBox
mod Runs
mod Told
mod Walked
