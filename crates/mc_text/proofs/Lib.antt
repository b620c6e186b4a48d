mod Pairs
mod Numbers
mod Blocks
mod Steps
mod Beginnings
mod Sections
mod Lone
