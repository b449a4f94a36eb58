mod Boards
mod Claiming
mod Ending
mod Others
